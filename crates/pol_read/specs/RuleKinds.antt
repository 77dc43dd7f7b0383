-- The kinds of rules: their order, and the tables of what their rules name.
use Rattle.std.specs.Prelude.{ℕ}
use Rattle.pol_fields.specs.declared.TableKind.{TableKind}
use Rattle.pol_fields.specs.declared.TableKind.TheVariants.{Roles, Types}
use Rattle.pol_read.specs.declared.rule.RuleKind.{RuleKind}
use Rattle.pol_read.specs.declared.rule.RuleKind.TheVariants.{Allow, Auditallow, Dontaudit, AllowXperm, AuditallowXperm, DontauditXperm, TypeTransition, TypeChange, TypeMember, RoleAllow, RoleTransition, RangeTransition}

-- the kinds in the order in which they are listed
abbrev pub kind_number : RuleKind → ℕ
kind_number Allow = 0
kind_number Auditallow = 1
kind_number Dontaudit = 2
kind_number AllowXperm = 3
kind_number AuditallowXperm = 4
kind_number DontauditXperm = 5
kind_number TypeTransition = 6
kind_number TypeChange = 7
kind_number TypeMember = 8
kind_number RoleAllow = 9
kind_number RoleTransition = 10
kind_number RangeTransition = 11

-- what declares the sources of the rules of a kind: roles, or types with the attributes
abbrev pub source_table : RuleKind → TableKind
source_table RoleAllow = Roles
source_table RoleTransition = Roles
source_table other = Types

-- and what declares their targets
abbrev pub target_table : RuleKind → TableKind
target_table RoleAllow = Roles
target_table other = Types

-- The default of a role transition is a role, and that of the other rules a type.
abbrev pub default_table : RuleKind → TableKind
default_table RoleTransition = Roles
default_table other = Types
