-- What a stored rule of an accepted policy names: values that are declared (libsepol's policydb_validate), and a part that goes with
-- its kind.
use Rattle.std.specs.Prelude.{◌≡◌, ℕ, ◌<◌, Bool, true, false, is_some, Option, Some, None, List, length}
use Rattle.pol_cursor.specs.References.{Placed}
use Rattle.pol_fields.specs.declared.TableKind.{TableKind}
use Rattle.pol_fields.specs.declared.TableKind.TheVariants.{Classes}
use Rattle.pol_symbols.specs.PolicySymbols.{name_in}
use Rattle.pol_symbols.specs.declared.Symbols.{Symbols}
use Rattle.pol_conditionals.specs.declared.CondNodeRec.{CondNodeRec}
use Rattle.pol_read.specs.declared.rule.RuleKind.{RuleKind}
use Rattle.pol_read.specs.declared.rule.RuleKind.TheVariants.{Allow, Auditallow, Dontaudit, AllowXperm, AuditallowXperm, DontauditXperm, TypeTransition, TypeChange, TypeMember, RoleAllow, RoleTransition, RangeTransition}
use Rattle.pol_read.specs.declared.rule.RulePart.{RulePart}
use Rattle.pol_read.specs.declared.rule.RulePart.TheVariants.{Perms, Numbers, Default, Range, Nothing}
use Rattle.pol_read.specs.declared.rule.Condition.{Condition}
use Rattle.pol_read.specs.declared.rule.RuleEnds.{RuleEnds}
use Rattle.pol_file.specs.declared.Parts.{Parts}
use Rattle.pol_read.specs.StoredRules.{StoredRule}
use Rattle.pol_read.specs.RuleKinds.{source_table, target_table, default_table}

-- a primary record of the table has the value
abbrev pub IsDeclaredIn : Symbols → TableKind → ℕ → Type 0
IsDeclaredIn symbols table value = is_some (name_in symbols table value) ≡ true

-- A role allow has no class, and the class of the other rules is declared.
abbrev pub ClassIsDeclared : Symbols → RuleKind → ℕ → Type 0
ClassIsDeclared symbols RoleAllow class = class ≡ 0
ClassIsDeclared symbols other class = IsDeclaredIn symbols Classes class

-- the parts that the rules of a kind have
abbrev pub goes_with : RuleKind → RulePart → Bool
goes_with Allow (Perms mask) = true
goes_with Auditallow (Perms mask) = true
goes_with Dontaudit (Perms mask) = true
goes_with AllowXperm (Numbers numbers) = true
goes_with AuditallowXperm (Numbers numbers) = true
goes_with DontauditXperm (Numbers numbers) = true
goes_with TypeTransition (Default value) = true
goes_with TypeChange (Default value) = true
goes_with TypeMember (Default value) = true
goes_with RoleAllow Nothing = true
goes_with RoleTransition (Default value) = true
goes_with RangeTransition (Range range) = true
goes_with other part = false

-- The default of a rule is declared, where it has one.
abbrev pub DefaultIsDeclared : Symbols → RuleKind → RulePart → Type 0
DefaultIsDeclared symbols kind (Default value) = IsDeclaredIn symbols (default_table kind) value
DefaultIsDeclared symbols kind other = Unit {0}

-- The conditional node that a rule stands under is there.
abbrev pub StandsUnder : List (Placed CondNodeRec) → Option Condition → Type 0
StandsUnder nodes None = Unit {0}
StandsUnder nodes (Some condition) = condition.node < length nodes

-- What a rule names is declared, and its part goes with its kind.
pub record IsDeclaredRule (policy : Parts) (rule : StoredRule) : Type 0 where
  pub source : IsDeclaredIn policy.symbols (source_table rule.kind) rule.source
  pub target : IsDeclaredIn policy.symbols (target_table rule.kind) rule.target
  pub class : ClassIsDeclared policy.symbols rule.kind rule.class
  pub part : goes_with rule.kind rule.part ≡ true
  pub default : DefaultIsDeclared policy.symbols rule.kind rule.part
  pub condition : StandsUnder policy.rules.conditionals rule.condition

-- What the ends of a rule and its class name is declared.
pub record AreDeclaredEnds (policy : Parts) (ends : RuleEnds) : Type 0 where
  pub source : IsDeclaredIn policy.symbols (source_table ends.kind) ends.source
  pub target : IsDeclaredIn policy.symbols (target_table ends.kind) ends.target
  pub class : ClassIsDeclared policy.symbols ends.kind ends.class
