-- The ends of rules that give permissions are types and attributes.
use Rattle.std.proofs.Common.{◌≡◌, ℕ, true, Option, Some, None, refl}
use Rattle.std.proofs.lemmas.Bool.{false≢true}
use Rattle.pol_read.specs.declared.RuleKind.{RuleKind}
use Rattle.pol_read.specs.declared.RuleKind.TheVariants.{Allow}
use Rattle.pol_read.specs.declared.RulePart.{RulePart}
use Rattle.pol_read.specs.StoredRules.{StoredRule}
use Rattle.pol_expand.specs.JoinedTypes.{has_type_ends}
use Rattle.rule_grants.specs.declared.permission.Permission.{Permission}
use Rattle.rule_grants.specs.Grants.{gives, part_gives}

part_is_allow : (permission : Permission) (kind : RuleKind) (class : ℕ) (part : RulePart) → part_gives permission kind class part ≡ true → has_type_ends kind ≡ true
part_is_allow permission Allow class part e = refl
part_is_allow permission other class part e = absurd (false≢true e)

pub gives_types : (permission : Option Permission) (rule : StoredRule) → gives permission rule ≡ true → has_type_ends rule.kind ≡ true
gives_types None rule e = absurd (false≢true e)
gives_types (Some permission) rule e = part_is_allow permission rule.kind rule.class rule.part e
