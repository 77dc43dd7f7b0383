-- The stored rule of a number, its ends and its kind.
use Rattle.std.proofs.Common.{◌≡◌, ℕ, ◌<◌, Ok, Some, List, length, slice_get, sym, ap, ◌∙◌}
use Rattle.std.specs.Option.{option_map}
use Rattle.std.proofs.lemmas.Option.{same_Some, slice_get-get_or, slice_get_within}
use Rattle.pol_file.specs.declared.Parts.{Parts}
use Rattle.pol_file.specs.Acceptance.{accept}
use Rattle.pol_read.specs.declared.rule.RuleEnds.{RuleEnds}
use Rattle.pol_read.specs.DeclaredRules.{IsDeclaredRule}
use Rattle.pol_read.specs.StoredRules.{ends_of, stored_rules}
use Rattle.pol_read.proofs.RulesDeclared.{rule_is_declared, rule_with_ends}
use Rattle.rule_query.specs.Inner.NumberedRules.{IsRuleAt, no_rule, rule_at}

pub is_there : (policy : Parts) (number : ℕ) → number < length (stored_rules policy) → slice_get (stored_rules policy) number ≡ Some (rule_at policy number)
unfolding rule_at
is_there policy number lt = slice_get-get_or (stored_rules policy) number no_rule lt

pub ends_are : (policy : Parts) (number : ℕ) (ends : RuleEnds) → number < length (stored_rules policy) → option_map ends_of (slice_get (stored_rules policy) number) ≡ Some ends → ends ≡ ends_of (rule_at policy number)
ends_are policy number ends lt e = same_Some ends (ends_of (rule_at policy number)) (sym e ∙ ap (option_map ends_of) (is_there policy number lt))

-- a rule that has ends is there
pub has_ends : (policy : Parts) (number : ℕ) (ends : RuleEnds) → option_map ends_of (slice_get (stored_rules policy) number) ≡ Some ends → number < length (stored_rules policy)
has_ends policy number ends e = let found = rule_with_ends policy number ends e in slice_get_within (stored_rules policy) number found.0 found.1

pub rule_is_at : (policy : Parts) (number : ℕ) (ends : RuleEnds) → option_map ends_of (slice_get (stored_rules policy) number) ≡ Some ends → IsRuleAt policy number ends
rule_is_at policy number ends e = let within = has_ends policy number ends e in record { within = within; ends_are = ends_are policy number ends within e }

pub is_declared : (bytes : List ℕ) (policy : Parts) (number : ℕ) → accept bytes ≡ Ok policy → number < length (stored_rules policy) → IsDeclaredRule policy (rule_at policy number)
is_declared bytes policy number accepted lt = rule_is_declared bytes policy number (rule_at policy number) accepted (is_there policy number lt)
