-- The stored rule of a number, as a record where there is none too, and its ends. It serves the code alone.
use Rattle.std.specs.Prelude.{◌≡◌, ◌<◌, ℕ, None, length, slice_index_or}
use Rattle.pol_file.specs.declared.Parts.{Parts}
use Rattle.pol_read.specs.declared.RuleKind.TheVariants.{Allow}
use Rattle.pol_read.specs.declared.rule.RuleEnds.{RuleEnds}
use Rattle.pol_read.specs.declared.RulePart.TheVariants.{Nothing}
use Rattle.pol_read.specs.StoredRules.{StoredRule, ends_of, stored_rules}

-- a rule that names nothing
abbrev pub no_rule : StoredRule
no_rule = record { kind = Allow; source = 0; target = 0; class = 0; part = Nothing; name = None; condition = None }

unfoldable pub rule_at : Parts → ℕ → StoredRule
rule_at policy number = slice_index_or (stored_rules policy) number no_rule

-- there is a stored rule of a number, and it has these ends
pub record IsRuleAt (policy : Parts) (number : ℕ) (ends : RuleEnds) : Type 0 where
  pub within : number < length (stored_rules policy)
  pub ends_are : ends ≡ ends_of (rule_at policy number)
