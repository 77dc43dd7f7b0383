-- Rules that stand under one of their ends, each with its other end.
use Rattle.std.specs.Prelude.{◌≡◌, ℕ, ◌+◌, ◌≤◌, ◌==◌, true, Option, Some, None, List, [], length, map, slice_get, slice_index_or}
use Rattle.std.specs.List.{All, filter}
use Rattle.std.specs.List.Sorted.{IsPermutation}
use Rattle.pol_file.specs.declared.Parts.{Parts}
use Rattle.pol_read.specs.declared.RuleEnds.{RuleEnds}
use Rattle.pol_read.specs.StoredRules.{StoredRule, ends_of, stored_rules}
use Rattle.rules_by_end.specs.declared.rule_row.RuleRow.{RuleRow}
use Rattle.rules_by_end.specs.declared.source_or_target.RuleEnd.{RuleEnd}
use Rattle.rules_by_end.specs.declared.source_or_target.RuleEnd.TheVariants.{Source, Target}
use Rattle.pol_expand.specs.JoinedTypes.{is_between_types, joins, sources_to, targets_from}

-- What a caller sees: a policy, the end that the rules stand under, and the rows under each value, by value from 0 on.
pub record RulesByEnd : Type 0 where
  pub policy : Parts
  pub near : RuleEnd
  pub rows : List (List RuleRow)

-- ---- the ends of a rule

abbrev pub other_end : RuleEnd → RuleEnd
other_end Source = Target
other_end Target = Source

abbrev pub end_of : RuleEnd → RuleEnds → ℕ
end_of Source ends = ends.source
end_of Target ends = ends.target

abbrev pub end_found : RuleEnd → Option StoredRule → ℕ
end_found end None = 0
end_found end (Some rule) = end_of end (ends_of rule)

-- an end of the stored rule of a number
unfoldable pub stored_end : Parts → RuleEnd → ℕ → ℕ
stored_end policy end number = end_found end (slice_get (stored_rules policy) number)

-- ---- rows

-- a rule under one of its ends
abbrev pub row_of : Parts → RuleEnd → ℕ → RuleRow
row_of policy near number = record { rule = number; far = stored_end policy (other_end near) number }

-- the rules that have a value as that end
abbrev pub rules_under : Parts → RuleEnd → List ℕ → ℕ → List ℕ
rules_under policy near rules value = filter (λ number. stored_end policy near number == value) rules

-- the rows under a value
abbrev pub rows_under : List (List RuleRow) → ℕ → List RuleRow
rows_under rows value = slice_index_or rows value []

-- Under each value stand the rules that have it as that end, in any order of their own.
pub record AreRowsOf (policy : Parts) (near : RuleEnd) (rules : List ℕ) (rows : List (List RuleRow)) : Type 0 where
  pub count : length rows ≡ policy.symbols.types.nprim + 1
  pub each : (value : ℕ) → value ≤ policy.symbols.types.nprim → IsPermutation (rows_under rows value) (map (row_of policy near) (rules_under policy near rules value))

-- The rules that are kept, whose ends are types and attributes, are these.
pub record HoldRules (table : RulesByEnd) (rules : List ℕ) : Type 0 where
  pub between : All (λ number. is_between_types table.policy number ≡ true) rules
  pub rows : AreRowsOf table.policy table.near rules table.rows

-- ---- what is asked of them

-- Of some rules, those that join two types, each as often as it is among them, in any order.
abbrev pub AreRulesBetween : Parts → List ℕ → ℕ → ℕ → List ℕ → Type 0
AreRulesBetween policy rules source target found = IsPermutation found (filter (joins policy source target) rules)

-- the types that the rules join a type to, which stands at that end, rising
abbrev pub others_of : RuleEnd → Parts → List ℕ → ℕ → List ℕ
others_of Source policy rules type = targets_from policy rules type
others_of Target policy rules type = sources_to policy rules type
