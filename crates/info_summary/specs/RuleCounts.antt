-- How many stored rules there are of each kind.
use Rattle.std.specs.Prelude.{ℕ, nat_eq, Bool, List, map}
use Rattle.std.specs.List.{count_by, range_with_len}
use Rattle.pol_read.specs.declared.RuleKind.{RuleKind}
use Rattle.pol_file.specs.declared.Parts.{Parts}
use Rattle.pol_read.specs.StoredRules.{StoredRule, stored_rules}
use Rattle.pol_read.specs.RuleKinds.{kind_number}

-- a rule is of the kind of that number
abbrev pub is_of_kind : ℕ → StoredRule → Bool
is_of_kind number rule = nat_eq (kind_number rule.kind) number

-- how many stored rules of a policy are of a kind
abbrev pub rule_count : Parts → RuleKind → ℕ
rule_count policy kind = count_by (is_of_kind (kind_number kind)) (stored_rules policy)

-- how many of these rules are of each kind, by the numbers of the twelve kinds
unfoldable pub kind_counts : List StoredRule → List ℕ
kind_counts rules = map (λ number. count_by (is_of_kind number) rules) (range_with_len 0 12)
