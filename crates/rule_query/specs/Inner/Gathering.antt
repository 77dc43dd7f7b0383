-- What was gathered on the way through the stored rules. It serves the code alone.
use Rattle.std.specs.Prelude.{◌≡◌, ℕ, ◌+◌, ◌<◌, ◌≤◌, Bool, false, Option, Some, None, List, [], ◌∷◌, length, slice_get}
use Rattle.std.specs.List.{filter, range_with_len}
use Rattle.pol_cursor.specs.References.{Placed}
use Rattle.pol_avtab.specs.declared.AvRec.{AvRec}
use Rattle.pol_symbols.specs.declared.Symbols.{Symbols}
use Rattle.pol_file.specs.declared.Parts.{Parts}
use Rattle.pol_read.specs.declared.Condition.{Condition}
use Rattle.pol_read.specs.StoredRules.{StoredRule, av_rule, stored_rules}
use Rattle.rule_criteria.specs.declared.Criteria.{Criteria}
use Rattle.rule_tests.specs.Inner.AskedVectors.{VectorMarks, may_be_asked}
use Rattle.rule_order.specs.declared.found_rules.FoundRules.{FoundRules}
use Rattle.rule_query.specs.declared.query.Query.{Query}
use Rattle.rule_query.specs.Meeting.{meets}
use Rattle.rule_query.specs.Queries.{IsQueryOf}
use Rattle.rule_query.specs.QueryTests.{passes}
use Rattle.rule_order.specs.FoundRules.{AreFound, limit_of}

-- the rules below a number that meet the criteria of a query, and no others
pub record HasMet (policy : Parts) (query : Query) (below : ℕ) (found : FoundRules) : Type 0 where
  pub within : below ≤ length (stored_rules policy)
  pub few : length (stored_rules policy) ≤ 400000000
  pub numbers : List ℕ
  pub gathered : AreFound policy numbers found
  pub meet : (criteria : Criteria) → IsQueryOf policy criteria query → numbers ≡ filter (meets policy criteria) (range_with_len 0 below)

-- they were found so, and as many of them are to be listed as at first
pub record HasFound (policy : Parts) (query : Query) (below : ℕ) (before found : FoundRules) : Type 0 where
  pub met : HasMet policy query below found
  pub limit : limit_of found ≡ limit_of before

-- rules stand among those of a policy, one behind the other, from a number on
pub record StandFrom (policy : Parts) (first : ℕ) (rules : List StoredRule) : Type 0 where
  pub at : (i : ℕ) → i < length rules → slice_get (stored_rules policy) (first + i) ≡ slice_get rules i

-- ---- the rules of the table

-- no access vector passes that the marks pass over, under a condition or under none
pub record PassesOver (query : Query) (marks : VectorMarks) : Type 0 where
  pub at : (symbols : Symbols) (condition : Option Condition) (av : Placed AvRec) → may_be_asked marks av.value ≡ false → passes symbols query (av_rule condition av) ≡ false

-- a rule passes, where there is one
abbrev pub is_passing : Parts → Query → Option StoredRule → Bool
is_passing policy query None = false
is_passing policy query (Some rule) = passes policy.symbols query rule

-- the stored rule of a number does
unfoldable pub passes_at : Parts → Query → ℕ → Bool
passes_at policy query n = is_passing policy query (slice_get (stored_rules policy) n)

-- numbers rise from one up to another, and no other number between these two is wanted
abbrev pub Gathers : (ℕ → Bool) → ℕ → List ℕ → ℕ → Type 0
Gathers wanted from [] to = (from ≤ to) × ((n : ℕ) → from ≤ n → n < to → wanted n ≡ false)
Gathers wanted from (number ∷ numbers) to = (from ≤ number) × ((n : ℕ) → from ≤ n → n < number → wanted n ≡ false) × Gathers wanted (number + 1) numbers to
