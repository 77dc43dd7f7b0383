-- The differences source by source, and target by target.
use Rattle.std.specs.Prelude.{◌≡◌, ◌⊎◌, ℕ, Bool, true, Option, Some, None, List, [], ◌∷◌, ◌++◌, map, if◌then◌else◌}
use Rattle.std.specs.List.{filter, flat_map, list_any}
use Rattle.std.specs.Ordering.{nat_cmp}
use Rattle.keyed_lists.specs.KeyOrder.{keys_in_order, with_key}
use Rattle.keyed_lists.specs.Differences.{Both, is_difference}
use Rattle.numbered_rules.specs.declared.key.SingleKey.{SingleKey}
use Rattle.numbered_rules.specs.declared.key.Counting.{Counting}
use Rattle.numbered_rules.specs.NumberedRules.{NumberedRule, SingleEntry, counted, covers, given_together, has, is_entry, is_labelled, key_cmp, same_given, unconditioned}

-- an entry, where it is one
abbrev pub entry_if : Counting → SingleEntry → Option SingleEntry
entry_if counting entry = if is_entry counting entry then Some entry else None

-- the entry of a key, by the rules that speak of it, and those that do so without a condition
abbrev pub value_of : Counting → SingleKey → List NumberedRule → List NumberedRule → Option SingleEntry
value_of counting key unconditional [] = None
value_of counting key unconditional (rule ∷ rules) =
    entry_if counting (record { key = key; given = counted counting key (given_together unconditional) (given_together (rule ∷ rules)) })

-- the entry of a key
abbrev pub value_at : Counting → List NumberedRule → SingleKey → Option SingleEntry
value_at counting rules key = value_of counting key (filter (covers (unconditioned key)) rules) (filter (covers key) rules)

-- what counts at a key among rules that all have its source and its target
unfoldable pub labelled_value : Counting → List NumberedRule → SingleKey → Option SingleEntry
labelled_value counting rules key = value_of counting key (filter (is_labelled (unconditioned key)) rules) (filter (is_labelled key) rules)

-- what two lists have of a key
unfoldable pub both_labelled : Counting → List NumberedRule → List NumberedRule → SingleKey → Both SingleEntry
both_labelled counting first second key = record { first = labelled_value counting first key; second = labelled_value counting second key }

-- the key of a rule between a source and a target
abbrev pub key_between : ℕ → ℕ → NumberedRule → SingleKey
key_between source target rule = record { source = source; target = target; class = rule.class; name = rule.name; condition = rule.condition }

abbrev pub cell_keys : ℕ → ℕ → List NumberedRule → List SingleKey
cell_keys source target rules = keys_in_order key_cmp (map (key_between source target) rules)

-- the differences at a source and a target, of which all these rules speak
unfoldable pub cell_differences : Counting → ℕ → ℕ → List NumberedRule → List NumberedRule → List (Both SingleEntry)
cell_differences counting source target first second =
    filter (is_difference same_given) (map (both_labelled counting first second) (cell_keys source target (first ++ second)))

abbrev pub with_source : ℕ → List NumberedRule → List NumberedRule
with_source source rules = filter (λ rule. has rule.sources source) rules

abbrev pub with_target : ℕ → List NumberedRule → List NumberedRule
with_target target rules = filter (λ rule. has rule.targets target) rules

-- the differences at a source, of which all these rules speak, and a target
unfoldable pub target_differences : Counting → ℕ → List NumberedRule → List NumberedRule → ℕ → List (Both SingleEntry)
target_differences counting source first second target = cell_differences counting source target (with_target target first) (with_target target second)

-- the targets of rules of a source
unfoldable pub row_targets : List NumberedRule → ℕ → List ℕ
row_targets left source = keys_in_order nat_cmp (flat_map (λ rule. rule.targets) (with_source source left))

-- The differences at a source. Only the targets of some of the rules are looked at.
unfoldable pub row_differences : Counting → List NumberedRule → List NumberedRule → List NumberedRule → ℕ → List (Both SingleEntry)
row_differences counting left first second source =
    flat_map (target_differences counting source (with_source source first) (with_source source second)) (row_targets left source)

-- the sources of rules
unfoldable pub all_sources : List NumberedRule → List ℕ
all_sources left = keys_in_order nat_cmp (flat_map (λ rule. rule.sources) left)

-- Two lists have the same rules, but for some that are left.
pub record HaveLeft (left first second : List NumberedRule) : Type 0 where
  pub of_first : (test : NumberedRule → Bool) → list_any test first ≡ true → (list_any test second ≡ true) ⊎ (list_any test left ≡ true)
  pub of_second : (test : NumberedRule → Bool) → list_any test second ≡ true → (list_any test first ≡ true) ⊎ (list_any test left ≡ true)

-- keys put among those that are there, from the last to the first
abbrev pub with_keys : List SingleKey → List SingleKey → List SingleKey
with_keys [] there = there
with_keys (key ∷ keys) there = with_key key_cmp key (with_keys keys there)

-- some rule has a class
abbrev pub has_class : List NumberedRule → ℕ → Bool
has_class rules class = has (map (λ rule. rule.class) rules) class

-- the rules whose class is that of some of those that are left
abbrev pub of_classes : List NumberedRule → List NumberedRule → List NumberedRule
of_classes left rules = filter (λ rule. has_class left rule.class) rules

-- Rules are those of a list that have the classes of what is left: a test finds one among these or among those.
abbrev pub AreOfClasses : List NumberedRule → List NumberedRule → List NumberedRule → Type 0
AreOfClasses left all rules = (test : NumberedRule → Bool) → list_any test rules ≡ list_any test (of_classes left all)
