-- Rules between numbers, and what two lists of them give differently between a single source and a single target.
use Rattle.std.specs.Prelude.{ℕ, Bool, true, not, ◌&&◌, ◌==◌, List, map, length, nat_lt, if◌then◌else◌}
use Rattle.std.specs.List.{filter, flat_map, list_any}
use Rattle.std.specs.Ordering.{nat_cmp, on, then_cmp}
use Rattle.std.specs.declared.cmp.Ordering.{Ordering}
use Rattle.std.specs.Cmp.Lexicographic.{pointwise}
use Rattle.keyed_lists.specs.KeyOrder.{keys_in_order}
use Rattle.keyed_lists.specs.Differences.{Both, differences}
use Rattle.numbered_rules.specs.declared.key.SingleKey.{SingleKey}
use Rattle.numbered_rules.specs.declared.key.Counting.{Counting}
use Rattle.numbered_rules.specs.declared.key.Counting.TheVariants.{All, Permissions}

-- A rule joins each of its sources with each of its targets, for a class, a file name and a condition, where 0 stands for no name and
-- no condition. It gives numbers.
pub record NumberedRule : Type 0 where
  pub sources : List ℕ
  pub targets : List ℕ
  pub class : ℕ
  pub name : ℕ
  pub condition : ℕ
  pub given : List ℕ

-- a number is one of some numbers
abbrev pub has : List ℕ → ℕ → Bool
has numbers n = list_any (λ m. m == n) numbers

-- a rule has the class, the file name and the condition of a key
abbrev pub is_labelled : SingleKey → NumberedRule → Bool
is_labelled key rule = (rule.class == key.class) && ((rule.name == key.name) && (rule.condition == key.condition))

-- a rule speaks of a key
abbrev pub covers : SingleKey → NumberedRule → Bool
covers key rule = has rule.sources key.source && (has rule.targets key.target && is_labelled key rule)

-- what rules give together, rising, each number once
abbrev pub given_together : List NumberedRule → List ℕ
given_together rules = keys_in_order nat_cmp (flat_map (λ rule. rule.given) rules)

-- what those of them give that speak of a key
unfoldable pub given_at : List NumberedRule → SingleKey → List ℕ
given_at rules key = given_together (filter (covers key) rules)

-- the key that has no condition
abbrev pub unconditioned : SingleKey → SingleKey
unconditioned key = record { source = key.source; target = key.target; class = key.class; name = key.name; condition = 0 }

-- some numbers without others
abbrev pub without : List ℕ → List ℕ → List ℕ
without others numbers = filter (λ n. not (has others n)) numbers

-- What counts of what is given at a key: all of it, or, for permissions, what is not given without a condition too.
abbrev pub counted : Counting → SingleKey → List ℕ → List ℕ → List ℕ
counted All key unconditional given = given
counted Permissions key unconditional given = if key.condition == 0 then given else without unconditional given

-- what counts at a key
abbrev pub counted_at : Counting → List NumberedRule → SingleKey → List ℕ
counted_at counting rules key = counted counting key (given_at rules (unconditioned key)) (given_at rules key)

-- a key with what counts there
pub record SingleEntry : Type 0 where
  pub key : SingleKey
  pub given : List ℕ

-- the keys that a rule speaks of
abbrev pub keys_of_rule : NumberedRule → List SingleKey
keys_of_rule rule =
    flat_map (λ source. map (λ target. record { source = source; target = target; class = rule.class; name = rule.name; condition = rule.condition }) rule.targets) rule.sources

-- An entry is one also where nothing counts, but for permissions.
abbrev pub is_entry : Counting → SingleEntry → Bool
is_entry All entry = true
is_entry Permissions entry = nat_lt 0 (length entry.given)

-- each key that some rule speaks of, with what counts there
unfoldable pub single_entries : Counting → List NumberedRule → List SingleEntry
single_entries counting rules =
    filter (is_entry counting) (map (λ key. record { key = key; given = counted_at counting rules key }) (flat_map keys_of_rule rules))

-- keys are compared by their elements, one after the other
abbrev pub key_cmp : SingleKey → SingleKey → Ordering
key_cmp =
    then_cmp (on (λ key. key.source) nat_cmp)
    (then_cmp (on (λ key. key.target) nat_cmp)
    (then_cmp (on (λ key. key.class) nat_cmp)
    (then_cmp (on (λ key. key.name) nat_cmp)
    (on (λ key. key.condition) nat_cmp))))

-- what counts at two entries is the same
abbrev pub same_given : SingleEntry → SingleEntry → Bool
same_given a b = pointwise ◌==◌ a.given b.given

-- the differences between the single entries of two lists of rules
unfoldable pub single_differences : Counting → List NumberedRule → List NumberedRule → List (Both SingleEntry)
single_differences counting first second =
    differences key_cmp (λ entry. entry.key) same_given (single_entries counting first) (single_entries counting second)
