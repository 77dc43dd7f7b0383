-- What two lists have at a key is told by the rules that speak of it.
use Rattle.std.proofs.Common.{◌≡◌, ℕ, Bool, true, false, cond, Option, Some, None, List, [], ◌∷◌, ◌++◌, map, refl, sym, ap, ◌∙◌}
use Rattle.std.specs.Prelude.{◌||◌, ◌&&◌, ◌==◌}
use Rattle.std.specs.List.{filter, flat_map, list_any}
use Rattle.std.specs.Ordering.{nat_cmp}
use Rattle.std.specs.Cmp.Lexicographic.{pointwise}
use Rattle.keyed_lists.specs.KeyOrder.{keys_of_both}
use Rattle.keyed_lists.specs.Differences.{Both, both_with, entry_with, differences, is_difference}
use Rattle.keyed_lists.proofs.DifferenceLaws.{spoken_of}
use Rattle.keyed_lists.proofs.Rising.{Rises, in_order_rises}
use Rattle.numbered_rules.specs.declared.key.SingleKey.{SingleKey}
use Rattle.numbered_rules.specs.declared.key.Counting.{Counting}
use Rattle.numbered_rules.specs.NumberedRules.{NumberedRule, SingleEntry, counted, counted_at, covers, given_at, given_together, has, is_entry, is_labelled, key_cmp, keys_of_rule, same_given, single_differences, single_entries, unconditioned}
use Rattle.numbered_rules.specs.Inner.Cells.{entry_if, value_at, value_of}
use Rattle.numbered_rules.proofs.Tests.{any_agree, any_and_left, any_and_right, any_filter, any_flat_map, any_map, and_both, and_of, eq_itself, filter_mapped, map_agree}
use Rattle.numbered_rules.proofs.Members.{is_key, member, itself, same_key, in_order_same, kept_same}
use Rattle.numbered_rules.proofs.Orders.{key_order, nat_order, tied_keys}

abbrev entry_at : Counting → List NumberedRule → SingleKey → SingleEntry
entry_at counting rules key = record { key = key; given = counted_at counting rules key }

-- the entry of a key, where some rule speaks of it
abbrev pub value_by : Counting → List NumberedRule → SingleKey → Option SingleEntry
value_by counting rules key = cond (list_any (covers key) rules) (entry_if counting (entry_at counting rules key)) None

either_way : (o : Option SingleEntry) (b : Bool) → cond b o o ≡ o
either_way o true = refl
either_way o false = refl

found_among : (counting : Counting) (g : SingleKey → SingleEntry) → ((key : SingleKey) → (g key).key ≡ key) → (key : SingleKey) (keys : List SingleKey)
    → entry_with key_cmp (λ e. e.key) (filter (is_entry counting) (map g keys)) key ≡ cond (member key_cmp keys key) (entry_if counting (g key)) None
found_among counting g of_key key [] = refl
found_among counting g of_key key (k ∷ keys) = by (is_key key_cmp key k) refl (found_among counting g of_key key keys)
  where
    rest : Option SingleEntry
    rest = entry_with key_cmp (λ e. e.key) (filter (is_entry counting) (map g keys)) key

    other : (b : Bool) → is_key key_cmp key k ≡ false
        → entry_with key_cmp (λ e. e.key) (cond b (g k ∷ filter (is_entry counting) (map g keys)) (filter (is_entry counting) (map g keys))) key ≡ rest
    other true e = ap (λ b. cond b (Some (g k)) rest) (ap (is_key key_cmp key) (of_key k) ∙ e)
    other false e = refl

    here : (b : Bool) → is_entry counting (g key) ≡ b → k ≡ key → rest ≡ cond (member key_cmp keys key) (entry_if counting (g key)) None
        → entry_with key_cmp (λ e. e.key) (cond (is_entry counting (g k)) (g k ∷ filter (is_entry counting) (map g keys)) (filter (is_entry counting) (map g keys))) key ≡ entry_if counting (g key)
    here true e same more =
        ap (λ k. entry_with key_cmp (λ e. e.key) (cond (is_entry counting (g k)) (g k ∷ filter (is_entry counting) (map g keys)) (filter (is_entry counting) (map g keys))) key) same
        ∙ ap (λ b. entry_with key_cmp (λ e. e.key) (cond b (g key ∷ filter (is_entry counting) (map g keys)) (filter (is_entry counting) (map g keys))) key) e
        ∙ ap (λ b. cond b (Some (g key)) rest) (ap (is_key key_cmp key) (of_key key) ∙ itself key_cmp key_order key)
        ∙ sym (ap (λ b. cond b (Some (g key)) None) e)
    here false e same more =
        ap (λ k. entry_with key_cmp (λ e. e.key) (cond (is_entry counting (g k)) (g k ∷ filter (is_entry counting) (map g keys)) (filter (is_entry counting) (map g keys))) key) same
        ∙ ap (λ b. entry_with key_cmp (λ e. e.key) (cond b (g key ∷ filter (is_entry counting) (map g keys)) (filter (is_entry counting) (map g keys))) key) e
        ∙ more ∙ ap (λ b. cond (member key_cmp keys key) (cond b (Some (g key)) None) None) e ∙ either_way None (member key_cmp keys key)
        ∙ sym (ap (λ b. cond b (Some (g key)) None) e)

    by : (b : Bool) → is_key key_cmp key k ≡ b → rest ≡ cond (member key_cmp keys key) (entry_if counting (g key)) None
        → entry_with key_cmp (λ e. e.key) (filter (is_entry counting) (map g (k ∷ keys))) key ≡ cond (b || member key_cmp keys key) (entry_if counting (g key)) None
    by true e more = here (is_entry counting (g key)) refl (same_key key_cmp key_order key k e) more
    by false e more = other (is_entry counting (g k)) e ∙ more

-- a rule speaks of a key where that is one of its keys
pub key_covered : (key : SingleKey) (rule : NumberedRule) → member key_cmp (keys_of_rule rule) key ≡ covers key rule
key_covered key rule =
    any_flat_map (is_key key_cmp key) (λ source. map (key_of source) rule.targets) rule.sources
    ∙ any_agree (λ source. list_any (is_key key_cmp key) (map (key_of source) rule.targets)) (λ source. (source == key.source) && (has rule.targets key.target && is_labelled key rule)) of_source rule.sources
    ∙ any_and_right (has rule.targets key.target && is_labelled key rule) (λ source. source == key.source) rule.sources
  where
    key_of : ℕ → ℕ → SingleKey
    key_of source target = record { source = source; target = target; class = rule.class; name = rule.name; condition = rule.condition }

    of_source : (source : ℕ) → list_any (is_key key_cmp key) (map (key_of source) rule.targets) ≡ ((source == key.source) && (has rule.targets key.target && is_labelled key rule))
    of_source source =
        any_map (is_key key_cmp key) (key_of source) rule.targets
        ∙ any_agree (λ target. is_key key_cmp key (key_of source target)) (λ target. (source == key.source) && ((target == key.target) && is_labelled key rule)) (λ target. tied_keys (key_of source target) key) rule.targets
        ∙ any_and_left (source == key.source) (λ target. (target == key.target) && is_labelled key rule) rule.targets
        ∙ ap (λ b. (source == key.source) && b) (any_and_right (is_labelled key rule) (λ target. target == key.target) rule.targets)

pub entry_found : (counting : Counting) (rules : List NumberedRule) (key : SingleKey) → entry_with key_cmp (λ e. e.key) (single_entries counting rules) key ≡ value_by counting rules key
unfolding single_entries
entry_found counting rules key =
    found_among counting (entry_at counting rules) (λ k. refl) key (flat_map keys_of_rule rules)
    ∙ ap (λ b. cond b (entry_if counting (entry_at counting rules key)) None)
    (any_flat_map (is_key key_cmp key) keys_of_rule rules ∙ any_agree (λ rule. member key_cmp (keys_of_rule rule) key) (covers key) (key_covered key) rules)

-- what counts at a key, by the rules that speak of it
pub value_is : (counting : Counting) (rules : List NumberedRule) (key : SingleKey) → value_at counting rules key ≡ value_by counting rules key
unfolding given_at
value_is counting rules key =
    by (filter (covers key) rules)
    ∙ ap (λ b. cond b (entry_if counting (entry_at counting rules key)) None) (any_filter (λ r. true) (covers key) rules ∙ any_agree (λ r. covers key r && true) (covers key) (λ r. all (covers key r)) rules)
  where
    all : (b : Bool) → (b && true) ≡ b
    all true = refl
    all false = refl

    by : (these : List NumberedRule) → value_of counting key (filter (covers (unconditioned key)) rules) these
        ≡ cond (list_any (λ r. true) these) (entry_if counting (record { key = key; given = counted counting key (given_together (filter (covers (unconditioned key)) rules)) (given_together these) })) None
    by [] = refl
    by (r ∷ these) = refl

-- ---- rules that are alike

-- Two lists have the same rules of a key: a test that only such rules pass finds one in both or in none.
abbrev pub AreAlikeAt : SingleKey → List NumberedRule → List NumberedRule → Type 0
AreAlikeAt key first second = (test : NumberedRule → Bool) → ((rule : NumberedRule) → test rule ≡ true → covers key rule ≡ true) → list_any test first ≡ list_any test second

given_alike : (key : SingleKey) (first second : List NumberedRule) → AreAlikeAt key first second → given_at first key ≡ given_at second key
unfolding given_at
given_alike key first second alike =
    in_order_same nat_cmp nat_order (flat_map (λ r. r.given) (filter (covers key) first)) (flat_map (λ r. r.given) (filter (covers key) second))
    (λ n. found n first ∙ alike (test n) (λ r e. (and_both (covers key r) (member nat_cmp r.given n) e).0) ∙ sym (found n second))
  where
    test : ℕ → NumberedRule → Bool
    test n r = covers key r && member nat_cmp r.given n

    found : (n : ℕ) (rules : List NumberedRule) → member nat_cmp (flat_map (λ r. r.given) (filter (covers key) rules)) n ≡ list_any (test n) rules
    found n rules = any_flat_map (is_key nat_cmp n) (λ r. r.given) (filter (covers key) rules) ∙ any_filter (λ r. member nat_cmp r.given n) (covers key) rules

pub value_alike : (counting : Counting) (key : SingleKey) (first second : List NumberedRule) → AreAlikeAt key first second → AreAlikeAt (unconditioned key) first second → value_by counting first key ≡ value_by counting second key
value_alike counting key first second alike without =
    let covered : list_any (covers key) first ≡ list_any (covers key) second = alike (covers key) (λ r e. e) in
    let given : given_at first key ≡ given_at second key = given_alike key first second alike in
    let unconditional : given_at first (unconditioned key) ≡ given_at second (unconditioned key) = given_alike (unconditioned key) first second without in
    ap (λ b. cond b (entry_if counting (record { key = key; given = counted counting key (given_at first (unconditioned key)) (given_at first key) })) None) covered
    ∙ ap (λ u. cond (list_any (covers key) second) (entry_if counting (record { key = key; given = counted counting key u (given_at first key) })) None) unconditional
    ∙ ap (λ g. cond (list_any (covers key) second) (entry_if counting (record { key = key; given = counted counting key (given_at second (unconditioned key)) g })) None) given

-- ---- all differences

abbrev pub both_by : Counting → List NumberedRule → List NumberedRule → SingleKey → Both SingleEntry
both_by counting first second key = record { first = value_by counting first key; second = value_by counting second key }

pub numbers_same : (ns : List ℕ) → pointwise ◌==◌ ns ns ≡ true
numbers_same [] = refl
numbers_same (n ∷ ns) = and_of (n == n) (pointwise ◌==◌ ns ns) (eq_itself n) (numbers_same ns)

pub same_itself : (e : SingleEntry) → same_given e e ≡ true
same_itself e = numbers_same e.given

abbrev pub all_keys : Counting → List NumberedRule → List NumberedRule → List SingleKey
all_keys counting first second = keys_of_both key_cmp (map (λ e. e.key) (single_entries counting first)) (map (λ e. e.key) (single_entries counting second))

found_both : (counting : Counting) (first second : List NumberedRule) (key : SingleKey)
    → both_with key_cmp (λ e. e.key) (single_entries counting first) (single_entries counting second) key ≡ both_by counting first second key
found_both counting first second key = λ i. record { first = entry_found counting first key i; second = entry_found counting second key i }

-- a key that has a difference is one of all keys
pub has_difference : (counting : Counting) (first second : List NumberedRule) (key : SingleKey) → is_difference same_given (both_by counting first second key) ≡ true → member key_cmp (all_keys counting first second) key ≡ true
has_difference counting first second key e =
    (spoken_of key_cmp key_order key (λ e. e.key) same_given same_itself (single_entries counting first) (single_entries counting second) (ap (is_difference same_given) (found_both counting first second key) ∙ e)).1

-- the differences are those at any keys that rise, where no key that has one is missing
pub differences_at : (counting : Counting) (first second : List NumberedRule) (keys : List SingleKey) → Rises key_cmp keys
    → ((key : SingleKey) → is_difference same_given (both_by counting first second key) ≡ true → member key_cmp keys key ≡ true)
    → single_differences counting first second ≡ filter (is_difference same_given) (map (both_by counting first second) keys)
unfolding single_differences differences
differences_at counting first second keys rises all =
    ap (filter (is_difference same_given)) (map_agree (both_with key_cmp (λ e. e.key) (single_entries counting first) (single_entries counting second)) (both_by counting first second) (found_both counting first second) (all_keys counting first second))
    ∙ filter_mapped (both_by counting first second) (is_difference same_given) (all_keys counting first second)
    ∙ ap (map (both_by counting first second)) (kept_same key_cmp key_order (λ k. is_difference same_given (both_by counting first second k)) (all_keys counting first second) keys
    (in_order_rises key_cmp key_order.total (map (λ e. e.key) (single_entries counting first) ++ map (λ e. e.key) (single_entries counting second))) rises
    (has_difference counting first second) all)
    ∙ sym (filter_mapped (both_by counting first second) (is_difference same_given) keys)
