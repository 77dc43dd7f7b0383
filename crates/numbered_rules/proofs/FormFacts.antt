-- The rules that forms stand for.
use Rattle.std.proofs.Common.{◌≡◌, ℕ, ◌+◌, ◌-◌, ◌<◌, ◌≤◌, Bool, true, false, cond, Some, None, List, [], ◌∷◌, ◌++◌, length, map, take, reverse, slice_index_or, refl, sym, ap, subst, ◌∙◌, arith}
use Rattle.std.specs.List.{filter, flat_map, All}
use Rattle.std.specs.Ordering.{nat_cmp}
use Rattle.std.proofs.lemmas.List.{take_more, reverse-reverse}
use Rattle.std.proofs.lemmas.List.Elements.{All-map, All-filter, filter-append}
use Rattle.keyed_lists.specs.KeyOrder.{keys_in_order, with_key}
use Rattle.pol_bitmap.specs.declared.Node.{Node}
use Rattle.numbered_rules.specs.declared.key.SingleKey.{SingleKey}
use Rattle.numbered_rules.specs.declared.key.Counting.{Counting}
use Rattle.numbered_rules.specs.declared.form.RuleForm.{RuleForm}
use Rattle.numbered_rules.specs.Forms.{HasSets, HaveSets, bits_at, form_key, is_form_of, rule_of, rules_of}
use Rattle.numbered_rules.specs.NumberedRules.{SingleEntry, counted, given_together, has, is_entry, is_labelled, key_cmp, unconditioned}
use Rattle.numbered_rules.specs.Inner.Cells.{all_sources, cell_keys, entry_if, key_between, labelled_value, value_of, with_keys, with_source, with_target}
use Rattle.numbered_rules.proofs.Tests.{filter_mapped, map_both}

pub from_source : (sets : List (List Node)) (source : ℕ) (forms : List RuleForm) → rules_of sets (filter (λ form. has (bits_at sets form.sources) source) forms) ≡ with_source source (rules_of sets forms)
from_source sets source forms = sym (filter_mapped (rule_of sets) (λ rule. has rule.sources source) forms)

pub to_target : (sets : List (List Node)) (target : ℕ) (forms : List RuleForm) → rules_of sets (filter (λ form. has (bits_at sets form.targets) target) forms) ≡ with_target target (rules_of sets forms)
to_target sets target forms = sym (filter_mapped (rule_of sets) (λ rule. has rule.targets target) forms)

of_label : (sets : List (List Node)) (key : SingleKey) (forms : List RuleForm) → map (rule_of sets) (filter (is_form_of key) forms) ≡ filter (is_labelled key) (rules_of sets forms)
of_label sets key forms = sym (filter_mapped (rule_of sets) (is_labelled key) forms)

flat_given : (sets : List (List Node)) (forms : List RuleForm) → flat_map (bits_at sets) (map (λ form. form.given) forms) ≡ flat_map (λ rule. rule.given) (rules_of sets forms)
flat_given sets [] = refl
flat_given sets (form ∷ forms) = ap (λ ns. bits_at sets form.given ++ ns) (flat_given sets forms)

pub flat_targets : (sets : List (List Node)) (forms : List RuleForm) → flat_map (bits_at sets) (map (λ form. form.targets) forms) ≡ flat_map (λ rule. rule.targets) (rules_of sets forms)
flat_targets sets [] = refl
flat_targets sets (form ∷ forms) = ap (λ ns. bits_at sets form.targets ++ ns) (flat_targets sets forms)

pub flat_sources : (sets : List (List Node)) (forms : List RuleForm) → flat_map (bits_at sets) (map (λ form. form.sources) forms) ≡ flat_map (λ rule. rule.sources) (rules_of sets forms)
flat_sources sets [] = refl
flat_sources sets (form ∷ forms) = ap (λ ns. bits_at sets form.sources ++ ns) (flat_sources sets forms)

-- what the sets of a key's forms have together is what its rules give
pub given_is : (sets : List (List Node)) (key : SingleKey) (forms : List RuleForm)
    → keys_in_order nat_cmp (flat_map (bits_at sets) (map (λ form. form.given) (filter (is_form_of key) forms))) ≡ given_together (filter (is_labelled key) (rules_of sets forms))
given_is sets key forms =
    ap (keys_in_order nat_cmp) (flat_given sets (filter (is_form_of key) forms) ∙ ap (flat_map (λ rule. rule.given)) (of_label sets key forms))

pub given_within : (sets : List (List Node)) (key : SingleKey) (forms : List RuleForm) → HaveSets sets forms → All (λ set. set < length sets) (map (λ form. form.given) (filter (is_form_of key) forms))
given_within sets key forms have =
    All-map (λ set. set < length sets) (λ (form : RuleForm). form.given) (filter (is_form_of key) forms)
    (λ k d lt. (All-filter (is_form_of key) (HasSets sets) forms have k d lt).2)

pub targets_within : (sets : List (List Node)) (forms : List RuleForm) → HaveSets sets forms → All (λ set. set < length sets) (map (λ form. form.targets) forms)
targets_within sets forms have = All-map (λ set. set < length sets) (λ (form : RuleForm). form.targets) forms (λ k d lt. (have k d lt).1)

pub sources_within : (sets : List (List Node)) (forms : List RuleForm) → HaveSets sets forms → All (λ set. set < length sets) (map (λ form. form.sources) forms)
sources_within sets forms have = All-map (λ set. set < length sets) (λ (form : RuleForm). form.sources) forms (λ k d lt. (have k d lt).0)

pub no_value : (counting : Counting) (sets : List (List Node)) (key : SingleKey) (forms : List RuleForm) → length (map (λ form. form.given) (filter (is_form_of key) forms)) ≡ 0
    → labelled_value counting (rules_of sets forms) key ≡ None
unfolding labelled_value
no_value counting sets key forms none =
    ap (value_of counting key (filter (is_labelled (unconditioned key)) (rules_of sets forms))) (sym (of_label sets key forms)) ∙ by (filter (is_form_of key) forms) none
  where
    by : (these : List RuleForm) → length (map (λ form. form.given) these) ≡ 0 → value_of counting key (filter (is_labelled (unconditioned key)) (rules_of sets forms)) (map (rule_of sets) these) ≡ None
    by [] none = refl
    by (form ∷ these) none = absurd (omega (arith, none))

pub some_value : (counting : Counting) (sets : List (List Node)) (key : SingleKey) (forms : List RuleForm) → (length (map (λ form. form.given) (filter (is_form_of key) forms)) ≡ 0 → ⊥)
    → labelled_value counting (rules_of sets forms) key
    ≡ entry_if counting (record { key = key; given = counted counting key (given_together (filter (is_labelled (unconditioned key)) (rules_of sets forms))) (given_together (filter (is_labelled key) (rules_of sets forms))) })
unfolding labelled_value
some_value counting sets key forms some =
    ap (value_of counting key (filter (is_labelled (unconditioned key)) (rules_of sets forms))) (sym (of_label sets key forms)) ∙ by (filter (is_form_of key) forms) some
    ∙ ap (λ rules. entry_if counting (record { key = key; given = counted counting key (given_together (filter (is_labelled (unconditioned key)) (rules_of sets forms))) (given_together rules) })) (of_label sets key forms)
  where
    by : (these : List RuleForm) → (length (map (λ form. form.given) these) ≡ 0 → ⊥) → value_of counting key (filter (is_labelled (unconditioned key)) (rules_of sets forms)) (map (rule_of sets) these)
        ≡ entry_if counting (record { key = key; given = counted counting key (given_together (filter (is_labelled (unconditioned key)) (rules_of sets forms))) (given_together (map (rule_of sets) these)) })
    by [] some = absurd (some refl)
    by (form ∷ these) some = refl

-- ---- the keys of a cell

keys_alone : (keys : List SingleKey) → with_keys keys [] ≡ keys_in_order key_cmp keys
keys_alone [] = refl
keys_alone (key ∷ keys) = ap (with_key key_cmp key) (keys_alone keys)

keys_both : (keys others : List SingleKey) → with_keys keys (keys_in_order key_cmp others) ≡ keys_in_order key_cmp (keys ++ others)
keys_both [] others = refl
keys_both (key ∷ keys) others = ap (with_key key_cmp key) (keys_both keys others)

keys_mapped : (source target : ℕ) (sets : List (List Node)) (first second : List RuleForm)
    → map (form_key source target) first ++ map (form_key source target) second ≡ map (key_between source target) (rules_of sets first ++ rules_of sets second)
keys_mapped source target sets [] [] = refl
keys_mapped source target sets [] (form ∷ second) = ap (λ keys. form_key source target form ∷ keys) (keys_mapped source target sets [] second)
keys_mapped source target sets (form ∷ first) second = ap (λ keys. form_key source target form ∷ keys) (keys_mapped source target sets first second)

pub keys_are : (source target : ℕ) (sets : List (List Node)) (first second : List RuleForm)
    → with_keys (map (form_key source target) first) (with_keys (map (form_key source target) second) []) ≡ cell_keys source target (rules_of sets first ++ rules_of sets second)
keys_are source target sets first second =
    ap (with_keys (map (form_key source target) first)) (keys_alone (map (form_key source target) second))
    ∙ keys_both (map (form_key source target) first) (map (form_key source target) second)
    ∙ ap (keys_in_order key_cmp) (keys_mapped source target sets first second)

with_last : (keys : List SingleKey) (key : SingleKey) (there : List SingleKey) → with_keys (keys ++ key ∷ []) there ≡ with_keys keys (with_key key_cmp key there)
with_last [] key there = refl
with_last (other ∷ keys) key there = ap (with_key key_cmp other) (with_last keys key there)

mapped_last : (source target : ℕ) (forms : List RuleForm) (form : RuleForm) → map (form_key source target) (forms ++ form ∷ []) ≡ map (form_key source target) forms ++ form_key source target form ∷ []
mapped_last source target [] form = refl
mapped_last source target (other ∷ forms) form = ap (λ keys. form_key source target other ∷ keys) (mapped_last source target forms form)

pub last_added : (source target : ℕ) (forms : List RuleForm) (n : ℕ) (d : RuleForm) (there : List SingleKey) → 0 < n → n ≤ length forms
    → with_keys (map (form_key source target) (take (n - 1) forms)) (with_key key_cmp (form_key source target (slice_index_or forms (n - 1) d)) there)
    ≡ with_keys (map (form_key source target) (take n forms)) there
last_added source target forms n d there some within =
    let back : n - 1 + 1 ≡ n = omega arith in
    sym (ap (λ m. with_keys (map (form_key source target) (take m forms)) there) (sym back)
    ∙ ap (λ fs. with_keys (map (form_key source target) fs) there) (take_more forms (n - 1) d (omega arith))
    ∙ ap (λ ks. with_keys ks there) (mapped_last source target (take (n - 1) forms) (slice_index_or forms (n - 1) d))
    ∙ with_last (map (form_key source target) (take (n - 1) forms)) (form_key source target (slice_index_or forms (n - 1) d)) there)

pub none_added : (source target : ℕ) (forms : List RuleForm) (n : ℕ) (there : List SingleKey) → n ≡ 0 → with_keys (map (form_key source target) (take n forms)) there ≡ there
none_added source target forms n there none = ap (λ m. with_keys (map (form_key source target) (take m forms)) there) none

pub turned_back : (numbers turned : List ℕ) → turned ≡ reverse numbers → reverse turned ≡ numbers
turned_back numbers turned e = ap reverse e ∙ reverse-reverse numbers

-- ---- what a form of a pool counts at a key

pub items_within : (sets : List (List Node)) (key : SingleKey) (forms : List RuleForm) (items : List ℕ) → HaveSets sets forms → items ≡ map (λ form. form.given) (filter (is_form_of key) forms)
    → All (λ set. set < length sets) items
items_within sets key forms items have is = subst (All (λ set. set < length sets)) (sym is) (given_within sets key forms have)

pub value_none : (counting : Counting) (sets : List (List Node)) (key : SingleKey) (forms : List RuleForm) (items : List ℕ) → items ≡ map (λ form. form.given) (filter (is_form_of key) forms)
    → length items ≡ 0 → labelled_value counting (rules_of sets forms) key ≡ None
value_none counting sets key forms items is none = no_value counting sets key forms (ap length (sym is) ∙ none)

pub value_some : (counting : Counting) (sets : List (List Node)) (key : SingleKey) (forms : List RuleForm) (items given numbers : List ℕ) → items ≡ map (λ form. form.given) (filter (is_form_of key) forms)
    → (length items ≡ 0 → ⊥) → given ≡ keys_in_order nat_cmp (flat_map (bits_at sets) items)
    → numbers ≡ counted counting key (given_together (filter (is_labelled (unconditioned key)) (rules_of sets forms))) given
    → labelled_value counting (rules_of sets forms) key ≡ entry_if counting (record { key = key; given = numbers })
value_some counting sets key forms items given numbers is some all counts =
    let together : given ≡ given_together (filter (is_labelled key) (rules_of sets forms)) = all ∙ ap (λ ns. keys_in_order nat_cmp (flat_map (bits_at sets) ns)) is ∙ given_is sets key forms in
    some_value counting sets key forms (λ none. some (ap length is ∙ none))
    ∙ ap (λ ns. entry_if counting (record { key = key; given = ns })) (sym (counts ∙ ap (counted counting key (given_together (filter (is_labelled (unconditioned key)) (rules_of sets forms)))) together))

pub entry_there : (counting : Counting) (entry : SingleEntry) → is_entry counting entry ≡ true → Some entry ≡ entry_if counting entry
entry_there counting entry is = rw is refl

pub entry_missing : (counting : Counting) (entry : SingleEntry) → is_entry counting entry ≡ false → None ≡ entry_if counting entry
entry_missing counting entry is = rw is refl

pub kept_more : {X Y : Type 0} (p : Y → Bool) (f : X → Y) (xs : List X) (i : ℕ) (d : X) → i < length xs
    → filter p (map f (take (i + 1) xs)) ≡ filter p (map f (take i xs)) ++ cond (p (f (slice_index_or xs i d))) (f (slice_index_or xs i d) ∷ []) []
kept_more p f xs i d lt =
    ap (λ ys. filter p (map f ys)) (take_more xs i d lt) ∙ ap (filter p) (map_both f (take i xs) (slice_index_or xs i d ∷ []))
    ∙ filter-append p (map f (take i xs)) (f (slice_index_or xs i d) ∷ [])

pub sources_in_order : (sets : List (List Node)) (forms : List RuleForm) → keys_in_order nat_cmp (flat_map (bits_at sets) (map (λ form. form.sources) forms)) ≡ all_sources (rules_of sets forms)
unfolding all_sources
sources_in_order sets forms = ap (keys_in_order nat_cmp) (flat_sources sets forms)
