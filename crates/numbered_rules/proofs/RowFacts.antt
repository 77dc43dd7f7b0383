-- What is left of the differences at a source.
use Rattle.std.proofs.Common.{◌/◌, ◌≡◌, ℕ, Bool, List, [], ◌∷◌, ◌++◌, map, reverse, sym, ap, subst, ◌∙◌, arith, length, refl}
use Rattle.std.specs.List.{filter, flat_map}
use Rattle.std.specs.Ordering.{nat_cmp}
use Rattle.std.proofs.lemmas.List.{reverse-append}
use Rattle.std.proofs.lemmas.List.Elements.{All-filter}
use Rattle.keyed_lists.specs.KeyOrder.{keys_in_order}
use Rattle.keyed_lists.specs.Differences.{Both, is_difference}
use Rattle.pol_bitmap.specs.declared.node.Node.{Node}
use Rattle.numbered_rules.specs.declared.key.SingleKey.{SingleKey}
use Rattle.numbered_rules.specs.declared.key.Counting.{Counting}
use Rattle.numbered_rules.specs.declared.form.RuleForm.{RuleForm}
use Rattle.numbered_rules.specs.Forms.{HasSets, HaveSets, bits_at, rules_of}
use Rattle.numbered_rules.specs.NumberedRules.{SingleEntry, has, same_given, single_differences}
use Rattle.numbered_rules.specs.declared.block.Block.{Block}
use Rattle.numbered_rules.specs.Inner.Blocks.{AreOfBlock, IsBlockOf}
use Rattle.numbered_rules.specs.Inner.Cells.{AreOfClasses, HaveLeft, all_sources, both_labelled, cell_differences, cell_keys, row_differences, row_targets, target_differences, with_source, with_target}
use Rattle.numbered_rules.proofs.FormFacts.{from_source, to_target}
use Rattle.numbered_rules.proofs.Rows.{rows_are}
use Rattle.numbered_rules.proofs.Classes.{kept_differences, left_of_kept}

-- the forms that are found have their sets, as all of them do
pub found_sets : (sets : List (List Node)) (p : RuleForm → Bool) (forms found : List RuleForm) → found ≡ filter p forms → HaveSets sets forms → HaveSets sets found
found_sets sets p forms found is have = subst (HaveSets sets) (sym is) (All-filter p (HasSets sets) forms have)

pub found_from : (sets : List (List Node)) (source : ℕ) (forms found : List RuleForm) → found ≡ filter (λ form. has (bits_at sets form.sources) source) forms → rules_of sets found ≡ with_source source (rules_of sets forms)
found_from sets source forms found is = ap (rules_of sets) is ∙ from_source sets source forms

found_to : (sets : List (List Node)) (target : ℕ) (forms found : List RuleForm) → found ≡ filter (λ form. has (bits_at sets form.targets) target) forms → rules_of sets found ≡ with_target target (rules_of sets forms)
found_to sets target forms found is = ap (rules_of sets) is ∙ to_target sets target forms

pub target_is : (counting : Counting) (sets : List (List Node)) (source target : ℕ) (first second these others : List RuleForm) (keys : List SingleKey) (differences : List (Both SingleEntry))
    → these ≡ filter (λ form. has (bits_at sets form.targets) target) first → others ≡ filter (λ form. has (bits_at sets form.targets) target) second
    → keys ≡ cell_keys source target (rules_of sets these ++ rules_of sets others)
    → differences ≡ filter (is_difference same_given) (map (both_labelled counting (rules_of sets these) (rules_of sets others)) keys)
    → differences ≡ target_differences counting source (rules_of sets first) (rules_of sets second) target
unfolding target_differences cell_differences
target_is counting sets source target first second these others keys differences t o k d =
    d ∙ ap (λ ks. filter (is_difference same_given) (map (both_labelled counting (rules_of sets these) (rules_of sets others)) ks)) k
    ∙ ap (λ rs. filter (is_difference same_given) (map (both_labelled counting rs (rules_of sets others)) (cell_keys source target (rs ++ rules_of sets others)))) (found_to sets target first these t)
    ∙ ap (λ rs. filter (is_difference same_given) (map (both_labelled counting (with_target target (rules_of sets first)) rs) (cell_keys source target (with_target target (rules_of sets first) ++ rs)))) (found_to sets target second others o)

pub row_is_new : (counting : Counting) (sets : List (List Node)) (source : ℕ) (left first second lefts these others : List RuleForm) (targets : List ℕ)
    → lefts ≡ filter (λ form. has (bits_at sets form.sources) source) left
    → these ≡ filter (λ form. has (bits_at sets form.sources) source) first → others ≡ filter (λ form. has (bits_at sets form.sources) source) second
    → targets ≡ keys_in_order nat_cmp (flat_map (λ rule. rule.targets) (rules_of sets lefts))
    → flat_map (target_differences counting source (rules_of sets these) (rules_of sets others)) targets ≡ row_differences counting (rules_of sets left) (rules_of sets first) (rules_of sets second) source
unfolding row_differences row_targets
row_is_new counting sets source left first second lefts these others targets l t o is =
    ap (flat_map (target_differences counting source (rules_of sets these) (rules_of sets others))) (is ∙ ap (λ rs. keys_in_order nat_cmp (flat_map (λ rule. rule.targets) rs)) (found_from sets source left lefts l))
    ∙ ap (λ rs. flat_map (target_differences counting source rs (rules_of sets others)) (keys_in_order nat_cmp (flat_map (λ rule. rule.targets) (with_source source (rules_of sets left))))) (found_from sets source first these t)
    ∙ ap (λ rs. flat_map (target_differences counting source (with_source source (rules_of sets first)) rs) (keys_in_order nat_cmp (flat_map (λ rule. rule.targets) (with_source source (rules_of sets left))))) (found_from sets source second others o)

-- the first of a list that is kept from the last to the first
pub first_popped : {X : Type 0} (old new : List X) (x : X) → old ≡ new ++ x ∷ [] → reverse old ≡ x ∷ reverse new
first_popped old new x is = ap reverse is ∙ reverse-append new (x ∷ [])

pub next_popped : {X Y : Type 0} (f : X → List Y) (old new : List X) (x : X) (ys : List Y) → old ≡ new ++ x ∷ [] → ys ≡ f x → flat_map f (reverse old) ≡ ys ++ flat_map f (reverse new)
next_popped f old new x ys is e = ap (flat_map f) (first_popped old new x is) ∙ ap (λ zs. zs ++ flat_map f (reverse new)) (sym e)

-- what the lists have, where they are lent
pub target_at : (counting : Counting) (sets : List (List Node)) (source target : ℕ) (first second a b these others first_found second_found : List RuleForm) (keys made : List SingleKey) (differences : List (Both SingleEntry))
    → a ≡ first_found → b ≡ second_found → these ≡ first_found → others ≡ second_found → keys ≡ made
    → first_found ≡ filter (λ form. has (bits_at sets form.targets) target) first → second_found ≡ filter (λ form. has (bits_at sets form.targets) target) second
    → made ≡ cell_keys source target (rules_of sets a ++ rules_of sets b)
    → differences ≡ filter (is_difference same_given) (map (both_labelled counting (rules_of sets these) (rules_of sets others)) keys)
    → differences ≡ target_differences counting source (rules_of sets first) (rules_of sets second) target
target_at counting sets source target first second a b these others first_found second_found keys made differences ea eb et eo ek ef es em ed =
    target_is counting sets source target first second these others keys differences (et ∙ ef) (eo ∙ es)
    (ek ∙ em ∙ ap (λ fs. cell_keys source target (rules_of sets fs ++ rules_of sets b)) (ea ∙ sym et) ∙ ap (λ fs. cell_keys source target (rules_of sets these ++ rules_of sets fs)) (eb ∙ sym eo)) ed

-- ---- the block of a target

pub block_kept : (sets : List (List Node)) (first second a b : List RuleForm) (block : Block) → a ≡ first → b ≡ second → IsBlockOf sets a b block → IsBlockOf sets first second block
block_kept sets first second a b block ea eb is = subst (λ fs. IsBlockOf sets fs second block) ea (subst (λ fs. IsBlockOf sets a fs block) eb is)

at_block : (sets : List (List Node)) (number target : ℕ) (all found : List RuleForm) → AreOfBlock sets number all found → target / 64 ≡ number → with_target target (rules_of sets found) ≡ with_target target (rules_of sets all)
at_block sets number target all found are is = sym (to_target sets target found) ∙ ap (rules_of sets) (are target is) ∙ to_target sets target all

-- the differences at a target are those among the forms of its block
pub block_step : (counting : Counting) (sets : List (List Node)) (source : ℕ) (first second a b these others : List RuleForm) (block : Block) (target : ℕ)
    (cell differences : List (Both SingleEntry)) (old new : List ℕ) (all : List (Both SingleEntry))
    → a ≡ first → b ≡ second → IsBlockOf sets a b block → block.number ≡ target / 64 → these ≡ block.first.items → others ≡ block.second.items
    → differences ≡ target_differences counting source (rules_of sets these) (rules_of sets others) target
    → cell ≡ [] → old ≡ new ++ target ∷ []
    → reverse cell ++ flat_map (target_differences counting source (rules_of sets first) (rules_of sets second)) (reverse old) ≡ all
    → differences ++ flat_map (target_differences counting source (rules_of sets first) (rules_of sets second)) (reverse new) ≡ all
unfolding target_differences
block_step counting sets source first second a b these others block target cell differences old new all ea eb is number et eo ed ec popped before =
    let of = block_kept sets first second a b block ea eb is in
    let made : differences ≡ target_differences counting source (rules_of sets first) (rules_of sets second) target =
    ed ∙ ap (λ fs. target_differences counting source (rules_of sets fs) (rules_of sets others) target) et
    ∙ ap (λ fs. target_differences counting source (rules_of sets block.first.items) (rules_of sets fs) target) eo
    ∙ ap (λ rs. cell_differences counting source target rs (with_target target (rules_of sets block.second.items))) (at_block sets block.number target first block.first.items of.first_forms (sym number))
    ∙ ap (cell_differences counting source target (with_target target (rules_of sets first))) (at_block sets block.number target second block.second.items of.second_forms (sym number)) in
    sym (next_popped (target_differences counting source (rules_of sets first) (rules_of sets second)) old new target differences popped made)
    ∙ ap (λ ds. reverse ds ++ flat_map (target_differences counting source (rules_of sets first) (rules_of sets second)) (reverse old)) (sym ec)
    ∙ before

pub nothing : {X : Type 0} (xs : List X) → length xs ≡ 0 → xs ≡ []
nothing [] none = refl
nothing (x ∷ xs) none = absurd (omega (arith, none))

-- ---- all rows

-- All that is handed on of lists is the lists themselves.
pub all_rows : (counting : Counting) (sets : List (List Node)) (left first second these others a b l f m g n : List RuleForm) (row : List (Both SingleEntry)) (sources : List ℕ)
    → a ≡ first → b ≡ second → l ≡ left → f ≡ first → m ≡ left → g ≡ second → n ≡ left → row ≡ [] → sources ≡ all_sources (rules_of sets n)
    → HaveLeft (rules_of sets left) (rules_of sets a) (rules_of sets b)
    → AreOfClasses (rules_of sets l) (rules_of sets f) (rules_of sets these) → AreOfClasses (rules_of sets m) (rules_of sets g) (rules_of sets others)
    → row ++ flat_map (row_differences counting (rules_of sets left) (rules_of sets these) (rules_of sets others)) sources ≡ single_differences counting (rules_of sets first) (rules_of sets second)
all_rows counting sets left first second these others a b l f m g n row sources ea eb el ef em eg en er es have are were =
    let all : HaveLeft (rules_of sets left) (rules_of sets first) (rules_of sets second) =
    subst (λ fs. HaveLeft (rules_of sets left) (rules_of sets fs) (rules_of sets second)) ea (subst (λ fs. HaveLeft (rules_of sets left) (rules_of sets a) (rules_of sets fs)) eb have) in
    let of_first : AreOfClasses (rules_of sets left) (rules_of sets first) (rules_of sets these) =
    subst (λ ls. AreOfClasses (rules_of sets ls) (rules_of sets first) (rules_of sets these)) el (subst (λ fs. AreOfClasses (rules_of sets l) (rules_of sets fs) (rules_of sets these)) ef are) in
    let of_second : AreOfClasses (rules_of sets left) (rules_of sets second) (rules_of sets others) =
    subst (λ ls. AreOfClasses (rules_of sets ls) (rules_of sets second) (rules_of sets others)) em (subst (λ fs. AreOfClasses (rules_of sets m) (rules_of sets fs) (rules_of sets others)) eg were) in
    ap (λ ds. ds ++ flat_map (row_differences counting (rules_of sets left) (rules_of sets these) (rules_of sets others)) sources) er
    ∙ ap (flat_map (row_differences counting (rules_of sets left) (rules_of sets these) (rules_of sets others))) (es ∙ ap (λ fs. all_sources (rules_of sets fs)) en)
    ∙ rows_are counting (rules_of sets left) (rules_of sets these) (rules_of sets others)
    (left_of_kept (rules_of sets left) (rules_of sets first) (rules_of sets second) (rules_of sets these) (rules_of sets others) of_first of_second all)
    ∙ kept_differences (rules_of sets left) counting (rules_of sets first) (rules_of sets second) (rules_of sets these) (rules_of sets others) of_first of_second all
