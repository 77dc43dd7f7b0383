-- Forms of a block, one after the other.
use Rattle.std.proofs.Common.{◌≡◌, ℕ, ◌+◌, ◌*◌, ◌/◌, ◌<◌, ◌≤◌, Bool, true, false, cond, List, [], ◌∷◌, ◌++◌, length, take, slice_index_or, refl, sym, ap, subst, ◌∙◌, arith}
use Rattle.std.specs.Prelude.{All}
use Rattle.std.proofs.lemmas.List.{append-nil}
use Rattle.std.proofs.lemmas.List.Elements.{All-push, filter-append, filter_more}
use Rattle.pol_bitmap.specs.declared.node.Node.{Node}
use Rattle.pol_bitmap.specs.Nodes.{IsLeastFrom}
use Rattle.numbered_rules.specs.declared.form.RuleForm.{RuleForm}
use Rattle.numbered_rules.specs.Forms.{HasSets, HaveSets, bits_at}
use Rattle.numbered_rules.specs.NumberedRules.{has}
use Rattle.numbered_rules.specs.Inner.Blocks.{AreOfBlock, forms_at}
use Rattle.numbered_rules.proofs.SetFacts.{has_contains}

-- a form that is kept
pub one_kept : (sets : List (List Node)) (number : ℕ) (forms found : List RuleForm) (i : ℕ) (d : RuleForm) → i < length forms → AreOfBlock sets number (take i forms) found
    → AreOfBlock sets number (take (i + 1) forms) (found ++ slice_index_or forms i d ∷ [])
one_kept sets number forms found i d lt are target is =
    filter-append (λ form. has (bits_at sets form.targets) target) found (slice_index_or forms i d ∷ [])
    ∙ ap (λ fs. fs ++ forms_at sets target (slice_index_or forms i d ∷ [])) (are target is)
    ∙ sym (filter_more (λ form. has (bits_at sets form.targets) target) forms i d lt)

-- a form that has no target of the block
pub one_passed : (sets : List (List Node)) (number : ℕ) (forms found : List RuleForm) (i : ℕ) (d : RuleForm) → i < length forms → AreOfBlock sets number (take i forms) found
    → ((n : ℕ) → n / 64 ≡ number → has (bits_at sets (slice_index_or forms i d).targets) n ≡ true → ⊥)
    → AreOfBlock sets number (take (i + 1) forms) found
one_passed sets number forms found i d lt are none target is =
    are target is ∙ sym (filter_more (λ form. has (bits_at sets form.targets) target) forms i d lt
    ∙ by (has (bits_at sets (slice_index_or forms i d).targets) target) (none target is))
  where
    by : (b : Bool) → (b ≡ true → ⊥) → forms_at sets target (take i forms) ++ cond b (slice_index_or forms i d ∷ []) [] ≡ forms_at sets target (take i forms)
    by true h = absurd (h refl)
    by false h = append-nil (forms_at sets target (take i forms))

-- the least number from the beginning of a block on is one of it, where there is one
pub least_in_block : (ns : List ℕ) (block n found : ℕ) → n / 64 ≡ block → has ns n ≡ true → IsLeastFrom ns (block * 64) found → found / 64 ≡ block
least_in_block ns block n found is there least =
    let c = has_contains ns n there in
    let low : block * 64 ≤ n = omega (arith, is) in
    let le : found ≤ n = subst (λ m. block * 64 ≤ m → found ≤ m) c.2 (least.least c.0 n c.1) low in
    let above : block * 64 ≤ found = least.above in
    omega (arith, is, le, above)

pub none_in_block : (ns : List ℕ) (block n : ℕ) → n / 64 ≡ block → has ns n ≡ true → All (λ c. c < block * 64) ns → ⊥
none_in_block ns block n is there all =
    let c = has_contains ns n there in
    let low : block * 64 ≤ n = omega (arith, is) in
    let below : n < block * 64 = subst (λ m. m < block * 64) c.2 (all c.0 n c.1) in
    omega (arith, low, below)

pub sets_pushed : (sets : List (List Node)) (forms found : List RuleForm) (i : ℕ) (d : RuleForm) → i < length forms → HaveSets sets forms → HaveSets sets found → HaveSets sets (found ++ slice_index_or forms i d ∷ [])
sets_pushed sets forms found i d lt all have = All-push (HasSets sets) found (slice_index_or forms i d) have (all i d lt)
