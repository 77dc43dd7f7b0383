-- The booleans of a condition, item by item.
use Rattle.std.proofs.Common.{◌≡◌, ℕ, ◌+◌, ◌≤◌, Some, List, ◌++◌, length, drop, sym, ap, ◌∙◌, append_assoc}
use Rattle.std.specs.Prelude.{slice_get}
use Rattle.std.proofs.lemmas.List.{append-nil, drop_all}
use Rattle.std.proofs.lemmas.List.Concat.{flat_map-cons}
use Rattle.pol_expr.specs.declared.condition_rec.ConditionItem.{ConditionItem}
use Rattle.pol_expr.specs.ConditionMeaning.{item_booleans, booleans_in}
use Rattle.pol_expr.proofs.Dropped.{dropped}

-- what was collected, and the booleans of the items that are left
pub booleans_next : (items : List ConditionItem) (i : ℕ) (item : ConditionItem) (out whole : List ℕ) → slice_get items i ≡ Some item → out ++ booleans_in (drop i items) ≡ whole → (out ++ item_booleans item) ++ booleans_in (drop (i + 1) items) ≡ whole
booleans_next items i item out whole e h =
    append_assoc out (item_booleans item) (booleans_in (drop (i + 1) items)) ∙ ap (λ (l : List ℕ). out ++ l) (sym (ap booleans_in (dropped items i item e) ∙ flat_map-cons item_booleans item (drop (i + 1) items))) ∙ h

pub booleans_end : (items : List ConditionItem) (i : ℕ) (out : List ℕ) → length items ≤ i → out ++ booleans_in (drop i items) ≡ booleans_in items → out ≡ booleans_in items
booleans_end items i out le h = sym (append-nil out) ∙ ap (λ (l : List ConditionItem). out ++ booleans_in l) (sym (drop_all i items le)) ∙ h
