-- A condition has one value, which is that of its tree.
use Rattle.std.proofs.Common.{◌≡◌, ◌↔◌, Bool, true, false, List, [], ◌∷◌, IsTrue, refl, sym, ap, subst, ◌∙◌}
use Rattle.std.proofs.Math.Bool.{beq}
use Rattle.std.specs.FinSet as set
use Rattle.pol_expr.specs.declared.ConditionItem.{ConditionItem}
use Rattle.pol_expr.specs.Trees.{Leaf, Not, Binary, postorder, trees_after}
use Rattle.pol_expr.specs.ConditionRecord.{IsCondition}
use Rattle.pol_expr.specs.ConditionMeaning.{ConditionTree, condition_symbols, value_of}
use Rattle.pol_expr.proofs.Stacks.{after-postorder, one_tree}
use Rattle.pol_expr.proofs.ConditionTrees.{condition_tree}
use Rattle.bool_state.specs.BooleanStates.{Booleans, condition_value, tree_value, HasValue}

module _ (on : Booleans) (items : List ConditionItem) where
  -- the function gives the value of the tree
  pub tree_gives : (t : ConditionTree) → postorder t ≡ condition_symbols items → value_of (set.contains on) t ≡ condition_value on items
  unfolding condition_value
  tree_gives t e =
      let left : trees_after (postorder t) [] ≡ t ∷ [] = after-postorder Leaf Not Binary (λ (u : ConditionTree). u) (record { leaf_is = λ v. refl; not_is = λ u. refl; binary_is = λ o l r. refl }) t [] in
      sym (ap (tree_value on) (ap (λ ss. trees_after ss []) (sym e) ∙ left))

  pub has_value : IsCondition items → HasValue on items (condition_value on items)
  has_value h = let t = condition_tree items h in record { tree = t.0; listed = t.1; truth = tree_gives t.0 t.1 }

  pub one_value : (v w : Bool) → HasValue on items v → HasValue on items w → v ≡ w
  one_value v w a b = sym a.truth ∙ ap (value_of (set.contains on)) (one_tree a.tree b.tree (a.listed ∙ sym b.listed)) ∙ b.truth

  -- what gives the value of each tree that the items stand for gives that of the items
  pub evaluated : IsCondition items → (v : Bool) → ((t : ConditionTree) → postorder t ≡ condition_symbols items → v ≡ value_of (set.contains on) t) → HasValue on items v
  evaluated h v f = let t = condition_tree items h in record { tree = t.0; listed = t.1; truth = sym (f t.0 t.1) }

-- ---- a branch

same_true : (v w : Bool) → beq v w ≡ true → v ≡ w
same_true true true e = refl
same_true true false e = sym e
same_true false true e = e
same_true false false e = refl

true_same : (v w : Bool) → v ≡ w → beq v w ≡ true
true_same true w e = rw (← e) refl
true_same false w e = rw (← e) refl

-- a value equals another exactly where this is the value too
pub value_decides : (on : Booleans) (items : List ConditionItem) (v w : Bool) → HasValue on items v → IsTrue (beq v w) ↔ HasValue on items w
value_decides on items v w h = (λ e. subst (HasValue on items) (same_true v w e) h, λ k. true_same v w (one_value on items v w h k))
