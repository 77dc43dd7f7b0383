-- The first boolean of a list of items that dangles, as a loop finds it.
use Rattle.std.proofs.Common.{◌≡◌, ℕ, ◌+◌, Option, Some, None, Bool, true, false, cond, List, [], ◌∷◌, ◌++◌, drop, refl, ◌*◌, ◌≤◌, length, arith}
use Rattle.std.proofs.lemmas.List.{drop_all}
use Rattle.std.specs.Prelude.{slice_get, is_some}
use Rattle.pol_fields.specs.declared.fault.Fault.{Fault}
use Rattle.pol_cursor.specs.References.{Named, Reference, dangling_of}
use Rattle.pol_expr.specs.declared.condition_rec.ConditionItem.{ConditionItem}
use Rattle.pol_expr.specs.ConditionRecord.{item_reference, item_references}
use Rattle.pol_expr.proofs.Dropped.{dropped}

-- references of which the first have none that dangles, or one
found_one : (b : Bool) (x y z : Option Fault) (f : Fault) → (x ≡ Some f → y ≡ Some f) → cond b x z ≡ Some f → cond b y z ≡ Some f
found_one true x y z f more e = more e
found_one false x y z f more e = e

found : (named : Named) (rs ss : List Reference) (f : Fault) → dangling_of named rs ≡ Some f → dangling_of named (rs ++ ss) ≡ Some f
found named [] ss f e = absurd cc
found named (r ∷ rs) ss f e = found_one (is_some (named r.table r.value)) _ _ _ _ (found named rs ss f) e

none_one : (b : Bool) (x y z : Option Fault) (f : Fault) → (x ≡ None → y ≡ z) → cond b x (Some f) ≡ None → cond b y (Some f) ≡ z
none_one true x y z f more e = more e
none_one false x y z f more e = absurd cc

none : (named : Named) (rs ss : List Reference) → dangling_of named rs ≡ None → dangling_of named (rs ++ ss) ≡ dangling_of named ss
none named [] ss e = refl
none named (r ∷ rs) ss e = none_one (is_some (named r.table r.value)) _ _ _ _ (none named rs ss) e

-- what is left to find, by the next item
module _ (named : Named) (first : ℕ) (items : List ConditionItem) (i place : ℕ) (at : place ≡ first + 8 * i) where
  pub none_here : (item : ConditionItem) → slice_get items i ≡ Some item → dangling_of named (item_reference place item) ≡ None → dangling_of named (item_references (first + 8 * i) (drop i items)) ≡ dangling_of named (item_references (first + 8 * (i + 1)) (drop (i + 1) items))
  unfolding item_references
  none_here item e h =
      let next : first + 8 * i + 8 ≡ first + 8 * (i + 1) = omega arith in
      rw (dropped items i item e, none named (item_reference (first + 8 * i) item) (item_references (first + 8 * i + 8) (drop (i + 1) items)) (rw at at h), next) refl

  pub found_here : (item : ConditionItem) (f : Fault) → slice_get items i ≡ Some item → dangling_of named (item_reference place item) ≡ Some f → dangling_of named (item_references (first + 8 * i) (drop i items)) ≡ Some f
  unfolding item_references
  found_here item f e h = rw (dropped items i item e) (found named (item_reference (first + 8 * i) item) (item_references (first + 8 * i + 8) (drop (i + 1) items)) f (rw at at h))

pub none_left : (named : Named) (place : ℕ) (items : List ConditionItem) (i : ℕ) → length items ≤ i → dangling_of named (item_references place (drop i items)) ≡ None
unfolding item_references
none_left named place items i le = rw (drop_all i items le) refl
