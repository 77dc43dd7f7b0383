-- The number that a pool gives to a set.
use Rattle.std.proofs.Common.{◌≡◌, ◌+◌, ◌++◌, ◌∷◌, inl, inr, [], ℕ, List, Bool, true, false, ◌==◌, ◌&&◌, ◌||◌, if◌then◌else◌, length, Some, slice_get, refl, sym, ◌∙◌, ap, arith, Decides, cond, not, zero, suc}
use Rattle.std.specs.List.{list_any, find, position_or_len, Contains}
use Rattle.std.specs.Ordering.{on, eq_of_both}
use Rattle.std.proofs.lemmas.Bool.Decides.{Decides-eqb}
use Rattle.std.proofs.lemmas.Slice.Eq.{slice_eq-Decides}
use Rattle.std.proofs.lemmas.List.Folds.{find_at}
use Rattle.std.proofs.lemmas.Option.{slice_get_within}
use Rattle.indexmap.specs.IndexSet.{insert_key}
use Rattle.pol_bitmap.specs.declared.node.Node.{Node}
use Rattle.pol_bitmap.specs.Sets.{nodes_eq}
use Rattle.pol_bitmap.specs.Kept.{IsNumberOf}

both : (a b : Bool) → (a && b) ≡ true → (a ≡ true) × (b ≡ true)
both true true h = (refl, refl)
both true false h = absurd (cc h)
both false b h = absurd (cc h)

node-Decides : (a b : Node) → Decides (eq_of_both (on (λ (n : Node). n.start) ◌==◌) (on (λ (n : Node). n.map) ◌==◌) a b) (a ≡ b)
node-Decides a b = (
  (λ h. let p = both (a.start == b.start) (a.map == b.map) h in
      let s : a.start ≡ b.start = (Decides-eqb a.start b.start).0 p.0 in
      let m : a.map ≡ b.map = (Decides-eqb a.map b.map).0 p.1 in
      λ i. record { start = s i; map = m i }),
  (λ e. rw ((Decides-eqb a.start b.start).1 (ap (λ (n : Node). n.start) e), (Decides-eqb a.map b.map).1 (ap (λ (n : Node). n.map) e)) refl),
)

or-true-right : (a b : Bool) → b ≡ true → (a || b) ≡ true
or-true-right true b h = refl
or-true-right false b h = h

pub same : (xs ys : List Node) → nodes_eq xs ys ≡ true → xs ≡ ys
same xs ys = (slice_eq-Decides node-Decides xs ys (nodes_eq xs ys) refl).0

pub same-refl : (xs : List Node) → nodes_eq xs xs ≡ true
same-refl xs = (slice_eq-Decides node-Decides xs xs (nodes_eq xs xs) refl).1 refl

find-go : (set x : List Node) (xs : List (List Node)) (b : Bool) → nodes_eq set x ≡ b → (b || list_any (nodes_eq set) xs) ≡ true
    → (list_any (nodes_eq set) xs ≡ true → find (nodes_eq set) xs ≡ Some set) → cond b (Some x) (find (nodes_eq set) xs) ≡ Some set
find-go set x xs true e h rest = ap Some (sym (same set x e))
find-go set x xs false e h rest = rest h

find-set : (set : List Node) (old : List (List Node)) → list_any (nodes_eq set) old ≡ true → find (nodes_eq set) old ≡ Some set
find-set set [] h = absurd (cc h)
find-set set (x ∷ xs) h = find-go set x xs (nodes_eq set x) refl h (find-set set xs)

pos-go : (set : List Node) (xs : List (List Node)) (b : Bool) → (b || list_any (nodes_eq set) xs) ≡ false
    → (list_any (nodes_eq set) xs ≡ false → position_or_len (nodes_eq set) xs ≡ length xs) → cond (not b) (1 + position_or_len (nodes_eq set) xs) 0 ≡ length xs + 1
pos-go set xs true h rest = absurd (cc h)
pos-go set xs false h rest = omega (arith, rest h)

pos-none : (set : List Node) (old : List (List Node)) → list_any (nodes_eq set) old ≡ false → position_or_len (nodes_eq set) old ≡ length old
pos-none set [] h = refl
pos-none set (x ∷ xs) h = pos-go set xs (nodes_eq set x) h (pos-none set xs) ∙ omega arith

in-list : (set : List Node) (old : List (List Node)) → Contains old set → list_any (nodes_eq set) old ≡ true
in-list set [] (k, lt, is) = absurd (omega arith)
in-list set (x ∷ xs) (zero, lt, is) = let e : nodes_eq set x ≡ true = rw is (same-refl set) in rw e refl
in-list set (x ∷ xs) (suc k, lt, is) = or-true-right (nodes_eq set x) _ (in-list set xs (k, omega (arith, lt), is))

numbered-go : (old new : List (List Node)) (set : List Node) (n : ℕ) (b : Bool) → list_any (nodes_eq set) old ≡ b → new ≡ (if b then old else old ++ set ∷ []) → n ≡ position_or_len (nodes_eq set) old → IsNumberOf old new set n
numbered-go old new set n true there is at =
    let found : slice_get old n ≡ Some set = rw at (sym (find_at (nodes_eq set) old) ∙ find-set set old there) in
    inl (slice_get_within old n set found, is, found)
numbered-go old new set n false there is at = inr (at ∙ pos-none set old there, is, λ has. absurd (cc (there, in-list set old has)))

pub numbered : (old new : List (List Node)) (set : List Node) (n : ℕ) → new ≡ insert_key nodes_eq old set → n ≡ position_or_len (nodes_eq set) old → IsNumberOf old new set n
numbered old new set n is at = numbered-go old new set n (list_any (nodes_eq set) old) refl is at
