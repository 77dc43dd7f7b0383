-- What a caller of the next walk is told.
use Rattle.std.proofs.Common.{◌≡◌, ℕ, ◌<◌, true, false, List, [], length, drop, refl, sym, ap, subst, ◌∙◌, arith}
use Rattle.std.specs.Prelude.{slice_index}
use Rattle.std.specs.List.{Contains}
use Rattle.std.specs.List.Sorted.{IsStrictlyIncreasing}
use Rattle.walk_enum.specs.Moving.{Moves}
use Rattle.walk_enum.specs.Inner.Turns.{Follows, IsLast}
use Rattle.walk_enum.proofs.Ascending.{ascends_from_increasing}
use Rattle.walk_enum.proofs.Turning.{moves_next, moves_last}
use Rattle.walk_simple.specs.SimpleWalks.{simple_along}
use Rattle.walk_simple.specs.Rooms.{WalkInRoom}
use Rattle.walk_simple.specs.Inner.Tables.{GoesFrom, ways_at}
use Rattle.walk_simple.proofs.Walking.{starts, simple_ascend}

module _ (next : ℕ → List ℕ) (from to most : ℕ) (walks : List (List ℕ)) (nodes : List ℕ) (all : simple_along next [] from to most ≡ walks) (has : Contains walks nodes) where
  inside : Contains (simple_along next [] from to most) nodes
  inside = subst (λ (ws : List (List ℕ)). Contains ws nodes) (sym all) has

  pub some_nodes : 0 < length nodes
  some_nodes = let s = starts next [] from to most nodes inside in omega (arith, ap length s.1)

  first_node : from ≡ slice_index nodes 0
  first_node = let s = starts next [] from to most nodes inside in ap (λ (l : List ℕ). slice_index l 0) s.1

  ways : ways_at next to most nodes 0 ≡ walks
  ways = ap (λ (a : ℕ). simple_along next [] a to most) (sym first_node) ∙ all

  pub there_at : Contains (ways_at next to most nodes 0) (drop 0 nodes)
  there_at = subst (λ (ws : List (List ℕ)). Contains ws nodes) (sym ways) has

  pub told_next : ((c : ℕ) → IsStrictlyIncreasing (next c)) → (old new : WalkInRoom) → old.nodes ≡ nodes → GoesFrom next to most 0 old new true → Moves walks nodes new.nodes true
  told_next rise old new same g =
      let r = g.some refl in
      let f : Follows walks nodes r.0 = subst (λ (ws : List (List ℕ)). Follows ws nodes r.0) ways (subst (λ (l : List ℕ). Follows (ways_at next to most l 0) l r.0) same r.2) in
      subst (λ (l : List ℕ). Moves walks nodes l true) (sym r.1)
      (subst (λ (ws : List (List ℕ)). Moves ws nodes r.0 true) all (moves_next (simple_along next [] from to most) nodes r.0 (simple_ascend next (λ a. ascends_from_increasing (next a) (rise a)) [] from to most) (subst (λ (ws : List (List ℕ)). Follows ws nodes r.0) (sym all) f)))

  pub told_last : ((c : ℕ) → IsStrictlyIncreasing (next c)) → (old new : WalkInRoom) → old.nodes ≡ nodes → GoesFrom next to most 0 old new false → Moves walks nodes nodes false
  told_last rise old new same g =
      let f : IsLast walks nodes = subst (λ (ws : List (List ℕ)). IsLast ws nodes) ways (subst (λ (l : List ℕ). IsLast (ways_at next to most l 0) l) same (g.none refl)) in
      subst (λ (ws : List (List ℕ)). Moves ws nodes nodes false) all (moves_last (simple_along next [] from to most) nodes (simple_ascend next (λ a. ascends_from_increasing (next a) (rise a)) [] from to most) (subst (λ (ws : List (List ℕ)). IsLast ws nodes) (sym all) f))
