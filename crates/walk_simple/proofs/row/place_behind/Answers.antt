use Rattle.std.proofs.Common.{◌≡◌, inl, inr, ℕ, suc, ◌<◌, ◌≤◌, List, ◌∷◌, ◌++◌, length, get_or, take, drop, sym, ap, ◌∙◌, rules, arith, drop-cons}
use Rattle.std.specs.Prelude.{nat_le}
use Rattle.std.specs.List.{Contains}
use Rattle.std.specs.List.Sorted.{IsStrictlyIncreasing}
use Rattle.std.proofs.lemmas.Bool.{cases_order, leb-true, leb-false}
use Rattle.std.proofs.lemmas.List.{take-append-drop, get_or_default}
use Rattle.std.proofs.lemmas.List.Sorted.{IsPartitionPoint-from_clause, IsPartitionedBy-leb}
use Rattle.walk_enum.proofs.Rows.{increasing_not_falling}
use Rattle.walk_enum.proofs.Ascending.{increasing_at}
use Rattle.walk_simple.specs.Inner.Tables.{IsBehind}
use Rattle.walk_simple.proofs.row.place_behind.Goals as goal

-- the place where a row that rises has gone past a node is the one behind the node's own
behind : (row : List ℕ) (x p : ℕ) → IsStrictlyIncreasing row → Contains row x → p ≤ length row → ((k : ℕ) → k < p → get_or row k 0 ≤ x) → ((k : ℕ) → p ≤ k → k < length row → x < get_or row k 0) → IsBehind row x p
behind row x p up (k, lt, is) bound low high =
    let at : get_or row k 0 ≡ x = get_or_default row k 0 x lt ∙ is in
    elim (cases_order p (suc k)) [
      | inl e ↦ record {
        front = take k row;
        is = sym (take-append-drop k row) ∙ ap (λ (l : List ℕ). take k row ++ l) (drop-cons row k 0 lt)
            ∙ ap (λ (v : ℕ). take k row ++ v ∷ drop (suc k) row) at ∙ ap (λ (n : ℕ). take k row ++ x ∷ drop n row) (sym e);
      }
      | inr (inl less) ↦ absurd (omega (arith, at, high k (omega (arith, less)) lt))
      | inr (inr more) ↦ absurd (omega (arith, at, low (suc k) more, increasing_at row up k (suc k) (omega arith) (omega (arith, more, bound))))
    ]

pub returns : goal.returns
returns c =
    let row = c.args.row.now in
    let place = c.partition_point.result in
    let parted = IsPartitionedBy-leb (λ x. x) row c.args.node (increasing_not_falling row c.requires.rising) in
    let point = IsPartitionPoint-from_clause (λ x. nat_le x c.args.node) row place c.partition_point.ensures.partitioned parted (λ a r q k. search rules) in
    behind row c.args.node place c.requires.rising c.requires.there c.partition_point.ensures.bound
    (λ k lt. leb-true _ _ (point.0 k 0 (omega (arith, c.partition_point.ensures.bound)) lt)) (λ k le lt. leb-false _ _ (point.1 k 0 le lt))
