-- Numbers that are gathered on the way through a table: one number more.
use Rattle.std.proofs.Common.{◌≡◌, refl, ℕ, ◌+◌, ◌-◌, ◌<◌, ◌≤◌, Bool, true, false, List, [], ◌∷◌, ◌++◌, length, take, set, sym, ap, cond, append-nil, ◌∙◌, arith}
use Rattle.std.specs.Int.{from_bool}
use Rattle.std.specs.List.{filter, range_with_len}
use Rattle.std.proofs.lemmas.List.{take-set-le, take_more_set}
use Rattle.pol_cursor.proofs.Ranges.{filter_range_one}

module _ (wanted : ℕ → Bool) (from : ℕ) where
  one_more : (to : ℕ) → from ≤ to → filter wanted (range_with_len from (to + 1 - from)) ≡ filter wanted (range_with_len from (to - from)) ++ cond (wanted to) (to ∷ []) []
  one_more to le =
      let count : to + 1 - from ≡ to - from + 1 = omega (arith, le) in
      let behind : from + (to - from) ≡ to = omega (arith, le) in
      ap (λ (n : ℕ). filter wanted (range_with_len from n)) count ∙ filter_range_one wanted from (to - from) to behind

  -- one that is put behind the others, which are so many, and stays there if it is wanted
  pub gathered_next : (to : ℕ) (numbers : List ℕ) (count : ℕ) (mark : Bool) → from ≤ to → count < length numbers → mark ≡ wanted to → take count numbers ≡ filter wanted (range_with_len from (to - from))
      → take (count + from_bool mark) (set numbers count to) ≡ filter wanted (range_with_len from (to + 1 - from))
  gathered_next to numbers count true le lt is gathers = rw (take_more_set numbers count to lt, gathers, one_more to le, ← is) refl
  gathered_next to numbers count false le lt is gathers =
      let same : take (count + 0) (set numbers count to) ≡ take count numbers = ap (λ (n : ℕ). take n (set numbers count to)) (omega arith) ∙ take-set-le count numbers count to (omega arith) in
      rw (same, gathers, one_more to le, ← is) (sym (append-nil _))
