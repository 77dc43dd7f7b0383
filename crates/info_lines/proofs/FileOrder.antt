-- Lines in the order of their numbers, and lines after others.
use Rattle.std.proofs.Common.{◌≡◌, ◌≤◌, ◌<◌, ◌+◌, ◌-◌, ◌++◌, ◌∷◌, [], ℕ, zero, suc, List, length, map, Result, Ok, Err, sym, ap, refl, arith}
use Rattle.std.specs.List.{All, range_with_len}
use Rattle.std.specs.declared.alloc.AllocError.{AllocError}
use Rattle.std.proofs.lemmas.List.Elements.{All-nil, All-cons}
use Rattle.std.proofs.lemmas.List.{length-append, length-map}
use Rattle.std.proofs.lemmas.List.FromFn.{fill_by_all, length-map-range_with_len}
use Rattle.info_lines.specs.Inner.Lines.{PushesLine}
use Rattle.info_lines.specs.Inner.Listings.{HasLine, line_of}

-- ---- numbers

pub first_of : (a b : ℕ) → a < b → range_with_len a (b - a) ≡ a ∷ range_with_len (a + 1) (b - (a + 1))
first_of a b lt = let e : b - a ≡ suc (b - (a + 1)) = omega (arith, lt) in rw e refl

pub none_of : (a b : ℕ) → b ≤ a → range_with_len a (b - a) ≡ []
none_of a b le = let e : b - a ≡ 0 = omega (arith, le) in rw e refl

pub so_many : (f : ℕ → List ℕ) (a n : ℕ) → n ≡ length (map f (range_with_len a n))
so_many f a n = sym (length-map-range_with_len f a n)

pub as_many : {A : Type 0} (line : A → List ℕ) (records : List A) → length (map line records) ≡ length records
as_many line records = length-map records line

-- all of them have a line
there-from : (P : ℕ → Type 0) (a n : ℕ) → ((k : ℕ) → k < a + n → P k) → All P (range_with_len a n)
there-from P a zero each = All-nil P
there-from P a (suc n) each = All-cons P a (range_with_len (a + 1) n) (each a (omega arith)) (there-from P (a + 1) n (λ k lt. each k (omega (arith, lt))))

pub all_there : (lines : List (List ℕ)) (count : ℕ) → count ≡ length lines → All (HasLine lines) (range_with_len 0 count)
all_there lines count e = there-from (HasLine lines) 0 count (λ k lt. omega (arith, lt, e))

-- and these are all lines
pub all_lines : (lines : List (List ℕ)) (count : ℕ) → count ≡ length lines → map (line_of lines) (range_with_len 0 count) ≡ lines
all_lines lines count e = sym (fill_by_all (line_of lines) lines count [] (sym e) (λ k lt. refl))

-- ---- lines after others

pub both_counted : (first second : List (List ℕ)) → length (first ++ second) ≡ length first + length second
both_counted first second = length-append first second

pub chained_first : (first next others : List (List ℕ)) (had has : List ℕ) (result : Result (Unit {0}) AllocError)
    → 0 < length first → PushesLine first next had has result → PushesLine (first ++ others) (next ++ others) had has result
chained_first [] next others had has result some pushes = absurd (omega (arith, some))
chained_first (line ∷ lines) next others had has (Ok u) some pushes = (ap (λ ls. ls ++ others) pushes.0, pushes.1)
chained_first (line ∷ lines) next others had has (Err e) some pushes = pushes

pub chained_second : (first second next : List (List ℕ)) (had has : List ℕ) (result : Result (Unit {0}) AllocError)
    → length first ≤ 0 → PushesLine second next had has result → PushesLine (first ++ second) (first ++ next) had has result
chained_second [] second next had has result none pushes = pushes
chained_second (line ∷ lines) second next had has result none pushes = absurd (omega (arith, none))
