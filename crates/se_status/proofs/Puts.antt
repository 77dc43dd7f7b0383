-- Texts that are put into a line, which is written where it is full and at its end.
use Rattle.std.proofs.Common.{◌≡◌, ◌++◌, ◌+◌, ◌<◌, ◌≤◌, ◌∷◌, [], ℕ, suc, List, length, take, drop, get_or, Option, Result, Ok, Err, sym, ◌∙◌, ap, subst, append_assoc, arith, drop-cons}
use Rattle.std.specs.List.{flat_map}
use Rattle.std.proofs.lemmas.List.{take_more, take-append-drop}
use Rattle.se_outside.specs.Outside.{SinkState}
use Rattle.se_items.specs.Writing.{GainsPart, Moves, Puts, Wrote}
use Rattle.se_items.proofs.Gains.{append_nil, gains-then, list-more, list-part-then, moved-part, moved-whole, moves-then, part-after, part-then, part-wider}

-- The text does not fit, and the line was written in part.
pub puts-cut : {T U E : Type 0} (a b : SinkState) (had has text : List ℕ) (e d : E)
    → Wrote {T = T} a b had (Err e) → Puts {T = U} a b had has text (Err d)
puts-cut a b had has text e d wrote = record { later = wrote.later; whole = tt; part = part-wider a.written b.written had text wrote.part; failed = wrote.failed }

-- The line was written, and then the text.
pub puts-over : {T U E : Type 0} (a b c : SinkState) (had has text : List ℕ) (x : T) (r : Result U E)
    → Wrote {E = E} a b had (Ok x) → Wrote b c text r → has ≡ [] → Puts a c had has text r
puts-over a b c had has text x (Ok y) first then empty = record {
  later = omega (arith, first.later, then.later);
  whole = (had ++ text, rw empty (sym (append_nil (had ++ text))), gains-then a.written b.written c.written had text first.whole then.whole);
  part = tt;
  failed = tt;
}
puts-over a b c had has text x (Err e) first then empty = record {
  later = omega (arith, first.later, then.later);
  whole = tt;
  part = part-after a.written b.written c.written had text first.whole then.part;
  failed = omega (arith, first.later, then.failed);
}

-- Two texts were put, one after the other.
pub puts-then : {T U E : Type 0} (a b c : SinkState) (h1 h2 h3 s t : List ℕ) (x : T) (r : Result U E)
    → Puts {E = E} a b h1 h2 s (Ok x) → Puts b c h2 h3 t r → Puts a c h1 h3 (s ++ t) r
puts-then a b c h1 h2 h3 s t x (Ok y) first then = record {
  later = omega (arith, first.later, then.later);
  whole = moves-then a.written b.written c.written h1 h2 h3 s t first.whole then.whole;
  part = tt;
  failed = tt;
}
puts-then a b c h1 h2 h3 s t x (Err e) first then = record {
  later = omega (arith, first.later, then.later);
  whole = tt;
  part = part-then a.written b.written c.written h1 h2 s t first.whole then.part;
  failed = omega (arith, first.later, then.failed);
}

-- The first of two texts was put in part.
pub puts-stop : {T E : Type 0} (a b : SinkState) (h1 h2 s t : List ℕ) (e : E)
    → Puts {T = T} a b h1 h2 s (Err e) → Puts {T = T} a b h1 h2 (s ++ t) (Err e)
puts-stop a b h1 h2 s t e first = record {
  later = first.later;
  whole = tt;
  part = subst (λ vs. GainsPart a.written b.written vs) (append_assoc h1 s t) (part-wider a.written b.written (h1 ++ s) t first.part);
  failed = first.failed;
}

-- A text was put into an empty line, which was then written.
pub puts-end : {T U E : Type 0} (a b c : SinkState) (has text : List ℕ) (x : T) (r : Result U E)
    → Puts {E = E} a b [] has text (Ok x) → Wrote b c has r → Wrote a c text r
puts-end a b c has text x (Ok y) first then = record { later = omega (arith, first.later, then.later); whole = moved-whole a.written b.written c.written [] has text first.whole then.whole; part = tt; failed = tt }
puts-end a b c has text x (Err e) first then = record { later = omega (arith, first.later, then.later); whole = tt; part = moved-part a.written b.written c.written [] has text first.whole then.part; failed = omega (arith, first.later, then.failed) }

-- A text was put into an empty line in part.
pub puts-failed : {T U E : Type 0} (a b : SinkState) (has text : List ℕ) (e d : E) → Puts {T = T} a b [] has text (Err e) → Wrote {T = U} a b text (Err d)
puts-failed a b has text e d first = record { later = first.later; whole = tt; part = first.part; failed = first.failed }

-- The texts of the items so far were put.
pub record PutsAll {A : Type 0} (f : A → List ℕ) (done : List A) (old new : SinkState) (had has : List ℕ) : Type 0 where
  pub later : old.faults ≤ new.faults
  pub moved : Moves old.written new.written had has (flat_map f done)

pub all-more : {A T E : Type 0} (f : A → List ℕ) (xs : List A) (i : ℕ) (d : A) (a b c : SinkState) (h1 h2 h3 : List ℕ) (u : T) → i < length xs
    → PutsAll f (take i xs) a b h1 h2 → Puts {E = E} b c h2 h3 (f (get_or xs i d)) (Ok u) → PutsAll f (take (i + 1) xs) a c h1 h3
all-more f xs i d a b c h1 h2 h3 u lt so_far next = record {
  later = omega (arith, so_far.later, next.later);
  moved = rw (take_more xs i d lt) (list-more f (take i xs) (get_or xs i d) a.written b.written c.written h1 h2 h3 so_far.moved next.whole);
}

pub all-stop : {A T U E : Type 0} (f : A → List ℕ) (xs : List A) (i : ℕ) (d : A) (a b c : SinkState) (h1 h2 h3 : List ℕ) (e k : E) → i < length xs
    → PutsAll f (take i xs) a b h1 h2 → Puts {T = T} b c h2 h3 (f (get_or xs i d)) (Err e) → Puts {T = U} a c h1 h3 (flat_map f xs) (Err k)
all-stop {A} f xs i d a b c h1 h2 h3 e k lt so_far next =
    let rest : List A = drop (suc i) xs in
    let whole : take i xs ++ (get_or xs i d ∷ rest) ≡ xs = ap (λ vs. take i xs ++ vs) (sym (drop-cons xs i d lt)) ∙ take-append-drop i xs in
    record {
      later = omega (arith, so_far.later, next.later);
      whole = tt;
      part = rw (← whole) (list-part-then f (take i xs) (get_or xs i d) rest a.written b.written c.written h1 h2 so_far.moved next.part);
      failed = omega (arith, so_far.later, next.failed);
    }
