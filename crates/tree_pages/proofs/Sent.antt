-- Texts that are sent through a buffer, one after the other.
use Rattle.std.proofs.Common.{◌≡◌, ◌<◌, ◌+◌, ◌++◌, ℕ, List, [], Result, Ok, Err, length, get_or, take, drop, sym, ap, subst, ◌∙◌, arith, append_assoc, append-nil}
use Rattle.std.specs.List.{flat_map}
use Rattle.std.proofs.lemmas.Grind.{flat_map-append}
use Rattle.std.proofs.lemmas.List.{take_more, take-append-drop}
use Rattle.se_outside.specs.Outside.{SinkState}
use Rattle.se_items.specs.Writing.{Emits, GainsPart}
use Rattle.se_items.specs.declared.WriteEnd.{WriteEnd}
use Rattle.se_items.proofs.Gains.{gains-none, moves-then, part-then, part-wider, texts-more}

-- A first text was sent, and then a second one.
pub sent_then : {T : Type 0} (old mid new : SinkState) (had kept has s t : List ℕ) (u : T) (result : Result T WriteEnd)
    → Emits old mid had kept s (Ok u) → Emits mid new kept has t result → Emits old new had has (s ++ t) result
sent_then old mid new had kept has s t u (Ok v) first then = record {
  later = omega (arith, first.later, then.later);
  whole = moves-then old.written mid.written new.written had kept has s t first.whole then.whole;
  part = tt;
  failed = λ h. absurd (cc h);
}
sent_then old mid new had kept has s t u (Err e) first then = record {
  later = omega (arith, first.later, then.later);
  whole = tt;
  part = part-then old.written mid.written new.written had kept s t first.whole then.part;
  failed = λ h. omega (arith, first.later, then.failed h);
}

-- The first text was sent in part.
pub sent_cut : {T : Type 0} (old new : SinkState) (had has s t : List ℕ) (e : WriteEnd) → Emits {T = T} old new had has s (Err e) → Emits {T = T} old new had has (s ++ t) (Err e)
sent_cut old new had has s t e sent = record {
  later = sent.later;
  whole = tt;
  part = subst (λ (text : List ℕ). GainsPart old.written new.written text) (append_assoc had s t) (part-wider old.written new.written (had ++ s) t sent.part);
  failed = sent.failed;
}

-- A text was sent whole.
abbrev pub IsSent : SinkState → SinkState → List ℕ → List ℕ → List ℕ → Type 0
IsSent old new had has text = Emits {T = Unit {0}} old new had has text (Ok tt)

-- No text was sent, which is all of it.
pub all_of_none : (sink : SinkState) (had : List ℕ) → IsSent sink sink had had []
all_of_none sink had = record { later = omega arith; whole = ([], append-nil had, gains-none sink.written); part = tt; failed = λ h. absurd (cc h) }

module _ {A : Type 0} (f : A → List ℕ) (xs : List A) (i : ℕ) (d : A) (old mid new : SinkState) (had kept has : List ℕ) (lt : i < length xs) (so_far : IsSent old mid had kept (flat_map f (take i xs))) where
  -- one record more
  pub records_next : (u : Unit {0}) → Emits {T = Unit {0}} mid new kept has (f (get_or xs i d)) (Ok u) → IsSent old new had has (flat_map f (take (i + 1) xs))
  records_next u next =
      rw (take_more xs i d lt, texts-more f (take i xs) (get_or xs i d)) (sent_then {T = Unit {0}} old mid new had kept has (flat_map f (take i xs)) (f (get_or xs i d)) tt (Ok tt) so_far next)

  -- the next record was sent in part
  pub records_cut : (e : WriteEnd) → Emits {T = Unit {0}} mid new kept has (f (get_or xs i d)) (Err e) → Emits {T = Unit {0}} old new had has (flat_map f xs) (Err e)
  records_cut e next =
      let rest = drop (i + 1) xs in
      let whole : xs ≡ take (i + 1) xs ++ rest = sym (take-append-drop (i + 1) xs) in
      let texts : flat_map f xs ≡ (flat_map f (take i xs) ++ f (get_or xs i d)) ++ flat_map f rest =
      ap (flat_map f) whole ∙ flat_map-append f (take (i + 1) xs) rest ∙ ap (λ (t : List ℕ). t ++ flat_map f rest) (ap (flat_map f) (take_more xs i d lt) ∙ texts-more f (take i xs) (get_or xs i d)) in
      rw texts (sent_cut old new had has (flat_map f (take i xs) ++ f (get_or xs i d)) (flat_map f rest) e (sent_then old mid new had kept has (flat_map f (take i xs)) (f (get_or xs i d)) tt (Err e) so_far next))
