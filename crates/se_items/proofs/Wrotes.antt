-- Texts that are written one after the other.
use Rattle.std.proofs.Common.{◌≡◌, ◌++◌, ◌+◌, ◌<◌, ◌≤◌, ◌∷◌, [], ℕ, suc, List, length, take, drop, get_or, Option, Result, Ok, Err, refl, sym, ◌∙◌, ap, subst, arith, drop-cons}
use Rattle.std.specs.Io.KnownBytes.{Appends}
use Rattle.std.specs.List.{flat_map}
use Rattle.std.proofs.lemmas.Grind.{flat_map-append}
use Rattle.std.proofs.lemmas.List.{take_all, take_more, take-append-drop}
use Rattle.se_outside.specs.Outside.{SinkState}
use Rattle.se_items.specs.Writing.{Wrote, Sends, GainsPart}
use Rattle.se_items.specs.declared.writing.WriteEnd.{WriteEnd}
use Rattle.se_items.specs.declared.writing.WriteEnd.TheVariants.{Memory}
use Rattle.se_items.proofs.Gains.{gains-none, gains-then, part-after, part-wider, texts-more}

pub wrote-then : {T U E : Type 0} (a b c : SinkState) (s t : List ℕ) (x : T) (r : Result U E)
    → Wrote {E = E} a b s (Ok x) → Wrote b c t r → Wrote a c (s ++ t) r
wrote-then a b c s t x (Ok y) first then = record { later = omega (arith, first.later, then.later); whole = gains-then a.written b.written c.written s t first.whole then.whole; part = tt; failed = tt }
wrote-then a b c s t x (Err e) first then = record { later = omega (arith, first.later, then.later); whole = tt; part = part-after a.written b.written c.written s t first.whole then.part; failed = omega (arith, first.later, then.failed) }

pub wrote-stop : {T U E : Type 0} (a b : SinkState) (s t : List ℕ) (e d : E)
    → Wrote {T = T} a b s (Err e) → Wrote {T = U} a b (s ++ t) (Err d)
wrote-stop a b s t e d first = record { later = first.later; whole = tt; part = part-wider a.written b.written s t first.part; failed = first.failed }

-- The texts of a list were written up to an item, and then that of the item.
pub texts-then : {A : Type 0} (f : A → List ℕ) (xs : List A) (i : ℕ) (d : A) (a b c : Option (List ℕ)) → i < length xs
    → Appends a b (flat_map f (take i xs)) → Appends b c (f (get_or xs i d)) → Appends a c (flat_map f (take (i + 1) xs))
texts-then f xs i d a b c lt so_far next =
    rw (take_more xs i d lt, texts-more f (take i xs) (get_or xs i d)) (gains-then a b c _ _ so_far next)

-- The text of the item was written in part.
pub texts-stop : {A : Type 0} (f : A → List ℕ) (xs : List A) (i : ℕ) (d : A) (a b c : Option (List ℕ)) → i < length xs
    → Appends a b (flat_map f (take i xs)) → GainsPart b c (f (get_or xs i d)) → GainsPart a c (flat_map f xs)
texts-stop {A} f xs i d a b c lt so_far next =
    let rest : List A = drop (suc i) xs in
    let e : take i xs ++ (get_or xs i d ∷ rest) ≡ xs = ap (λ vs. take i xs ++ vs) (sym (drop-cons xs i d lt)) ∙ take-append-drop i xs in
    let all : GainsPart a c (flat_map f (take i xs) ++ (f (get_or xs i d) ++ flat_map f rest)) = part-after a b c _ _ so_far (part-wider b c _ (flat_map f rest) next) in
    let k : flat_map f (take i xs) ++ (f (get_or xs i d) ++ flat_map f rest) ≡ flat_map f xs = sym (flat_map-append f (take i xs) (get_or xs i d ∷ rest)) ∙ ap (flat_map f) e in
    subst (λ vs. GainsPart a c vs) k all

-- The texts of the items so far were written.
pub record Texts {A : Type 0} (f : A → List ℕ) (done : List A) (old new : SinkState) : Type 0 where
  pub later : old.faults ≤ new.faults
  pub gained : Appends old.written new.written (flat_map f done)

-- Memory ran out before anything was written.
pub nothing_sent : {T : Type 0} (sink : SinkState) (text : List ℕ) → Sends {T = T} sink sink text (Err Memory)
nothing_sent sink text = record {
  later = omega arith;
  whole = tt;
  part = ([], text, refl, gains-none sink.written);
  failed = λ h. absurd (cc h);
}

-- The texts of the items up to one were written, and its text in part.
pub sends-stop : {A T : Type 0} (f : A → List ℕ) (xs : List A) (i : ℕ) (d : A) (a b c : SinkState) (end : WriteEnd)
    → i < length xs → Texts f (take i xs) a b → Sends {T = T} b c (f (get_or xs i d)) (Err end) → Sends {T = T} a c (flat_map f xs) (Err end)
sends-stop f xs i d a b c end lt texts next = record {
  later = omega (arith, texts.later, next.later);
  whole = tt;
  part = texts-stop f xs i d a.written b.written c.written lt texts.gained next.part;
  failed = λ h. omega (arith, texts.later, next.failed h);
}

-- The texts of all items were written.
pub sends-all : {A T : Type 0} (f : A → List ℕ) (xs : List A) (i : ℕ) (a b : SinkState) (u : T)
    → length xs ≤ i → Texts f (take i xs) a b → Sends a b (flat_map f xs) (Ok u)
sends-all f xs i a b u le texts = record {
  later = texts.later;
  whole = rw (take_all i xs le) at texts.gained;
  part = tt;
  failed = λ h. absurd (cc h);
}

-- No text was written, which is all of it.
pub none_sent : {T : Type 0} (sink : SinkState) (u : T) → Sends sink sink [] (Ok u)
none_sent sink u = record { later = omega arith; whole = gains-none sink.written; part = tt; failed = λ h. absurd (cc h) }
