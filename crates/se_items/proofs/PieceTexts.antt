-- Texts that pass through a buffer piece by piece.
use Rattle.std.proofs.Common.{◌≡◌, ◌∙◌, ◌≤◌, ◌<◌, ◌++◌, ◌∷◌, ℕ, suc, List, [], length, Ok, Err, Bool, true, false, refl, sym, ap, subst, arith, append-nil, append_assoc}
use Rattle.std.specs.List.{concat}
use Rattle.se_outside.specs.Outside.{SinkState}
use Rattle.se_items.specs.Pieces.{AddsPiece, Left, PushesPiece}
use Rattle.se_items.specs.Writing.{Emits, GainsPart, Moves, Sends, Wrote}
use Rattle.se_items.specs.declared.writing.WriteEnd.{WriteEnd}
use Rattle.se_items.specs.declared.writing.WriteEnd.TheVariants.{Fault, Memory}
use Rattle.se_items.proofs.Gains.{gains-none, moved-part, moved-whole, moves-then, part-so-far, part-then, part-wider, spilled, spilled-part}

-- The text up to what is left went on.
pub record Passed (first left : Left) (old new : SinkState) (had has : List ℕ) : Type 0 where
  pub later : old.faults ≤ new.faults
  pub done : List ℕ
  pub whole : first.text ≡ done ++ left.text
  pub moved : Moves old.written new.written had has done

pub none-passed : (first : Left) (sink : SinkState) (had : List ℕ) → Passed first first sink sink had had
none-passed first sink had = record { later = omega arith; done = []; whole = refl; moved = ([], append-nil had, gains-none sink.written) }

adds : (left next : Left) (has put : List ℕ) (more : Bool) → more ≡ true → PushesPiece left next has put more → AddsPiece left next has put
adds left next has put more is pushes = subst (PushesPiece left next has put) is pushes

-- A piece was put into the buffer, which was then spilled.
pub piece-next : {T : Type 0} (first left next : Left) (old mid new : SinkState) (had has put kept : List ℕ) (u : T) (more : Bool)
    → more ≡ true → Passed first left old mid had has → PushesPiece left next has put more → Emits mid new put kept [] (Ok u) → Passed first next old new had kept
piece-next first left next old mid new had has put kept u more is passed pushes spills =
    let p = adds left next has put more is pushes in
    record {
      later = omega (arith, passed.later, spills.later);
      done = passed.done ++ p.piece;
      whole = passed.whole ∙ ap (λ (x : List ℕ). passed.done ++ x) p.left ∙ sym (append_assoc passed.done p.piece next.text);
      moved = moves-then old.written mid.written new.written had has kept passed.done p.piece passed.moved (spilled mid.written new.written has put kept p.piece p.added spills.whole);
    }

pub piece-nearer : (left next : Left) (has put : List ℕ) (more : Bool) → more ≡ true → PushesPiece left next has put more → next.pieces < left.pieces
piece-nearer left next has put more is pushes = (adds left next has put more is pushes).nearer

-- No piece was put.
pub piece-stop : {T : Type 0} (first left : Left) (old new : SinkState) (had has kept : List ℕ) → Passed first left old new had has → Emits {T = T} old new had kept first.text (Err Memory)
piece-stop first left old new had has kept passed = record {
  later = passed.later;
  whole = tt;
  part = subst (λ (text : List ℕ). GainsPart old.written new.written (had ++ text)) (sym passed.whole) (part-so-far old.written new.written had has passed.done left.text passed.moved);
  failed = λ h. absurd (cc h);
}

-- The buffer with the piece was spilled in part.
pub piece-cut : {T : Type 0} (first left next : Left) (old mid new : SinkState) (had has put kept : List ℕ) (end : WriteEnd) (more : Bool)
    → more ≡ true → Passed first left old mid had has → PushesPiece left next has put more → Emits {T = T} mid new put kept [] (Err end) → Emits {T = T} old new had kept first.text (Err end)
piece-cut first left next old mid new had has put kept end more is passed pushes spills =
    let p = adds left next has put more is pushes in
    let here : GainsPart mid.written new.written (has ++ p.piece) = spilled-part mid.written new.written has put p.piece p.added spills.part in
    let beyond : GainsPart mid.written new.written (has ++ (p.piece ++ next.text)) =
    subst (λ (text : List ℕ). GainsPart mid.written new.written text) (append_assoc has p.piece next.text) (part-wider mid.written new.written (has ++ p.piece) next.text here) in
    let whole : first.text ≡ passed.done ++ (p.piece ++ next.text) = passed.whole ∙ ap (λ (x : List ℕ). passed.done ++ x) p.left in
    record {
      later = omega (arith, passed.later, spills.later);
      whole = tt;
      part = subst (λ (text : List ℕ). GainsPart old.written new.written (had ++ text)) (sym whole) (part-then old.written mid.written new.written had has passed.done (p.piece ++ next.text) passed.moved beyond);
      failed = λ h. omega (arith, passed.later, spills.failed h);
    }

-- Nothing was left.
pub piece-end : {T : Type 0} (first left next : Left) (old new : SinkState) (had has put : List ℕ) (u : T) (more : Bool)
    → more ≡ false → Passed first left old new had has → PushesPiece left next has put more → Emits old new had put first.text (Ok u)
piece-end first left next old new had has put u more is passed pushes =
    let none = subst (PushesPiece left next has put) is pushes in
    let whole : first.text ≡ passed.done = passed.whole ∙ ap (λ (x : List ℕ). passed.done ++ x) none.0 ∙ append-nil passed.done in
    record {
      later = passed.later;
      whole = subst (λ (text : List ℕ). Moves old.written new.written had put text) (sym whole) (subst (λ (kept : List ℕ). Moves old.written new.written had kept passed.done) (sym none.1) passed.moved);
      part = tt;
      failed = λ h. absurd (cc h);
    }

-- An item of a list is a piece of the text of all.
pub item-added : (left rest : List (List ℕ)) (text had has : List ℕ) → left ≡ text ∷ rest → has ≡ had ++ text
    → AddsPiece (record { text = concat left; pieces = length left }) (record { text = concat rest; pieces = length rest }) had has
item-added left rest text had has next added =
    let long : length left ≡ suc (length rest) = ap length next in
    record { piece = text; left = ap concat next; added = added; nearer = omega (arith, long) }

-- What the buffer had, and a text through it in part.
pub behind-cut : {T : Type 0} (old new : SinkState) (had kept text : List ℕ) (end : WriteEnd) → Emits {T = T} old new had kept text (Err end) → Sends {T = T} old new (had ++ text) (Err end)
behind-cut old new had kept text end emits = record { later = emits.later; whole = tt; part = emits.part; failed = emits.failed }

-- All of the text went on, and what the buffer kept was written in part.
pub behind-last-cut : {T E : Type 0} (old mid new : SinkState) (had kept text : List ℕ) (u : T) (failed : E)
    → Emits old mid had kept text (Ok u) → Wrote {T = T} mid new kept (Err failed) → Sends {T = T} old new (had ++ text) (Err Fault)
behind-last-cut old mid new had kept text u failed emits wrote = record {
  later = omega (arith, emits.later, wrote.later);
  whole = tt;
  part = moved-part old.written mid.written new.written had kept text emits.whole wrote.part;
  failed = λ h. omega (arith, emits.later, wrote.failed);
}

-- All of the text went on, and what the buffer kept was written.
pub behind-whole : {T E : Type 0} (old mid new : SinkState) (had kept text : List ℕ) (u v w : T)
    → Emits old mid had kept text (Ok u) → Wrote {E = E} mid new kept (Ok v) → Sends old new (had ++ text) (Ok w)
behind-whole old mid new had kept text u v w emits wrote = record {
  later = omega (arith, emits.later, wrote.later);
  whole = moved-whole old.written mid.written new.written had kept text emits.whole wrote.whole;
  part = tt;
  failed = λ h. absurd (cc h);
}
