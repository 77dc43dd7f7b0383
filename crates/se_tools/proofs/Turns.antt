-- What the turns of a reading loop keep.
use Rattle.std.proofs.Common.{◌≡◌, ◌≢◌, ◌≤◌, ◌<◌, ◌+◌, ◌++◌, ◌∷◌, ℕ, zero, suc, List, [], length, take, drop, true, Some, Result, Ok, refl, sym, subst, ◌∙◌, ap, arith, append_assoc, length-append}
use Rattle.std.proofs.lemmas.List.{take_all, take-append-drop, take-take, length-take-le}
use Rattle.se_outside.specs.Outside.{SlotState, Reads, World}
use Rattle.se_outside.specs.declared.Slot.{Slot}
use Rattle.se_items.proofs.Gains.{append_nil}

-- Nothing but the slot's place changes.
pub record Kept (start now : Slot → SlotState) (slot : Slot) : Type 0 where
  pub others : (s : Slot) → s ≢ slot → now s ≡ start s
  pub asked : (now slot).asked ≡ (start slot).asked
  pub named : (now slot).name ≡ (start slot).name
  pub later : (start slot).faults ≤ (now slot).faults

-- What was read and what is left are what the slot had.
pub record Turns (first world : World) (start now : Slot → SlotState) (slot : Slot) (turn : ℕ) (bytes : List ℕ) (limit : ℕ) : Type 0 where
  pub same : world ≡ first
  pub kept : Kept start now slot
  pub turned : (now slot).turns ≤ (start slot).turns + turn
  pub is_open : (now slot).is_open ≡ true
  pub content : (xs : List ℕ) → (start slot).left ≡ Some xs → (rest : List ℕ) × ((now slot).left ≡ Some rest) × (xs ≡ bytes ++ rest)
  pub turns : turn ≤ length bytes
  pub size : length bytes ≤ limit

pub turns-start : (first world : World) (start : Slot → SlotState) (slot : Slot) (bytes : List ℕ) (limit : ℕ) → world ≡ first → bytes ≡ [] → (start slot).is_open ≡ true → Turns first world start start slot 0 bytes limit
turns-start first world start slot bytes limit same empty is_open =
    record { same = same; kept = record { others = λ s ne. refl; asked = refl; named = refl; later = omega arith }; turned = omega arith; is_open = is_open; content = λ xs h. (xs, h, rw empty refl); turns = omega arith; size = rw empty (omega arith) }

pub kept-read : {E : Type 0} (start mid new : Slot → SlotState) (slot : Slot) (into : List ℕ) (r : Result ℕ E) → Kept start mid slot → Reads mid new slot into r → Kept start new slot
kept-read start mid new slot into r kept reads =
    record { others = λ s ne. reads.others s ne ∙ kept.others s ne; asked = reads.this.asked ∙ kept.asked; named = reads.this.named ∙ kept.named; later = omega (arith, kept.later, reads.this.later) }

-- what is left after a read of some bytes
pub read-on : {E : Type 0} (mid new : Slot → SlotState) (slot : Slot) (into : List ℕ) (k : ℕ) (bytes more xs rest : List ℕ)
    → Reads {E = E} mid new slot into (Ok k) → more ≡ bytes ++ take k into → (mid slot).left ≡ Some rest → xs ≡ bytes ++ rest
    → ((new slot).left ≡ Some (drop k rest)) × (xs ≡ more ++ drop k rest) × (k ≡ 0 → rest ≡ [])
read-on mid new slot into k bytes more xs rest reads grown left e =
    let h = rw left at reads.this.bytes in
    (h.0, (e ∙ ap (λ vs. bytes ++ vs) (sym (take-append-drop k rest)) ∙ sym (append_assoc bytes (take k rest) (drop k rest)) ∙ ap (λ vs. (bytes ++ vs) ++ drop k rest) (sym h.1) ∙ ap (λ vs. vs ++ drop k rest) (sym grown)), h.3)

pub longer : (into bytes more : List ℕ) (k : ℕ) → k ≤ length into → more ≡ bytes ++ take k into → length more ≡ length bytes + k
longer into bytes more k fits grown = rw (grown, length-append bytes (take k into), length-take-le k into fits) refl

pub turns-more : {E : Type 0} (first before world : World) (start mid new : Slot → SlotState) (slot : Slot) (turn k limit : ℕ) (bytes more into : List ℕ)
    → Turns first before start mid slot turn bytes limit → world ≡ before → Reads {E = E} mid new slot into (Ok k) → 0 < k → more ≡ bytes ++ take k into → length more ≤ limit
    → Turns first world start new slot (turn + 1) more limit
turns-more {E} first before world start mid new slot turn k limit bytes more into turns same reads some grown size =
    record {
      same = same ∙ turns.same;
      kept = kept-read start mid new slot into _ turns.kept reads;
      turned = omega (arith, turns.turned, reads.this.turned);
      is_open = reads.this.still;
      content = λ xs h. let was = turns.content xs h in let now = read-on {E = E} mid new slot into k bytes more xs was.0 reads grown was.1 was.2 in (drop k was.0, now.0, now.1);
      turns = omega (arith, longer into bytes more k reads.this.bound grown, turns.turns);
      size = size;
    }

take-front : (front others : List ℕ) (count : ℕ) → take (length front + count) (front ++ others) ≡ front ++ take count others
take-front [] others count = let e : 0 + count ≡ count = omega arith in rw e refl
take-front (x ∷ front) others count = let e : length (x ∷ front) + count ≡ suc (length front + count) = omega arith in rw e (ap (λ vs. x ∷ vs) (take-front front others count))

take-within : (into others : List ℕ) (count : ℕ) → count ≤ length into → take count (into ++ others) ≡ take count into
take-within into others zero le = refl
take-within [] others (suc count) le = absurd (omega (arith, le))
take-within (x ∷ into) others (suc count) le = ap (λ vs. x ∷ vs) (take-within into others count (omega (arith, le)))

-- Bytes that had room made behind them begin as before.
room-behind : (had room : List ℕ) (n : ℕ) → length had ≤ n → take (length had) (take n had ++ room) ≡ had
room-behind had room n le =
    let e : length had + 0 ≡ length had = omega arith in
    rw (take_all n had le) (subst (λ k. take k (had ++ room) ≡ had) e (take-front had room 0 ∙ append_nil had))

-- A read into the room behind the bytes, of which the part that was not filled is taken away.
pub read-placed : (had now room into back beyond : List ℕ) (filled n count total : ℕ)
    → filled ≡ length had → filled < n → now ≡ take n had ++ room → count ≤ length into → filled + count ≤ total
    → take (filled + count) (take total ((take filled now ++ (into ++ back)) ++ beyond)) ≡ had ++ take count into
read-placed had now room into back beyond filled n count total is lt made fits within =
    let front : take filled now ≡ had = rw (is, made) (room-behind had room n (omega (arith, lt, is))) in
    rw (take-take (filled + count) total ((take filled now ++ (into ++ back)) ++ beyond) within, front, append_assoc had (into ++ back) beyond, append_assoc into back beyond, is)
    (take-front had (into ++ (back ++ beyond)) count ∙ ap (λ vs. had ++ vs) (take-within into (back ++ beyond) count fits))
