-- What an object of files or a sink stands for, and what one call does to it. The counts are those of
-- a u64 that stands still at its last value, 2^64-1.
use Rattle.std.specs.Prelude.{◌≡◌, ◌≢◌, ◌+◌, ◌-◌, ◌^◌, ◌≤◌, ℕ, Bool, true, false, List, [], length, take, drop, min, ⊤}
use Rattle.std.specs.declared.option.Option.{Option}
use Rattle.std.specs.declared.result.Result.{Result}
use Rattle.std.specs.Prelude.{None, Some, OnOk, OnErr, IfOk, IfSome, IsSome}
use Rattle.std.specs.Io.KnownBytes.{WriteAppends}
use Rattle.se_outside.specs.declared.files.Slot.{Slot}

-- A count of faults rose, or stands at the counter's last value.
abbrev pub Rose : ℕ → ℕ → Type 0
Rose before now = min (before + 1) (2 ^ 64 - 1) ≤ now

-- A count went up by one, or stands at the counter's last value.
abbrev pub Counts : ℕ → ℕ → Type 0
Counts before now = now ≡ min (before + 1) (2 ^ 64 - 1)

-- What an object tells of the name for which a slot was asked: nothing, the name, or that it is a
-- name that is not there.
pub data Asked : Type 0 where
  Untold : Asked
  Named : List ℕ → Asked
  Missing : Asked

-- One slot of a files object: whether it was asked, whether it is open, the name asked, the bytes
-- left where the object tells them, a count of faults, and a count of the reads asked of it.
pub record SlotState : Type 0 where
  pub asked : Bool
  pub is_open : Bool
  pub name : Asked
  pub left : Option (List ℕ)
  pub faults : ℕ
  pub turns : ℕ

-- A slot that was asked for nothing.
abbrev pub unasked : SlotState
unasked = record { asked = false; is_open = false; name = Untold; left = None; faults = 0; turns = 0 }

-- No slot was asked yet.
abbrev pub NoneAsked : (Slot → SlotState) → Type 0
NoneAsked state = (slot : Slot) → (state slot).asked ≡ false

-- What each name holds for each slot, where the object tells that.
abbrev pub World : Type 0
World = Option (Slot → List ℕ → Option (List ℕ))

-- what a name holds, where told
abbrev pub told : World → Slot → List ℕ → Option (Option (List ℕ))
told None slot name = None
told (Some held) slot name = Some (held slot name)

-- the name asked is this one, or was not there, where the object tells it
abbrev pub IsAsked : Option (Option (List ℕ)) → Asked → List ℕ → Type 0
IsAsked held Untold name = ⊤
IsAsked held (Named n) name = n ≡ name
IsAsked held Missing name = held ≡ Some None

-- What `open` does to the slot, whose name is known to hold that.
pub record OpensOne {T E : Type 0} (held : Option (Option (List ℕ))) (old new : SlotState) (name : List ℕ) (result : Result T E) : Type 0 where
  pub asked : new.asked ≡ true
  pub named : IsAsked held new.name name
  pub turns : new.turns ≡ old.turns
  pub later : old.faults ≤ new.faults
  pub failed : OnErr result (Rose old.faults new.faults)
  pub opened : OnOk result (new.is_open ≡ true)
  pub content : OnOk result (IfSome held (λ bytes. IsSome bytes × (new.left ≡ bytes)))

-- What `open` does.
pub record Opens {T E : Type 0} (world : World) (old new : Slot → SlotState) (slot : Slot) (name : List ℕ) (result : Result T E) : Type 0 where
  pub this : OpensOne (told world slot name) (old slot) (new slot) name result
  pub others : (s : Slot) → s ≢ slot → new s ≡ old s

-- What `read` does to the slot with the room whose content is then `into`.
pub record ReadsOne {E : Type 0} (old new : SlotState) (into : List ℕ) (result : Result ℕ E) : Type 0 where
  pub asked : new.asked ≡ old.asked
  pub named : new.name ≡ old.name
  pub turned : Counts old.turns new.turns
  pub later : old.faults ≤ new.faults
  pub failed : OnErr result (Rose old.faults new.faults)
  pub still : OnOk result (new.is_open ≡ true)
  pub bound : IfOk result (λ k. k ≤ length into)
  pub bytes : IfOk result (λ k. IfSome old.left (λ xs.
      (new.left ≡ Some (drop k xs)) × (take k into ≡ take k xs) × (k ≤ length xs) × (k ≡ 0 → xs ≡ [])))

-- What `read` does.
pub record Reads {E : Type 0} (old new : Slot → SlotState) (slot : Slot) (into : List ℕ) (result : Result ℕ E) : Type 0 where
  pub this : ReadsOne (old slot) (new slot) into result
  pub others : (s : Slot) → s ≢ slot → new s ≡ old s

-- A sink: the bytes that it holds, where it tells them, and a count of faults.
pub record SinkState : Type 0 where
  pub written : Option (List ℕ)
  pub faults : ℕ

-- What a `write` of the piece does.
pub record Writes {E : Type 0} (old new : SinkState) (piece : List ℕ) (result : Result ℕ E) : Type 0 where
  pub later : old.faults ≤ new.faults
  pub failed : OnErr result (Rose old.faults new.faults)
  pub some : IfOk result (λ k. (1 ≤ k) × (k ≤ length piece))
  pub bytes : WriteAppends old.written new.written result piece
