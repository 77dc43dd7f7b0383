-- A file that is read whole.
use Rattle.std.specs.Prelude.{◌≡◌, ◌≢◌, ◌≤◌, ◌<◌, ◌+◌, ◌++◌, ℕ, List, length, take, true, Some, None, Result, Ok, Err, MatchResult, IfOk, IsErrOf, Vec}
use Rattle.std.specs.Global.{Global}
use Rattle.se_outside.specs.Outside.{Reads, Rose, SlotState, World, told, IsAsked}
use Rattle.se_outside.specs.declared.Failed.{Failed}
use Rattle.se_outside.specs.declared.Slot.{Slot}
use Rattle.se_tools.specs.declared.reading.ReadEnd.{ReadEnd}
use Rattle.se_tools.specs.declared.reading.ReadEnd.TheVariants.{Fault, TooLarge, Memory}

-- A turn added what was read to the bytes.
abbrev pub ReadsOn : (Slot → SlotState) → (Slot → SlotState) → Slot → List ℕ → List ℕ → Result ℕ ReadEnd → Type 0
ReadsOn old new slot had has (Ok count) = (into : List ℕ) × Reads {E = Failed} old new slot into (Ok count) × (has ≡ had ++ take count into)
ReadsOn old new slot had has (Err Fault) = (into : List ℕ) × (failed : Failed) × Reads old new slot into (Err failed)
ReadsOn old new slot had has (Err TooLarge) = ⊥
ReadsOn old new slot had has (Err Memory) = new ≡ old

-- The slot was asked under the name alone and read in bounded turns, and no other slot was touched. Fault comes only where
-- the slot's count rose. Where the name's content is told, the result is that content, and TooLarge comes only where it is
-- longer than the limit. Where the name is told not to be there, the result is Fault.
pub record ReadsWhole (world : World) (old new : Slot → SlotState) (slot : Slot) (name : List ℕ) (limit : ℕ) (result : Result (Vec ℕ Global) ReadEnd) : Type 0 where
  pub others : (s : Slot) → s ≢ slot → new s ≡ old s
  pub asked : (new slot).asked ≡ true
  pub named : IsAsked (told world slot name) (new slot).name name
  pub turns : (new slot).turns ≤ (old slot).turns + limit + 2
  pub later : (old slot).faults ≤ (new slot).faults
  pub fault : IsErrOf result Fault → Rose (old slot).faults (new slot).faults
  pub within : IfOk result (λ v. length v.items ≤ limit)
  pub content : (bytes : List ℕ) → told world slot name ≡ Some (Some bytes)
      → MatchResult result (λ v. v.items ≡ bytes) (λ e. e ≡ TooLarge → limit < length bytes)
  pub absent : told world slot name ≡ Some None → result ≡ Err Fault
