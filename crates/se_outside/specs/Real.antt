-- What is known of the system's files and of a writer: no content, and no name.
use Rattle.std.specs.Prelude.{ℕ, List, Option, None, is_some, option_and_then}
use Rattle.se_outside.specs.declared.files.Slot.{Slot}
use Rattle.se_outside.specs.declared.files.Slot.TheVariants as slots
use Rattle.se_outside.specs.declared.real.RealSlot.{RealSlot}
use Rattle.se_outside.specs.declared.real.RealFiles.{RealFiles}
use Rattle.se_outside.specs.declared.real.RealSink.{RealSink}
use Rattle.se_outside.specs.Outside.{SinkState, SlotState, Untold}

abbrev pub real_slot : {F : Type 0} → RealSlot F → SlotState
real_slot s = record { asked = s.asked; is_open = is_some s.file; name = Untold; left = None; faults = s.faults; turns = s.turns }

abbrev pub real_state : {R F D : Type 0} → RealFiles R F D → Slot → SlotState
real_state m slots.Policy = real_slot m.policy
real_state m slots.Map = real_slot m.map
real_state m slots.List = real_slot m.list

-- what is left of the slot's file, where the file tells it
abbrev pub slot_left : {F : Type 0} → (F → Option (List ℕ)) → RealSlot F → Option (List ℕ)
slot_left remaining s = option_and_then remaining s.file

abbrev pub real_left : {R F D : Type 0} → (F → Option (List ℕ)) → RealFiles R F D → Slot → Option (List ℕ)
real_left remaining m slots.Policy = slot_left remaining m.policy
real_left remaining m slots.Map = slot_left remaining m.map
real_left remaining m slots.List = slot_left remaining m.list

-- no byte, and how many writes failed
abbrev pub real_sink : {W : Type 0} → RealSink W → SinkState
real_sink s = record { written = None; faults = s.faults }

abbrev pub real_writer : {W : Type 0} → RealSink W → W
real_writer s = s.writer
