-- Files and a sink that never fail.
use Rattle.std.specs.Prelude.{ℕ, List, None, Some}
use Rattle.se_outside.specs.declared.files.Slot.{Slot}
use Rattle.se_outside.specs.declared.files.Slot.TheVariants as slots
use Rattle.se_outside.specs.declared.sure.SureSlot.{SureSlot}
use Rattle.se_outside.specs.declared.sure.SureFiles.{SureFiles}
use Rattle.se_outside.specs.declared.sure.SureSink.{SureSink}
use Rattle.se_outside.specs.Outside.{SinkState, SlotState, Untold, World}

abbrev pub sure_slot : SureSlot → SlotState
sure_slot s = record { asked = s.asked; is_open = s.asked; name = Untold; left = Some s.rest.now; faults = 0; turns = s.turns }

abbrev pub sure_state : SureFiles → Slot → SlotState
sure_state f slots.Policy = sure_slot f.policy
sure_state f slots.Map = sure_slot f.map
sure_state f slots.List = sure_slot f.list

-- one of three contents, by the slot
abbrev pub by_slot : List ℕ → List ℕ → List ℕ → Slot → List ℕ
by_slot policy map list slots.Policy = policy
by_slot policy map list slots.Map = map
by_slot policy map list slots.List = list

-- every name holds the slot's content
abbrev pub holding : List ℕ → List ℕ → List ℕ → World
holding policy map list = Some (λ slot name. Some (by_slot policy map list slot))

abbrev pub sure_world : SureFiles → World
sure_world f = holding f.policy.bytes.now f.map.bytes.now f.list.bytes.now

-- no byte, and no fault
abbrev pub sure_sink : SinkState
sure_sink = record { written = None; faults = 0 }

-- how many bytes a sink took
abbrev pub sure_count : SureSink → ℕ
sure_count s = s.count
