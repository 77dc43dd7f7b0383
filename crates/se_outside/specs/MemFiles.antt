-- What files in memory stand for.
use Rattle.std.specs.Prelude.{◌≡◌, ℕ, List, Some, if◌then◌else◌, bytes_eq, Option}
use Rattle.se_outside.specs.declared.files.Slot.{Slot}
use Rattle.se_outside.specs.declared.files.Slot.TheVariants as slots
use Rattle.se_outside.specs.declared.mem_files.MemFiles.{MemFiles}
use Rattle.se_outside.specs.MemSlot.{held, slot_state}
use Rattle.se_outside.specs.Outside.{SlotState, World}
use Rattle.se_outside.specs.Plan.{Orders, orders}

abbrev pub mem_state : MemFiles → Slot → SlotState
mem_state m slots.Policy = slot_state m.files.items m.policy
mem_state m slots.Map = slot_state m.files.items m.map
mem_state m slots.List = slot_state m.files.items m.list

-- what a name holds, the same for each slot
abbrev pub mem_held : MemFiles → List ℕ → Option (List ℕ)
mem_held m = held m.files.items

abbrev pub mem_world : MemFiles → World
mem_world m = Some (λ slot name. held m.files.items name)

-- what the files were told
abbrev pub mem_orders : MemFiles → Orders
mem_orders m = orders m.plan

-- this name holds these bytes now, and each other name what it held
abbrev pub Adds : (List ℕ → Option (List ℕ)) → (List ℕ → Option (List ℕ)) → List ℕ → List ℕ → Type 0
Adds old new name bytes = (other : List ℕ) → new other ≡ (if bytes_eq name other then Some bytes else old other)
