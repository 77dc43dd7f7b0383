-- One slot of files in memory, as files are added and as it is read.
use Rattle.std.proofs.Common.{◌≡◌, ℕ, ◌+◌, ◌<◌, List, [], ◌∷◌, ◌++◌, length, drop, Some, slice_get, refl, sym, ap, ◌∙◌}
use Rattle.std.proofs.lemmas.List.{drop-drop}
use Rattle.std.specs.Option.{ForSome}
use Rattle.se_outside.specs.declared.files.Slot.{Slot}
use Rattle.se_outside.specs.declared.files.Slot.TheVariants as slots
use Rattle.se_outside.specs.declared.mem_slot.MemFile.{MemFile}
use Rattle.se_outside.specs.declared.mem_slot.MemSlot.{MemSlot}
use Rattle.se_outside.specs.declared.mem_slot.Place.{Place}
use Rattle.se_outside.specs.declared.mem_slot.Place.TheVariants.{Unasked, NotThere, Refused, Open}
use Rattle.se_outside.specs.declared.mem_files.MemFiles.{MemFiles}
use Rattle.se_outside.specs.MemSlot.{file_index, asked_name, left_of, slot_state, IsPlaced}
use Rattle.se_outside.specs.MemFiles.{mem_state}
use Rattle.se_outside.specs.Outside.{SlotState}
use Rattle.se_outside.proofs.Found.{slice_get-kept}

asked_name-kept : (fs gs : List MemFile) (p : Place) → ForSome (file_index p) (λ i. i < length fs) → asked_name (fs ++ gs) p ≡ asked_name fs p
asked_name-kept fs gs Unasked placed = refl
asked_name-kept fs gs NotThere placed = refl
asked_name-kept fs gs (Refused i) placed = rw (slice_get-kept fs gs i (placed i refl)) refl
asked_name-kept fs gs (Open i at) placed = rw (slice_get-kept fs gs i (placed i refl)) refl

left_of-kept : (fs gs : List MemFile) (p : Place) → ForSome (file_index p) (λ i. i < length fs) → left_of (fs ++ gs) p ≡ left_of fs p
left_of-kept fs gs Unasked placed = refl
left_of-kept fs gs NotThere placed = refl
left_of-kept fs gs (Refused i) placed = refl
left_of-kept fs gs (Open i at) placed = rw (slice_get-kept fs gs i (placed i refl)) refl

slot_state-kept : (fs gs : List MemFile) (s : MemSlot) → IsPlaced fs s → slot_state (fs ++ gs) s ≡ slot_state fs s
slot_state-kept fs gs s placed = rw (asked_name-kept fs gs s.place placed, left_of-kept fs gs s.place placed) refl

-- a file that is added changes no slot
pub mem_state-added : (old : MemFiles) (fs : List MemFile) (f : MemFile) (g : Slot → SlotState) → fs ≡ old.files.items ++ f ∷ [] → g slots.Policy ≡ slot_state fs old.policy → g slots.Map ≡ slot_state fs old.map → g slots.List ≡ slot_state fs old.list → (slot : Slot) → g slot ≡ mem_state old slot
mem_state-added old fs f g e policy map list slots.Policy = policy ∙ rw e (slot_state-kept old.files.items (f ∷ []) old.policy old.policy_placed)
mem_state-added old fs f g e policy map list slots.Map = map ∙ rw e (slot_state-kept old.files.items (f ∷ []) old.map old.map_placed)
mem_state-added old fs f g e policy map list slots.List = list ∙ rw e (slot_state-kept old.files.items (f ∷ []) old.list old.list_placed)

-- what an open slot has left
pub left-open : (fs : List MemFile) (p : Place) (i at : ℕ) (f : MemFile) → p ≡ Open i at → slice_get fs i ≡ Some f → left_of fs p ≡ Some (drop at f.bytes.items)
left-open fs p i at f e there = rw (e, there) refl

-- an open slot's index is that of a file
pub open-placed : (fs : List MemFile) (p : Place) (i at : ℕ) → p ≡ Open i at → ForSome (file_index p) (λ i. i < length fs) → i < length fs
open-placed fs p i at e placed = placed i (ap file_index e)

-- what it has left after k bytes more
pub left-after : (fs : List MemFile) (i at k : ℕ) (f : MemFile) (bytes : List ℕ) → slice_get fs i ≡ Some f → bytes ≡ f.bytes.items → left_of fs (Open i (at + k)) ≡ Some (drop k (drop at bytes))
left-after fs i at k f bytes there e = rw (there, e) (ap Some (sym (drop-drop k at f.bytes.items)))
