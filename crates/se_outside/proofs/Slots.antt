-- A slot that is not the one is one of the others.
use Rattle.std.proofs.Common.{◌≡◌, ◌≢◌, ◌∙◌, Bool, false, refl}
use Rattle.se_outside.specs.declared.files.Slot.{Slot}
use Rattle.se_outside.specs.declared.files.Slot.TheVariants as slots
use Rattle.se_outside.specs.Outside.{SlotState, NoneAsked}

pub not-policy : (f g : Slot → SlotState) → f slots.Map ≡ g slots.Map → f slots.List ≡ g slots.List → (s : Slot) → s ≢ slots.Policy → f s ≡ g s
not-policy f g map list slots.Policy ne = absurd (ne refl)
not-policy f g map list slots.Map ne = map
not-policy f g map list slots.List ne = list

pub not-map : (f g : Slot → SlotState) → f slots.Policy ≡ g slots.Policy → f slots.List ≡ g slots.List → (s : Slot) → s ≢ slots.Map → f s ≡ g s
not-map f g policy list slots.Policy ne = policy
not-map f g policy list slots.Map ne = absurd (ne refl)
not-map f g policy list slots.List ne = list

pub not-list : (f g : Slot → SlotState) → f slots.Policy ≡ g slots.Policy → f slots.Map ≡ g slots.Map → (s : Slot) → s ≢ slots.List → f s ≡ g s
not-list f g policy map slots.Policy ne = policy
not-list f g policy map slots.Map ne = map
not-list f g policy map slots.List ne = absurd (ne refl)

-- where all slots are asked as before, none is asked if none was
pub none-asked : (old : Slot → SlotState) (asked : Slot → Bool) → asked slots.Policy ≡ (old slots.Policy).asked → asked slots.Map ≡ (old slots.Map).asked → asked slots.List ≡ (old slots.List).asked → NoneAsked old → (slot : Slot) → asked slot ≡ false
none-asked old asked policy map list none slots.Policy = policy ∙ none slots.Policy
none-asked old asked policy map list none slots.Map = map ∙ none slots.Map
none-asked old asked policy map list none slots.List = list ∙ none slots.List
