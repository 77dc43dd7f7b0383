use Rattle.std.proofs.Common.{◌≡◌, length}
use Rattle.std.specs.List.{All}
use Rattle.pol_file.specs.declared.Parts.{Parts}
use Rattle.rule_listing.specs.Inner.KeptTexts.{IsKept}
use Rattle.rule_listing.proofs.kept_texts.empty_slots.Given as goal

-- so many slots that keep nothing
abbrev pub invariant-slots : goal.invariant-slots
invariant-slots l = (length l.slots.items ≡ l._number) × ((policy : Parts) → All (IsKept policy) l.slots.items)
