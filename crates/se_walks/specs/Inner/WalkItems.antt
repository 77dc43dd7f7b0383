-- The walks that are left, and their text.
use Rattle.std.specs.Prelude.{◌+◌, ℕ, List, [], drop, length, take, if◌then◌else◌}
use Rattle.std.specs.List.{concat}
use Rattle.se_items.specs.Pieces.{Left}
use Rattle.se_walks.specs.Inner.Placed.{all_walks}
use Rattle.se_walks.specs.Numbered.{numbered}
use Rattle.se_walks.specs.WalkTexts.{EdgeWords, walk_item}
use Rattle.se_walks.specs.declared.walk_items.WalkItems.{WalkItems}

-- the walks from the one on that is next, if there is one, up to the end
abbrev pub walks_left : {T : Type 0} → (T → EdgeWords) → WalkItems T → List (List ℕ)
walks_left words items =
    if items.more then numbered (walk_item (words items.texts.now)) (items.number + 1) (drop items.number (take items.end (all_walks items.walks))) else []

abbrev pub text_left : {T : Type 0} → (T → EdgeWords) → WalkItems T → Left
text_left words items = record { text = concat (walks_left words items); pieces = length (walks_left words items) }
