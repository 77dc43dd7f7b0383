-- The lines of a listing that are left.
use Rattle.std.specs.Prelude.{◌≡◌, ℕ, List, ◌∷◌, ◌++◌, flat_map, length}
use Rattle.se_items.specs.Pieces.{Left}
use Rattle.se_info.specs.ListingText.{line_text}
use Rattle.se_info.specs.declared.listing_text.ListedLines.{ListedLines}

-- their text, each after its indent
abbrev pub text_left : {L : Type 0} → (L → List (List ℕ)) → ListedLines L → Left
text_left left listed = record { text = flat_map (line_text listed.indent.now) (left listed.lines); pieces = length (left listed.lines) }

-- The next of the lines that were left was added to a buffer, as it stands in a listing.
pub record PushesNext (indent : List ℕ) (old new : List (List ℕ)) (had has : List ℕ) : Type 0 where
  pub line : List ℕ
  pub lines : old ≡ line ∷ new
  pub text : has ≡ had ++ line_text indent line
