-- The lines of a listing.
use Rattle.std.proofs.Common.{◌≡◌, ◌∙◌, ◌<◌, ◌++◌, ◌∷◌, [], ℕ, suc, List, length, Ok, Bool, codes, sym, ap, refl, append_assoc, arith}
use Rattle.std.specs.List.{flat_map}
use Rattle.info_lines.specs.Inner.Lines.{PushesLine}
use Rattle.se_items.specs.Pieces.{AddsPiece}
use Rattle.se_info.specs.Inner.ListedLines.{PushesNext}
use Rattle.se_info.specs.ListingText.{front_text, indent_of, line_text, listing_text}

-- The next line stands in the buffer as in a listing.
pub pushes-next : (indent : List ℕ) (old new : List (List ℕ)) (had first second has : List ℕ) (u : Unit {0})
    → 0 < length old → first ≡ had ++ indent → PushesLine old new first second (Ok u) → has ≡ second ++ codes "\n" → PushesNext indent old new had has
unfolding line_text
pushes-next indent [] new had first second has u some before pushes after = absurd (omega (arith, some))
pushes-next indent (line ∷ lines) new had first second has u some before pushes after = record {
  line = line;
  lines = ap (λ others. line ∷ others) (sym pushes.0);
  text = rw (after, pushes.1, before) (ap (λ vs. vs ++ codes "\n") (append_assoc had indent line) ∙ append_assoc had (indent ++ line) (codes "\n"));
}

-- It is a piece of the text of all lines.
pub line-added : (indent : List ℕ) (old new : List (List ℕ)) (had has : List ℕ) → PushesNext indent old new had has
    → AddsPiece (record { text = flat_map (line_text indent) old; pieces = length old }) (record { text = flat_map (line_text indent) new; pieces = length new }) had has
line-added indent old new had has pushes =
    let long : length old ≡ suc (length new) = ap length pushes.lines in
    record {
      piece = line_text indent pushes.line;
      left = ap (flat_map (line_text indent)) pushes.lines;
      added = pushes.text;
      nearer = omega (arith, long);
    }

-- Of no lines no text is left.
pub no-lines : (indent : List ℕ) (lines : List (List ℕ)) (count : ℕ) → count ≡ length lines → count ≡ 0 → flat_map (line_text indent) lines ≡ []
no-lines indent [] count is none = refl
no-lines indent (line ∷ lines) count is none = absurd (omega (arith, is, none))

-- A buffer that held nothing has what stands before the lines, and they make a listing with it.
pub listing-is : (flat : Bool) (title : List ℕ) (lines : List (List ℕ)) (count : ℕ) (held put indent : List ℕ)
    → held ≡ [] → count ≡ length lines → put ≡ held ++ front_text flat title count → indent ≡ indent_of flat
    → put ++ flat_map (line_text indent) lines ≡ listing_text flat title lines
listing-is flat title lines count held put indent empty counted is indented = rw (is, empty, counted, indented) refl
