-- The text of a listing: an empty line, the title with the count of the lines, and each line after three spaces, as seinfo
-- of SETools prints them. A flat listing is the lines alone.
use Rattle.std.specs.Prelude.{ℕ, List, [], ◌++◌, length, flat_map, decimal, codes, Bool, true, false}

-- what stands before a line, in a flat listing nothing
abbrev pub indent_of : Bool → List ℕ
indent_of true = []
indent_of false = codes "   "

-- one line of a listing after its indent
unfoldable pub line_text : List ℕ → List ℕ → List ℕ
line_text indent line = indent ++ line ++ codes "\n"

-- what stands before the lines
unfoldable pub heading_text : List ℕ → ℕ → List ℕ
heading_text title count = codes "\n" ++ title ++ codes ": " ++ decimal count ++ codes "\n"

-- the heading, and nothing in a flat listing
abbrev pub front_text : Bool → List ℕ → ℕ → List ℕ
front_text true title count = []
front_text false title count = heading_text title count

-- a listing of these lines, flat or under a title
abbrev pub listing_text : Bool → List ℕ → List (List ℕ) → List ℕ
listing_text flat title lines = front_text flat title (length lines) ++ flat_map (line_text (indent_of flat)) lines
