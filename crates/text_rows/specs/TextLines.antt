-- The lines of a text and their fields, as SETools' permission map is written. 10 is a line feed, 9 a tab, 32 a space and 35 a number
-- sign.
use Rattle.std.specs.Prelude.{ℕ, ◌+◌, Bool, true, false, ◌==◌, ◌||◌, ◌&&◌, nat_le, not, List, [], ◌∷◌, if◌then◌else◌}
use Rattle.std.specs.List.{filter, list_all, onto_first, slice_split, take_while}
use Rattle.std.specs.Str.Lines.{strip_carriage_return}

-- the lines of some bytes: each ends at a line feed, which may be left out after the last
abbrev pub lines_of : List ℕ → List (List ℕ)
lines_of [] = []
lines_of (byte ∷ bytes) = if byte == 10 then [] ∷ lines_of bytes else onto_first byte (lines_of bytes)

abbrev pub parts_fields : ℕ → Bool
parts_fields byte = (byte == 32) || (byte == 9)

abbrev pub is_empty : {A : Type 0} → List A → Bool
is_empty [] = true
is_empty (x ∷ xs) = false

-- what stands between the spaces and tabs of a text
abbrev pub pieces_of : List ℕ → List (List ℕ)
pieces_of text = filter (λ piece. not (is_empty piece)) (slice_split parts_fields text)

abbrev pub begins_comment : List ℕ → Bool
begins_comment [] = false
begins_comment (byte ∷ bytes) = byte == 35

-- the fields of a text: its pieces before a comment
unfoldable pub fields_in : List ℕ → List (List ℕ)
fields_in text = take_while (λ piece. not (begins_comment piece)) (pieces_of text)

-- the fields of a line, which a carriage return at its end is no part of
abbrev pub fields_of : List ℕ → List (List ℕ)
fields_of line = fields_in (strip_carriage_return line)

-- a line that has fields, with its number
pub record Row : Type 0 where
  pub number : ℕ
  pub fields : List (List ℕ)

-- the rows of some lines, where they have fields; the first of the lines has that number
abbrev pub rows_from : ℕ → List (List ℕ) → List Row
rows_from number [] = []
rows_from number (line ∷ lines) =
    if is_empty (fields_of line) then rows_from (number + 1) lines else record { number = number; fields = fields_of line } ∷ rows_from (number + 1) lines

-- what is left of a text: the lines with fields, and the number of the line past the last
pub record Rest : Type 0 where
  pub rows : List Row
  pub past : ℕ

-- a word has printable bytes and no space
abbrev pub is_word : List ℕ → Bool
is_word text = list_all (λ byte. nat_le 0x21 byte && nat_le byte 0x7E) text
