-- How bytes are cut into lines.
use Rattle.std.proofs.Common.{◌≡◌, ℕ, zero, suc, ◌+◌, ◌-◌, ◌<◌, ◌≤◌, List, [], ◌∷◌, length, get_or, take, drop, Bool, true, false, cond, eqb, Some, None, refl, ap, sym, ◌∙◌, arith, add-one}
use Rattle.std.specs.List.{onto_first, position}
use Rattle.std.proofs.lemmas.List.Quantifiers.{position-Some}
use Rattle.text_rows.proofs.Places.{none_before, rest_of}
use Rattle.text_rows.specs.TextLines.{fields_of, is_empty, lines_of, rows_from}

-- up to the first line feed is a line
pub lines_cut : (bytes : List ℕ) (end : ℕ) → end < length bytes → eqb (get_or bytes end 0) 10 ≡ true → ((k : ℕ) → k < end → eqb (get_or bytes k 0) 10 ≡ false) → lines_of bytes ≡ take end bytes ∷ lines_of (drop (suc end) bytes)
lines_cut [] end lt here before = absurd (omega arith)
lines_cut (b ∷ bs) zero lt here before = rw here refl
lines_cut (b ∷ bs) (suc end) lt here before =
    let first : eqb b 10 ≡ false = before 0 (omega arith) in
    let rest = lines_cut bs end (omega arith) here (λ k h. before (suc k) (omega arith)) in
    rw first (ap (onto_first b) rest)

-- bytes without a line feed are one line
pub lines_whole : (b : ℕ) (bs : List ℕ) → ((k : ℕ) → k < length (b ∷ bs) → eqb (get_or (b ∷ bs) k 0) 10 ≡ false) → lines_of (b ∷ bs) ≡ (b ∷ bs) ∷ []
lines_whole b [] none =
    let first : eqb b 10 ≡ false = none 0 (omega arith) in
    rw first refl
lines_whole b (c ∷ cs) none =
    let first : eqb b 10 ≡ false = none 0 (omega arith) in
    let rest = lines_whole c cs (λ k h. none (suc k) (omega arith)) in
    rw first (ap (onto_first b) rest)

pub length_lines : (bytes : List ℕ) → length (lines_of bytes) ≤ length bytes
length_lines [] = omega arith
length_lines (b ∷ bs) = by (eqb b 10) (length_lines bs)
  where
    onto : (lines : List (List ℕ)) → length lines ≤ length bs → length (onto_first b lines) ≤ suc (length bs)
    onto [] h = omega arith
    onto (line ∷ lines) h = omega arith

    by : (test : Bool) → length (lines_of bs) ≤ length bs → length (cond test ([] ∷ lines_of bs) (onto_first b (lines_of bs))) ≤ suc (length bs)
    by true h = omega arith
    by false h = onto (lines_of bs) h

-- ---- by the place of the first line feed

pub line_cut : (bytes : List ℕ) (end : ℕ) → Some end ≡ position (λ byte. eqb byte 10) bytes → lines_of bytes ≡ take end bytes ∷ lines_of (take (length bytes - (end + 1)) (drop (end + 1) bytes))
line_cut bytes end is =
    let found = position-Some (λ byte. eqb byte 10) bytes end 0 (sym is) in
    lines_cut bytes end found.0 found.1 found.2 ∙ ap (λ (n : ℕ). take end bytes ∷ lines_of (drop n bytes)) (sym (add-one end)) ∙ ap (λ (rest : List ℕ). take end bytes ∷ lines_of rest) (sym (rest_of bytes (end + 1)))

pub line_whole : (bytes : List ℕ) → eqb (length bytes) 0 ≡ false → None ≡ position (λ byte. eqb byte 10) bytes → lines_of bytes ≡ bytes ∷ []
line_whole [] some is = absurd (cc)
line_whole (b ∷ bs) some is = lines_whole b bs (none_before (λ byte. eqb byte 10) (b ∷ bs) is)

-- ---- rows

-- a line without fields is none of the rows
pub row_skipped : (number : ℕ) (bytes line after : List ℕ) → lines_of bytes ≡ line ∷ lines_of after → is_empty (fields_of line) ≡ true → rows_from number (lines_of bytes) ≡ rows_from (number + 1) (lines_of after)
row_skipped number bytes line after is empty = ap (rows_from number) is ∙ skipped
  where
    skipped : rows_from number (line ∷ lines_of after) ≡ rows_from (number + 1) (lines_of after)
    skipped = rw empty refl

-- a line with fields is the first of them
pub row_found : (number : ℕ) (bytes line after : List ℕ) → lines_of bytes ≡ line ∷ lines_of after → is_empty (fields_of line) ≡ false → rows_from number (lines_of bytes) ≡ record { number = number; fields = fields_of line } ∷ rows_from (number + 1) (lines_of after)
row_found number bytes line after is some = ap (rows_from number) is ∙ first
  where
    first : rows_from number (line ∷ lines_of after) ≡ record { number = number; fields = fields_of line } ∷ rows_from (number + 1) (lines_of after)
    first = rw some refl
