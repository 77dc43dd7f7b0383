-- How a text is cut into pieces and fields.
use Rattle.std.proofs.Common.{◌≡◌, ℕ, zero, suc, ◌-◌, ◌<◌, ◌≤◌, List, [], ◌∷◌, length, get_or, take, drop, Bool, true, false, cond, not, Some, None, refl, sym, ap, ◌∙◌, arith}
use Rattle.std.proofs.Math.Seq.{drop-cons, drop-length}
use Rattle.std.proofs.lemmas.List.Quantifiers.{position-Some}
use Rattle.std.specs.List.{filter, onto_first, position, slice_split, take_while}
use Rattle.std.proofs.lemmas.List.Sums.{take_while-cons}
use Rattle.text_rows.proofs.Places.{none_before, not_false, not_true, rest_of}
use Rattle.text_rows.specs.TextLines.{begins_comment, fields_in, is_empty, parts_fields, pieces_of}

-- what parts fields is skipped
pub pieces_skip : (text : List ℕ) (start : ℕ) → start ≤ length text → ((k : ℕ) → k < start → parts_fields (get_or text k 0) ≡ true) → pieces_of text ≡ pieces_of (drop start text)
pieces_skip text zero le before = refl
pieces_skip [] (suc start) le before = absurd (omega arith)
pieces_skip (b ∷ bs) (suc start) le before =
    let first : parts_fields b ≡ true = before 0 (omega arith) in
    rw first (pieces_skip bs start (omega arith) (λ k h. before (suc k) (omega arith)))

-- up to the first byte that parts is a piece
split_cut : (text : List ℕ) (end : ℕ) → end < length text → parts_fields (get_or text end 0) ≡ true → ((k : ℕ) → k < end → parts_fields (get_or text k 0) ≡ false) → slice_split parts_fields text ≡ take end text ∷ slice_split parts_fields (drop (suc end) text)
split_cut [] end lt here before = absurd (omega arith)
split_cut (b ∷ bs) zero lt here before = rw here refl
split_cut (b ∷ bs) (suc end) lt here before =
    let first : parts_fields b ≡ false = before 0 (omega arith) in
    let rest = split_cut bs end (omega arith) here (λ k h. before (suc k) (omega arith)) in
    rw first (ap (onto_first b) rest)

split_whole : (text : List ℕ) → ((k : ℕ) → k < length text → parts_fields (get_or text k 0) ≡ false) → slice_split parts_fields text ≡ text ∷ []
split_whole [] none = refl
split_whole (b ∷ bs) none =
    let first : parts_fields b ≡ false = none 0 (omega arith) in
    let rest = split_whole bs (λ k h. none (suc k) (omega arith)) in
    rw first (ap (onto_first b) rest)

abbrev some_pieces : List (List ℕ) → List (List ℕ)
some_pieces pieces = filter (λ piece. not (is_empty piece)) pieces

-- a byte that parts, in front
pieces_after : (text : List ℕ) (end : ℕ) → end < length text → parts_fields (get_or text end 0) ≡ true → pieces_of (drop end text) ≡ pieces_of (drop (suc end) text)
pieces_after text end lt here = ap pieces_of (drop-cons text end 0 lt) ∙ skipped (get_or text end 0) (drop (suc end) text) here
  where
    skipped : (b : ℕ) (bs : List ℕ) → parts_fields b ≡ true → pieces_of (b ∷ bs) ≡ pieces_of bs
    skipped b bs h = rw h refl

-- a text that begins with a piece, up to the byte that ends it
pub pieces_cut : (text : List ℕ) (end : ℕ) → parts_fields (get_or text 0 0) ≡ false → end < length text → parts_fields (get_or text end 0) ≡ true → ((k : ℕ) → k < end → parts_fields (get_or text k 0) ≡ false) → pieces_of text ≡ take end text ∷ pieces_of (drop end text)
pieces_cut [] end begins lt here before = absurd (omega arith)
pieces_cut (b ∷ bs) zero begins lt here before = absurd (cc (begins, here))
pieces_cut (b ∷ bs) (suc end) begins lt here before =
    ap some_pieces (split_cut (b ∷ bs) (suc end) lt here before) ∙ ap (λ (rest : List (List ℕ)). (b ∷ take end bs) ∷ rest) (sym (pieces_after (b ∷ bs) (suc end) lt here))

-- a text that is one piece
pub pieces_whole : (text : List ℕ) → 0 < length text → ((k : ℕ) → k < length text → parts_fields (get_or text k 0) ≡ false) → pieces_of text ≡ text ∷ []
pieces_whole [] some none = absurd (omega arith)
pieces_whole (b ∷ bs) some none = ap some_pieces (split_whole (b ∷ bs) none)

-- a piece that begins no comment is a field
pub field_first : (text piece rest : List ℕ) → pieces_of text ≡ piece ∷ pieces_of rest → begins_comment piece ≡ false → fields_in text ≡ piece ∷ fields_in rest
unfolding fields_in
field_first text piece rest is plain =
    let p : List ℕ → Bool = λ field. not (begins_comment field) in
    ap (take_while p) is ∙ take_while-cons p piece (pieces_of rest) ∙ ap (λ (b : Bool). cond (not b) (piece ∷ take_while p (pieces_of rest)) []) plain

-- one that does ends the fields
pub comment_first : (text piece : List ℕ) (rest : List (List ℕ)) → pieces_of text ≡ piece ∷ rest → begins_comment piece ≡ true → fields_in text ≡ []
unfolding fields_in
comment_first text piece rest is comment =
    let p : List ℕ → Bool = λ field. not (begins_comment field) in
    ap (take_while p) is ∙ take_while-cons p piece rest ∙ ap (λ (b : Bool). cond (not b) (piece ∷ take_while p rest) []) comment

pub no_fields : (text : List ℕ) → pieces_of text ≡ [] → fields_in text ≡ []
unfolding fields_in
no_fields text none = ap (take_while (λ (field : List ℕ). not (begins_comment field))) none

-- ---- by the places where a piece begins and ends

pub piece_cut : (text : List ℕ) (end : ℕ) → parts_fields (get_or text 0 0) ≡ false → Some end ≡ position parts_fields text → pieces_of text ≡ take end text ∷ pieces_of (take (length text - end) (drop end text))
piece_cut text end begins is =
    let found = position-Some parts_fields text end 0 (sym is) in
    pieces_cut text end begins found.0 found.1 found.2 ∙ ap (λ (rest : List ℕ). take end text ∷ pieces_of rest) (sym (rest_of text end))

pub piece_whole : (text : List ℕ) → 0 < length text → None ≡ position parts_fields text → pieces_of text ≡ text ∷ []
piece_whole text some is = pieces_whole text some (none_before parts_fields text is)

abbrev begins_piece : ℕ → Bool
begins_piece byte = not (parts_fields byte)

pub begins_at : (text : List ℕ) (start : ℕ) → Some start ≡ position (λ byte. not (parts_fields byte)) text → parts_fields (get_or (take (length text - start) (drop start text)) 0 0) ≡ false
begins_at text start is =
    let found = position-Some begins_piece text start 0 (sym is) in
    ap (λ (rest : List ℕ). parts_fields (get_or rest 0 0)) (rest_of text start ∙ drop-cons text start 0 found.0) ∙ not_true (parts_fields (get_or text start 0)) found.1

pub pieces_from : (text : List ℕ) (start : ℕ) → Some start ≡ position (λ byte. not (parts_fields byte)) text → pieces_of text ≡ pieces_of (take (length text - start) (drop start text))
pieces_from text start is =
    let found = position-Some begins_piece text start 0 (sym is) in
    let within : start < length text = found.0 in
    pieces_skip text start (omega arith) (λ k h. not_false (parts_fields (get_or text k 0)) (found.2 k h)) ∙ ap pieces_of (sym (rest_of text start))

pub no_piece : (text : List ℕ) → None ≡ position (λ byte. not (parts_fields byte)) text → pieces_of text ≡ []
no_piece text is =
    pieces_skip text (length text) (omega arith) (λ k h. not_false (parts_fields (get_or text k 0)) (none_before begins_piece text is k h)) ∙ ap pieces_of (drop-length text)
