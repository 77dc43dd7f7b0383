-- The parts of a text between its commas.
use Rattle.std.proofs.Common.{◌≡◌, ◌≤◌, ◌+◌, ◌++◌, ◌∷◌, [], ℕ, List, length, take, drop, Bool, true, false, Option, Some, None, nat_lt, if◌then◌else◌, refl, sym, ◌∙◌, arith}
use Rattle.std.specs.List.{position_from, position_or_len}
use Rattle.std.proofs.lemmas.Iterator.Adapters.{position_from-zero}
use Rattle.std.proofs.lemmas.List.Sums.{fails_before_first}
use Rattle.std.proofs.lemmas.List.Splits.{slice_split_first, slice_split_none}
use Rattle.rule_criteria.specs.Elements.{elements_of, is_comma}

-- What the search for a comma finds.
abbrev pub Finds : List ℕ → Option ℕ → Type 0
Finds text None = elements_of text ≡ text ∷ []
Finds text (Some index) = elements_of text ≡ take index text ∷ elements_of (drop (index + 1) text)

finds : (text : List ℕ) (b : Bool) → nat_lt (position_or_len is_comma text) (length text) ≡ b → Finds text (if b then Some (position_or_len is_comma text) else None)
finds text true e = slice_split_first is_comma text 0 (grind (arith, e))
finds text false e =
    let le : length text ≤ position_or_len is_comma text = grind (arith, e) in
    slice_split_none is_comma text (λ k d lt. fails_before_first is_comma text k d (omega (arith, le, lt)))

pub found : (text : List ℕ) (index : Option ℕ) → index ≡ position_from is_comma 0 text → Finds text index
found text index is = rw (is ∙ sym (position_from-zero is_comma text)) (finds text _ refl)

-- The elements so far and those that are left are all elements.
abbrev pub Left : List ℕ → List (List ℕ) → List ℕ → Type 0
Left text so_far rest = so_far ++ elements_of rest ≡ elements_of text
