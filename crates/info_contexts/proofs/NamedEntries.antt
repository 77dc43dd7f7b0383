-- The numbers of the entries that a name asks for, and their lines.
use Rattle.std.proofs.Common.{◌≡◌, ℕ, zero, suc, ◌+◌, Bool, true, false, cond, Option, Some, List, [], ◌∷◌, ◌++◌, map, length, slice_get, get_or, refl, sym, arith}
use Rattle.std.specs.List.{All, filter, range_with_len}
use Rattle.std.proofs.lemmas.List.{length-map}
use Rattle.std.proofs.lemmas.List.Elements.{All-filter}
use Rattle.info_lines.specs.Inner.Listings.{HasLine, line_of}
use Rattle.info_lines.proofs.FileOrder.{all_there}
use Rattle.pol_cursor.proofs.Ranges.{filter_range_one}
use Rattle.info_lines.proofs.ListingLines.{line_at}
use Rattle.info_contexts.specs.NamedEntries.{is_asked, of_name, numbers_of_name}

-- one number is asked for, or is not
pub asked_more : (asks : ℕ → Bool) (a n : ℕ) → filter asks (range_with_len a (n + 1)) ≡ filter asks (range_with_len a n) ++ cond (asks (a + n)) ((a + n) ∷ []) []
asked_more asks a n = filter_range_one asks a n (a + n) refl

-- ---- their lines

line_more : {A : Type 0} (line : A → List ℕ) (get : ℕ → List ℕ) (number : ℕ) (entry : A) (numbers : List ℕ) (entries : List A) (b c : Bool)
    → b ≡ c → get number ≡ line entry → map get numbers ≡ map line entries → map get (cond b (number ∷ numbers) numbers) ≡ map line (cond c (entry ∷ entries) entries)
line_more line get number entry numbers entries true true same here others = rw (here, others) refl
line_more line get number entry numbers entries false false same here others = others
line_more line get number entry numbers entries true false same here others = cc
line_more line get number entry numbers entries false true same here others = cc

record Agree {A : Type 0} (asks : ℕ → Bool) (get : ℕ → List ℕ) (asked : A → Bool) (line : A → List ℕ) (number : ℕ) (entry : A) : Type 0 where
  is_asked : asks number ≡ asked entry
  is_line : get number ≡ line entry

lines_from : {A : Type 0} (asks : ℕ → Bool) (get : ℕ → List ℕ) (asked : A → Bool) (line : A → List ℕ) (a : ℕ) (entries : List A)
    → ((number i : ℕ) (entry : A) → number ≡ a + i → slice_get entries i ≡ Some entry → Agree asks get asked line number entry)
    → map get (filter asks (range_with_len a (length entries))) ≡ map line (filter asked entries)
lines_from asks get asked line a [] each = refl
lines_from asks get asked line a (entry ∷ entries) each =
    let here = each a zero entry (omega arith) refl in
    line_more line get a entry (filter asks (range_with_len (a + 1) (length entries))) (filter asked entries) (asks a) (asked entry) here.is_asked here.is_line
    (lines_from asks get asked line (a + 1) entries (λ number i x e at. each number (suc i) x (omega (arith, e)) at))

pub chosen_lines : {A : Type 0} (line : A → List ℕ) (name_of : A → List ℕ) (name : Option (List ℕ)) (entries : List A) (numbers : List ℕ)
    → numbers ≡ numbers_of_name name (map name_of entries) → map (line_of (map line entries)) numbers ≡ map line (of_name name_of name entries)
unfolding numbers_of_name
chosen_lines line name_of name entries numbers are =
    rw (are, length-map entries name_of)
    (lines_from (λ number. is_asked name (get_or (map name_of entries) number [])) (line_of (map line entries)) (λ entry. is_asked name (name_of entry)) line 0 entries
    (λ number i entry e at. let here : number ≡ i = omega (arith, e) in
    rw here (record { is_asked = rw (line_at name_of entries i entry at) refl; is_line = line_at line entries i entry at })))

-- and each has one
pub chosen_there : {A : Type 0} (line : A → List ℕ) (name_of : A → List ℕ) (name : Option (List ℕ)) (entries : List A) (numbers : List ℕ)
    → numbers ≡ numbers_of_name name (map name_of entries) → All (HasLine (map line entries)) numbers
unfolding numbers_of_name
chosen_there line name_of name entries numbers are =
    rw (are, length-map entries name_of)
    (All-filter (λ number. is_asked name (get_or (map name_of entries) number [])) (HasLine (map line entries)) (range_with_len 0 (length entries)) (all_there (map line entries) (length entries) (sym (length-map entries line))))
