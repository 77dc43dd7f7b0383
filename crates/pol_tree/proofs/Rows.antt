-- The rows of the type map of a policy, one after the other.
use Rattle.std.proofs.Common.{◌≡◌, ℕ, ◌+◌, ◌-◌, ◌≤◌, Ok, List, [], ◌∷◌, ◌++◌, length, take, ap, ◌∙◌, arith}
use Rattle.std.specs.Prelude.{Some, slice_get, option_map}
use Rattle.std.proofs.lemmas.List.{take_more, take_all, length-map}
use Rattle.std.proofs.lemmas.Option.{slice_get-map, slice_get_within, get_or_from_slice_get}
use Rattle.pol_cursor.specs.References.{Placed, values_of}
use Rattle.pol_file.specs.declared.Parts.{Parts}
use Rattle.pol_file.specs.Acceptance.{accept}
use Rattle.pol_file.proofs.Acceptances.{accepted_has_type_values}

-- the row of the type value behind those before
pub row_next : {A : Type 0} (rows : List (Placed A)) (i : ℕ) (row : A) → option_map (λ (r : Placed A). r.value) (slice_get rows (i + 1 - 1)) ≡ Some row → take (i + 1) (values_of rows) ≡ take i (values_of rows) ++ row ∷ []
row_next {A} rows i row e =
    let same : i + 1 - 1 ≡ i = omega arith in
    let there : slice_get (values_of rows) i ≡ Some row = slice_get-map (λ (r : Placed A). r.value) rows i ∙ (rw same at e) in
    take_more (values_of rows) i row (slice_get_within (values_of rows) i row there) ∙ ap (λ (x : A). take i (values_of rows) ++ x ∷ []) (get_or_from_slice_get (values_of rows) i row row there)

count_rows : {A : Type 0} (rows : List (Placed A)) → length (values_of rows) ≡ length rows
count_rows rows = simp length-map

-- a policy that was accepted has no more of them than type values
pub rows_all : (bytes : List ℕ) (policy : Parts) (n : ℕ) → accept bytes ≡ Ok policy → policy.symbols.types.nprim ≤ n → take n (values_of policy.labels.type_rows) ≡ values_of policy.labels.type_rows
rows_all bytes policy n accepted le =
    let has = accepted_has_type_values bytes policy accepted in
    let count = count_rows policy.labels.type_rows in
    take_all n (values_of policy.labels.type_rows) (omega (arith, has.rows, count))
