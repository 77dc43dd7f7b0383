-- The records of numbers, one number after the other.
use Rattle.std.proofs.Common.{◌≡◌, ℕ, ◌+◌, ◌<◌, ◌++◌, ◌∷◌, [], List, Some, length, take, slice_get, get_or, refl, ap, ◌∙◌}
use Rattle.std.specs.Prelude.{Bool}
use Rattle.std.specs.List.{filter, flat_map}
use Rattle.std.proofs.lemmas.List.{take_more}
use Rattle.std.proofs.lemmas.List.Concat.{flat_map-append}
use Rattle.std.proofs.lemmas.List.Elements.{filter-append, filter_map-append}
use Rattle.pol_cursor.specs.References.{Placed}
use Rattle.info_classes.specs.RecordOrder.{records_at}

-- ---- one number more

pub records_more : {A : Type 0} (records : List (Placed A)) (numbers : List ℕ) (i d : ℕ) → i < length numbers
    → records_at records (take (i + 1) numbers) ≡ records_at records (take i numbers) ++ records_at records (get_or numbers i d ∷ [])
records_more records numbers i d lt = ap (records_at records) (take_more numbers i d lt) ∙ filter_map-append (slice_get records) (take i numbers) (get_or numbers i d ∷ [])

-- what records give
pub pieces_more : {A B : Type 0} (f : Placed A → List B) (records : List (Placed A)) (numbers : List ℕ) (i d : ℕ) → i < length numbers
    → flat_map f (records_at records (take i numbers)) ++ flat_map f (records_at records (get_or numbers i d ∷ [])) ≡ flat_map f (records_at records (take (i + 1) numbers))
pieces_more f records numbers i d lt = rw (records_more records numbers i d lt, flat_map-append f (records_at records (take i numbers)) (records_at records (get_or numbers i d ∷ []))) refl

-- the records that pass a test
pub passing_more : {A : Type 0} (p : Placed A → Bool) (records : List (Placed A)) (numbers : List ℕ) (i d : ℕ) (x : Placed A) → i < length numbers → slice_get records (get_or numbers i d) ≡ Some x
    → filter p (records_at records (take i numbers)) ++ filter p (x ∷ []) ≡ filter p (records_at records (take (i + 1) numbers))
passing_more p records numbers i d x lt e = rw (records_more records numbers i d lt, filter-append p (records_at records (take i numbers)) (records_at records (get_or numbers i d ∷ []))) (rw e refl)
