-- The records of numbers, one number after the other.
use Rattle.std.proofs.Common.{◌≡◌, ℕ, ◌+◌, ◌<◌, ◌++◌, ◌∷◌, [], List, Some, length, take, slice_get, get_or, refl}
use Rattle.pol_cursor.specs.References.{Placed}
use Rattle.info_classes.specs.RecordOrder.{records_at}
use Rattle.info_classes.proofs.ListedRecords.{records_more}

pub record_more : {A : Type 0} (records : List (Placed A)) (numbers : List ℕ) (i d : ℕ) (x : Placed A) → i < length numbers → slice_get records (get_or numbers i d) ≡ Some x
    → records_at records (take i numbers) ++ x ∷ [] ≡ records_at records (take (i + 1) numbers)
record_more records numbers i d x lt e = rw (records_more records numbers i d lt) (rw e refl)
