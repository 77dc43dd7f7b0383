-- The data of a group, by their lengths.
use Rattle.std.proofs.Common.{◌≡◌, ℕ, ◌+◌, List, arith}
use Rattle.pol_cursor.specs.Parts.{num}
use Rattle.pol_cursor.specs.References.{values_of}
use Rattle.pol_cursor.specs.NestedRecords.{nested_in, HasNested, placed_from}
use Rattle.pol_cursor.proofs.PlacedNested.{nested_placed_by}
use Rattle.pol_bitmap.proofs.NodePlaces.{length_nodes_in}
use Rattle.pol_trans.specs.NameGroupRecord.{name_datum_in, name_datum_length, name_datum_end, HasNameDatum}

pub data_placed : (bytes : List ℕ) (place n : ℕ) → HasNested HasNameDatum name_datum_end bytes place n
    → nested_in name_datum_in name_datum_end bytes place n ≡ placed_from name_datum_length place (values_of (nested_in name_datum_in name_datum_end bytes place n))
data_placed bytes place n h =
    nested_placed_by name_datum_in HasNameDatum name_datum_end name_datum_length bytes (λ p _. omega (arith, length_nodes_in bytes (p + 12) (num bytes (p + 8) 4))) place n h
