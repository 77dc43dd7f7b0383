-- Where the paths of a file system stand, by their lengths.
use Rattle.std.proofs.Common.{◌≡◌, ℕ, ◌+◌, List, length, arith}
use Rattle.pol_cursor.specs.References.{values_of}
use Rattle.pol_cursor.specs.NestedRecords.{nested_in, HasNested, placed_from}
use Rattle.pol_cursor.specs.FileNames.{name_in, name_end}
use Rattle.pol_cursor.specs.Parts.{num}
use Rattle.pol_cursor.proofs.PlacedNested.{nested_placed_by}
use Rattle.pol_cursor.proofs.Facts.{length_part}
use Rattle.pol_mls.proofs.ContextPlaces.{context_ends}
use Rattle.pol_genfs.specs.GenfsRecord.{path_in, path_length, genfs_path_end, HasPath}

path_reaches : (bytes : List ℕ) (place : ℕ) → HasPath bytes place → place + path_length (path_in bytes place) ≡ genfs_path_end bytes place
path_reaches bytes place h =
    let ends = context_ends bytes (name_end bytes place + 4) h in
    let named : length (name_in bytes place) ≡ num bytes place 4 = length_part bytes (place + 4) (num bytes place 4) (omega (arith, h.1.0)) in
    omega (arith, ends.0, named)

pub paths_placed : (bytes : List ℕ) (place n : ℕ) → HasNested HasPath genfs_path_end bytes place n
    → nested_in path_in genfs_path_end bytes place n ≡ placed_from path_length place (values_of (nested_in path_in genfs_path_end bytes place n))
paths_placed bytes place n h = nested_placed_by path_in HasPath genfs_path_end path_length bytes (path_reaches bytes) place n h
