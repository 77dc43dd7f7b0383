-- The file-name transitions of a policy that has them in groups, one by one, as versions below 33 have them (libsepol's
-- filename_trans_read and filename_trans_write).
use Rattle.std.specs.Prelude.{ℕ, Bool, ◌+◌, ◌==◌, List, length, map}
use Rattle.std.specs.List.{filter, flat_map, list_any}
use Rattle.pol_bitmap.specs.declared.node.Node.{Node}
use Rattle.pol_bitmap.specs.Nodes.{bits_of}
use Rattle.pol_trans.specs.declared.name_trans_rec.NameTransRec.{NameTransRec}
use Rattle.pol_trans.specs.declared.name_datum_rec.NameDatumRec.{NameDatumRec}
use Rattle.pol_trans.specs.NameTransRecord.{spell_name_trans}
use Rattle.pol_trans.specs.declared.name_group_rec.NameGroupRec.{NameGroupRec}

-- a value is one of the sources of a datum: the bit below it stands for it
abbrev pub is_source : List Node → ℕ → Bool
is_source sources value = list_any (λ bit. bit + 1 == value) (bits_of sources)

-- the sources of a datum that are among the declared values, rising
abbrev pub declared_sources : List Node → List Node → List ℕ
declared_sources declared sources = filter (is_source sources) (bits_of declared)

-- the entry of a source
abbrev pub entry_of : NameGroupRec → ℕ → ℕ → NameTransRec
entry_of group default source = record { name = group.name; source = source; target = group.target; class = group.class; default = default }

-- the entries of a datum, one for each of its declared sources
abbrev pub datum_entries : List Node → NameGroupRec → NameDatumRec → List NameTransRec
datum_entries declared group datum = map (entry_of group datum.default) (declared_sources declared datum.sources)

-- the entries of a group, datum by datum
abbrev pub group_entries : List Node → NameGroupRec → List NameTransRec
group_entries declared group = flat_map (datum_entries declared group) group.datums

-- the entries of groups, group by group
abbrev pub ungrouped : List Node → List NameGroupRec → List NameTransRec
ungrouped declared groups = flat_map (group_entries declared) groups

-- how many bytes entries take in a file
abbrev pub entries_length : List NameTransRec → ℕ
entries_length entries = length (flat_map spell_name_trans entries)
