-- The file-name transitions of a policy that has them one by one, in groups, as versions from 33 on have them (libsepol's
-- filename_trans_read and filename_trans_write).
use Rattle.std.specs.Prelude.{ℕ, Bool, not, ◌-◌, ◌&&◌, ◌==◌, List, [], ◌∷◌, map}
use Rattle.std.specs.Str.{bytes_eq}
use Rattle.std.specs.List.{filter}
use Rattle.set_nodes.specs.SetNodes.{set_of_values}
use Rattle.pol_trans.specs.declared.name_trans_rec.NameTransRec.{NameTransRec}
use Rattle.pol_trans.specs.declared.name_datum_rec.NameDatumRec.{NameDatumRec}
use Rattle.pol_trans.specs.declared.name_group_rec.NameGroupRec.{NameGroupRec}

-- each element once, where it is first met
abbrev pub firsts : {K : Type 0} → (K → K → Bool) → List K → List K
firsts same [] = []
firsts same (k ∷ ks) = k ∷ filter (λ other. not (same k other)) (firsts same ks)

-- what the transitions of a group have in common
pub record CommonPart : Type 0 where
  pub name : List ℕ
  pub target : ℕ
  pub class : ℕ

abbrev pub same_part : CommonPart → CommonPart → Bool
same_part a b = bytes_eq a.name b.name && (a.target == b.target) && (a.class == b.class)

abbrev pub part_of_entry : NameTransRec → CommonPart
part_of_entry entry = record { name = entry.name; target = entry.target; class = entry.class }

-- the datum of entries that have a default: bit v - 1 stands for the source v
abbrev pub datum_of : ℕ → List NameTransRec → NameDatumRec
datum_of default entries = record { sources = set_of_values (map (λ entry. entry.source - 1) entries); default = default }

-- a datum for each default of entries, in the order in which the defaults are first met
unfoldable pub data_of : List NameTransRec → List NameDatumRec
data_of entries = map (λ default. datum_of default (filter (λ entry. default == entry.default) entries)) (firsts ◌==◌ (map (λ entry. entry.default) entries))

-- the group of entries that have a name, a target and a class
abbrev pub group_of : CommonPart → List NameTransRec → NameGroupRec
group_of part entries = record { name = part.name; target = part.target; class = part.class; datums = data_of entries }

-- a group for each name, target and class of entries, in the order in which they are first met
unfoldable pub grouped : List NameTransRec → List NameGroupRec
grouped entries = map (λ part. group_of part (filter (λ entry. same_part part (part_of_entry entry)) entries)) (firsts same_part (map part_of_entry entries))
