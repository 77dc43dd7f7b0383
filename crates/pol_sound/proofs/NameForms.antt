-- What is so of each file-name transition in its other form: of groups that are made of entries, and of entries that are made of groups.
use Rattle.std.proofs.Common.{ℕ, ◌≤◌, Bool, List, [], ◌∷◌, length, arith}
use Rattle.std.specs.Prelude.{◌==◌, map, not}
use Rattle.std.specs.List.{filter, AllByRecursion}
use Rattle.std.proofs.lemmas.List.{length-map}
use Rattle.pol_bitmap.specs.declared.Node.{Node}
use Rattle.pol_bitmap.specs.Nodes.{bits_of}
use Rattle.pol_trans.specs.declared.NameTransRec.{NameTransRec}
use Rattle.pol_trans.specs.declared.NameDatumRec.{NameDatumRec}
use Rattle.pol_trans.specs.declared.NameGroupRec.{NameGroupRec}
use Rattle.pol_convert.specs.Grouped.{CommonPart, same_part, part_of_entry, firsts, datum_of, data_of, group_of, grouped}
use Rattle.pol_convert.specs.Ungrouped.{is_source, declared_sources, entry_of, datum_entries, group_entries, ungrouped}
use Rattle.pol_moved.proofs.ListFacts.{all-so, all-map, all-flat_map, all-filter, length-filter-most}

-- ---- each element once

all-firsts : {K : Type 0} (P : K → Type 0) (same : K → K → Bool) (ks : List K) → AllByRecursion P ks → AllByRecursion P (firsts same ks)
all-firsts P same [] h = tt
all-firsts P same (k ∷ ks) h = (h.0, all-filter P (λ other. not (same k other)) (firsts same ks) (all-firsts P same ks h.1))

length-firsts : {K : Type 0} (same : K → K → Bool) (ks : List K) → length (firsts same ks) ≤ length ks
length-firsts same [] = omega arith
length-firsts same (k ∷ ks) = omega (arith, length-firsts same ks, length-filter-most (λ other. not (same k other)) (firsts same ks))

-- ---- groups of entries

length-data : (entries : List NameTransRec) → length (data_of entries) ≤ length entries
unfolding data_of
length-data entries =
    let defaults = map (λ entry. entry.default) entries in
    omega (arith, length-map (firsts ◌==◌ defaults) (λ default. datum_of default (filter (λ entry. default == entry.default) entries)), length-firsts ◌==◌ defaults, length-map entries (λ entry. entry.default))

pub length-grouped : (entries : List NameTransRec) → length (grouped entries) ≤ length entries
unfolding grouped
length-grouped entries =
    let parts = map part_of_entry entries in
    omega (arith, length-map (firsts same_part parts) (λ part. group_of part (filter (λ entry. same_part part (part_of_entry entry)) entries)), length-firsts same_part parts, length-map entries part_of_entry)

abbrev pub part_of_group : NameGroupRec → CommonPart
part_of_group group = record { name = group.name; target = group.target; class = group.class }

-- what is so of a group: of its name, target and class, and of each of its data, which are no more than so many
pub record IsGroupOf (P : CommonPart → Type 0) (Q : NameDatumRec → Type 0) (most : ℕ) (group : NameGroupRec) : Type 0 where
  pub part : P (part_of_group group)
  pub datums : AllByRecursion Q group.datums
  pub few : length group.datums ≤ most

-- It is so where it is so of the name, target and class of each entry, and of the datum of each default and any of the entries.
module _ (E : NameTransRec → Type 0) (P : CommonPart → Type 0) (D : ℕ → Type 0) (Q : NameDatumRec → Type 0) (parts : (entry : NameTransRec) → E entry → P (part_of_entry entry)) (defaults : (entry : NameTransRec) → E entry → D entry.default)
    (datums : (default : ℕ) (members : List NameTransRec) → D default → AllByRecursion E members → Q (datum_of default members)) where
  all-data : (entries : List NameTransRec) → AllByRecursion E entries → AllByRecursion Q (data_of entries)
  unfolding data_of
  all-data entries each =
      let keys = map (λ entry. entry.default) entries in
      let made = all-firsts D ◌==◌ keys (all-map D (λ entry. entry.default) entries (all-so entries defaults each)) in
      all-map Q (λ default. datum_of default (filter (λ entry. default == entry.default) entries)) (firsts ◌==◌ keys)
      (all-so (firsts ◌==◌ keys) (λ default h. datums default (filter (λ entry. default == entry.default) entries) h (all-filter E (λ entry. default == entry.default) entries each)) made)

  pub all-grouped : (entries : List NameTransRec) → AllByRecursion E entries → AllByRecursion (IsGroupOf P Q (length entries)) (grouped entries)
  unfolding grouped
  all-grouped entries each =
      let keys = map part_of_entry entries in
      let members : CommonPart → List NameTransRec = λ part. filter (λ entry. same_part part (part_of_entry entry)) entries in
      let made = all-firsts P same_part keys (all-map P part_of_entry entries (all-so entries parts each)) in
      all-map (IsGroupOf P Q (length entries)) (λ part. group_of part (members part)) (firsts same_part keys)
      (all-so (firsts same_part keys) (λ part h. record {
        part = h;
        datums = all-data (members part) (all-filter E (λ entry. same_part part (part_of_entry entry)) entries each);
        few = omega (arith, length-data (members part), length-filter-most (λ entry. same_part part (part_of_entry entry)) entries);
      }) made)

-- ---- entries of groups

-- It is so where it is so of the entry of each datum and each source that is declared.
pub all-ungrouped : (S : ℕ → Type 0) (E : NameTransRec → Type 0) (declared : List Node) (groups : List NameGroupRec) → AllByRecursion S (bits_of declared)
    → AllByRecursion (λ group. AllByRecursion (λ datum. (source : ℕ) → S source → E (entry_of group datum.default source)) group.datums) groups → AllByRecursion E (ungrouped declared groups)
all-ungrouped S E declared groups sources each =
    all-flat_map E (group_entries declared) groups
    (all-so groups (λ group group-so.
    all-flat_map E (datum_entries declared group) group.datums
    (all-so group.datums (λ datum datum-so.
    all-map E (entry_of group datum.default) (declared_sources declared datum.sources)
    (all-so (declared_sources declared datum.sources) datum-so (all-filter S (is_source datum.sources) (bits_of declared) sources)))
    group-so))
    each)
