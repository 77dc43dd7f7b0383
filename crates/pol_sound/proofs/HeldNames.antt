-- File-name transitions in the other form are read: groups that are made of entries, and entries that are made of groups.
use Rattle.std.proofs.Common.{◌≡◌, ℕ, ◌-◌, ◌<◌, ◌^◌, None, List, ◌++◌, length, refl, sym, subst, append_assoc, arith}
use Rattle.std.specs.Prelude.{map}
use Rattle.std.specs.List.{AllByRecursion}
use Rattle.std.proofs.lemmas.List.{append-nil}
use Rattle.std.proofs.lemmas.List.Elements.{All-from_recursion, All-contains}
use Rattle.pol_fields.specs.declared.Field.{Field}
use Rattle.pol_fields.specs.declared.fields.TheConstants.{NAMETRANS_COUNT, NAMETRANS_LEN, NAMETRANS_NAME, NAMETRANS_SOURCE, NAMETRANS_TARGET, NAMETRANS_CLASS, NAMETRANS_DEFAULT, NAMEGROUP_COUNT, NAMEGROUP_LEN, NAMEGROUP_NAME, NAMEGROUP_TARGET, NAMEGROUP_CLASS, NAMEGROUP_NDATUM, NAMEGROUP_DEFAULT}
use Rattle.pol_cursor.specs.Parts.{number, string, records_at, counted, spell_counted}
use Rattle.pol_cursor.specs.Outcome.{checked}
use Rattle.pol_cursor.specs.Spelling.{bytes_of}
use Rattle.pol_cursor.specs.FileNames.{name_length_test, name_test, name_length_at, name_bytes_at, name_at, spell_name, NameFits}
use Rattle.pol_cursor.proofs.Laws.{Again-number_if}
use Rattle.pol_cursor.proofs.NameLaws.{name_again}
use Rattle.pol_bitmap.specs.declared.Node.{Node}
use Rattle.pol_bitmap.specs.Bitmap.{bitmap_at, spell_bitmap, BitmapFits}
use Rattle.pol_bitmap.specs.Nodes.{bits_of}
use Rattle.pol_bitmap.proofs.BitLists.{bits_rise}
use Rattle.set_nodes.specs.SetNodes.{set_of_values}
use Rattle.set_nodes.proofs.SetBits.{set_of_its_bits}
use Rattle.set_nodes.proofs.RisingValues.{values_set, values_bits}
use Rattle.pol_trans.specs.declared.NameTransRec.{NameTransRec}
use Rattle.pol_trans.specs.declared.NameDatumRec.{NameDatumRec}
use Rattle.pol_trans.specs.declared.NameGroupRec.{NameGroupRec}
use Rattle.pol_trans.specs.NameTransRecord.{name_trans_at, spell_name_trans, NameTransFits}
use Rattle.pol_trans.specs.NameGroupRecord.{name_datum_at, name_group_at, spell_name_datum, spell_name_group, NameDatumFits, NameGroupFits}
use Rattle.pol_convert.specs.Grouped.{CommonPart, datum_of, grouped}
use Rattle.pol_convert.specs.Ungrouped.{ungrouped}
use Rattle.pol_moved.proofs.ListFacts.{all-so, all-map, all-members}
use Rattle.pol_moved.proofs.Granted.{GrantsOf, grants-done, grants-then, grants-as, grants-number, grants-number_if, grants-string_if, grants-records, grants-counted}
use Rattle.pol_moved.proofs.GrantedSets.{AreBits, set-fits, set-granted}
use Rattle.pol_moved.proofs.Stood.{Stood, stood-as, stood-part, stood-checked, stood-whole}
use Rattle.pol_sound.proofs.NameForms.{IsGroupOf, all-grouped, all-ungrouped}

-- ---- names

-- no condition refuses the name
pub record IsGoodName (name : List ℕ) : Type 0 where
  pub fits : NameFits name
  pub long : name_length_test (length name) ≡ None
  pub bytes : name_test name ≡ None

name-granted : (len_field name_field : Field) (name : List ℕ) → IsGoodName name → GrantsOf (name_at len_field name_field) name (spell_name name)
unfolding name_at name_length_at name_bytes_at
name-granted len_field name_field name good =
    grants-as
    (grants-then _ (grants-number_if len_field 4 (length name) _ good.fits good.long)
    (grants-then _ (grants-string_if name_field name _ good.bytes)
    (grants-done name refl)))
    (simp append-nil)

-- so it is with a name that was read
name-good : (len_field name_field : Field) (name : List ℕ) → NameFits name → Stood (name_at len_field name_field) name (spell_name name) → IsGoodName name
unfolding name_at name_length_at name_bytes_at
name-good len_field name_field name fits stood =
    let len = stood-part _ name (Again-number_if len_field 4 (length name) _ fits) stood in
    let text = stood-whole (checked name_field (string name_field (length name)) name_test) (λ name. name) len.others in
    let there = subst (λ (n : List ℕ). Stood (checked name_field (string name_field (length name)) name_test) n name) text.made text.stood in
    record {
      fits = fits;
      long = stood-checked len_field (number len_field 4) name_length_test len.first;
      bytes = stood-checked name_field (string name_field (length name)) name_test there;
    }

-- ---- entries

pub entry-good : (entry : NameTransRec) → NameTransFits entry → Stood name_trans_at entry (spell_name_trans entry) → IsGoodName entry.name
unfolding name_trans_at
entry-good entry fits stood =
    let others = bytes_of 4 entry.source ++ (bytes_of 4 entry.target ++ (bytes_of 4 entry.class ++ bytes_of 4 entry.default)) in
    let there = stood-as {t = spell_name entry.name ++ others} stood (simp append_assoc) in
    let name = stood-part _ others (name_again NAMETRANS_LEN NAMETRANS_NAME entry.name fits.len) there in
    name-good NAMETRANS_LEN NAMETRANS_NAME entry.name fits.len name.first

-- an entry that fits and has such a name
pub record IsGoodEntry (entry : NameTransRec) : Type 0 where
  pub fits : NameTransFits entry
  pub name : IsGoodName entry.name

entry-granted : (entry : NameTransRec) → IsGoodEntry entry → GrantsOf name_trans_at entry (spell_name_trans entry)
unfolding name_trans_at
entry-granted entry good =
    let fits = good.fits in
    grants-as
    (grants-then _ (name-granted NAMETRANS_LEN NAMETRANS_NAME entry.name good.name)
    (grants-then _ (grants-number NAMETRANS_SOURCE 4 entry.source fits.source)
    (grants-then _ (grants-number NAMETRANS_TARGET 4 entry.target fits.target)
    (grants-then _ (grants-number NAMETRANS_CLASS 4 entry.class fits.class)
    (grants-then _ (grants-number NAMETRANS_DEFAULT 4 entry.default fits.default)
    (grants-done entry refl))))))
    (simp (append_assoc, append-nil))

pub entries-granted : (entries : List NameTransRec) → length entries < 2 ^ 32 → AllByRecursion IsGoodEntry entries → GrantsOf (counted NAMETRANS_COUNT (records_at name_trans_at)) entries (spell_counted spell_name_trans entries)
entries-granted entries few good = grants-counted NAMETRANS_COUNT (records_at name_trans_at) spell_name_trans entries few (grants-records name_trans_at spell_name_trans IsGoodEntry entry-granted entries good)

-- ---- groups

pub group-good : (group : NameGroupRec) → NameGroupFits group → Stood name_group_at group (spell_name_group group) → IsGoodName group.name
unfolding name_group_at
group-good group fits stood =
    let others = bytes_of 4 group.target ++ (bytes_of 4 group.class ++ spell_counted spell_name_datum group.datums) in
    let there = stood-as {t = spell_name group.name ++ others} stood (simp append_assoc) in
    let name = stood-part _ others (name_again NAMEGROUP_LEN NAMEGROUP_NAME group.name fits.len) there in
    name-good NAMEGROUP_LEN NAMEGROUP_NAME group.name fits.len name.first

-- a datum that fits and whose sources are read
pub record IsGoodDatum (datum : NameDatumRec) : Type 0 where
  pub fits : NameDatumFits datum
  pub sources : GrantsOf (bitmap_at None) datum.sources (spell_bitmap datum.sources)

pub record IsGoodGroup (group : NameGroupRec) : Type 0 where
  pub fits : NameGroupFits group
  pub name : IsGoodName group.name
  pub datums : AllByRecursion IsGoodDatum group.datums

datum-granted : (datum : NameDatumRec) → IsGoodDatum datum → GrantsOf name_datum_at datum (spell_name_datum datum)
unfolding name_datum_at
datum-granted datum good =
    grants-as
    (grants-then _ good.sources
    (grants-then _ (grants-number NAMEGROUP_DEFAULT 4 datum.default good.fits.default)
    (grants-done datum refl)))
    (simp append-nil)

group-granted : (group : NameGroupRec) → IsGoodGroup group → GrantsOf name_group_at group (spell_name_group group)
unfolding name_group_at
group-granted group good =
    let fits = good.fits in
    let datums = grants-records name_datum_at spell_name_datum IsGoodDatum datum-granted group.datums good.datums in
    grants-as
    (grants-then _ (name-granted NAMEGROUP_LEN NAMEGROUP_NAME group.name good.name)
    (grants-then _ (grants-number NAMEGROUP_TARGET 4 group.target fits.target)
    (grants-then _ (grants-number NAMEGROUP_CLASS 4 group.class fits.class)
    (grants-then _ (grants-counted NAMEGROUP_NDATUM (records_at name_datum_at) spell_name_datum group.datums fits.datums.count datums)
    (grants-done group refl)))))
    (simp (append_assoc, append-nil))

pub groups-granted : (groups : List NameGroupRec) → length groups < 2 ^ 32 → AllByRecursion IsGoodGroup groups → GrantsOf (counted NAMEGROUP_COUNT (records_at name_group_at)) groups (spell_counted spell_name_group groups)
groups-granted groups few good = grants-counted NAMEGROUP_COUNT (records_at name_group_at) spell_name_group groups few (grants-records name_group_at spell_name_group IsGoodGroup group-granted groups good)

-- ---- sets of small numbers

pub record IsReadSet (nodes : List Node) : Type 0 where
  pub fits : BitmapFits nodes
  pub granted : GrantsOf (bitmap_at None) nodes (spell_bitmap nodes)

pub small-set : (values : List ℕ) → AllByRecursion (λ value. value < 65536) values → IsReadSet (set_of_values values)
small-set values small =
    let fits = All-from_recursion (λ (value : ℕ). value < 2 ^ 32) values (all-so values (λ value less. omega (arith, less)) small) in
    let set = set_of_values values in
    let is_set = values_set values fits in
    let below = all-members (λ bit. bit < 65536) (bits_of set) (λ bit there. All-contains (λ (value : ℕ). value < 65536) values bit (All-from_recursion (λ (value : ℕ). value < 65536) values small) ((values_bits values bit fits).0 there)) in
    let are : AreBits 65536 (bits_of set) = record { small = omega arith; rise = bits_rise 0 set is_set.0; below = below } in
    subst IsReadSet (sym (set_of_its_bits set is_set)) (record { fits = set-fits are; granted = set-granted are })

-- ---- groups of entries

-- an entry that is good, whose source is a value that a type can have
pub record MayBeGrouped (entry : NameTransRec) : Type 0 where
  pub good : IsGoodEntry entry
  pub source : entry.source < 65536

-- a name, a target and a class as entries have them
record IsGoodPart (part : CommonPart) : Type 0 where
  name : IsGoodName part.name
  target : part.target < 2 ^ 32
  class : part.class < 2 ^ 32

datum-good : (default : ℕ) (members : List NameTransRec) → default < 2 ^ 32 → AllByRecursion MayBeGrouped members → IsGoodDatum (datum_of default members)
datum-good default members fits may =
    let small = all-map (λ value. value < 65536) (λ entry. entry.source - 1) members (all-so members (λ entry h. omega (arith, h.source)) may) in
    let set = small-set (map (λ entry. entry.source - 1) members) small in
    record { fits = record { sources = set.fits; default = fits }; sources = set.granted }

group-made : (most : ℕ) (group : NameGroupRec) → most < 2 ^ 32 → IsGroupOf IsGoodPart IsGoodDatum most group → IsGoodGroup group
group-made most group few h = record {
  fits = record {
    len = h.part.name.fits;
    target = h.part.target;
    class = h.part.class;
    datums = record { count = omega (arith, few, h.few); items = all-so group.datums (λ datum h. h.fits) h.datums };
  };
  name = h.part.name;
  datums = h.datums;
}

pub grouped-good : (entries : List NameTransRec) → length entries < 2 ^ 32 → AllByRecursion MayBeGrouped entries → AllByRecursion IsGoodGroup (grouped entries)
grouped-good entries few may =
    let made = all-grouped MayBeGrouped IsGoodPart (λ default. default < 2 ^ 32) IsGoodDatum (λ entry h. record { name = h.good.name; target = h.good.fits.target; class = h.good.fits.class }) (λ entry h. h.good.fits.default) datum-good entries may in
    all-so (grouped entries) (λ group h. group-made (length entries) group few h) made

-- ---- entries of groups

-- a group that fits and has such a name
pub record MayBeSplit (group : NameGroupRec) : Type 0 where
  pub fits : NameGroupFits group
  pub name : IsGoodName group.name

pub ungrouped-good : (declared : List Node) (groups : List NameGroupRec) → AllByRecursion (λ source. source < 2 ^ 32) (bits_of declared) → AllByRecursion MayBeSplit groups → AllByRecursion IsGoodEntry (ungrouped declared groups)
ungrouped-good declared groups small may =
    all-ungrouped (λ source. source < 2 ^ 32) IsGoodEntry declared groups small
    (all-so groups (λ group h.
    all-so group.datums (λ datum datum-fits source less. record {
      fits = record { len = h.fits.len; source = less; target = h.fits.target; class = h.fits.class; default = datum-fits.default };
      name = h.name;
    }) h.fits.datums.items)
    may)
