-- The file-name transitions of a policy that is accepted are read at another version, in the form that this one has.
use Rattle.std.proofs.Common.{◌≡◌, ℕ, ◌+◌, ◌<◌, ◌≤◌, ◌^◌, Bool, true, false, List, [], ◌∷◌, length, refl, sym, if◌then◌else◌, arith}
use Rattle.std.specs.Prelude.{is_some}
use Rattle.std.specs.List.{flat_map, AllByRecursion}
use Rattle.std.proofs.lemmas.List.{append-nil, length-append}
use Rattle.pol_fields.specs.declared.fields.TheConstants.{NAMETRANS_COUNT, NAMEGROUP_COUNT}
use Rattle.pol_fields.specs.declared.TableKind.TheVariants.{Types}
use Rattle.pol_cursor.specs.Outcome.{Reader, done}
use Rattle.pol_cursor.specs.Parts.{records_at, counted, spell_counted, CountedFits}
use Rattle.pol_cursor.specs.References.{placed, values_of, Named}
use Rattle.pol_cursor.proofs.Numbers.{length-bytes_of}
use Rattle.pol_datums.specs.declared.TypeRec.{TypeRec}
use Rattle.pol_trans.specs.declared.NameTransRec.{NameTransRec}
use Rattle.pol_trans.specs.declared.NameGroupRec.{NameGroupRec}
use Rattle.pol_trans.specs.declared.NameTrans.{NameTrans}
use Rattle.pol_trans.specs.declared.NameTrans.TheVariants.{Entries, Groups}
use Rattle.pol_trans.specs.NameTransRecord.{name_trans_at, spell_name_trans, NameTransFits}
use Rattle.pol_trans.specs.NameGroupRecord.{name_group_at, spell_name_group, NameGroupFits}
use Rattle.pol_trans.specs.NameTransitions.{entries_at, groups_at}
use Rattle.pol_trans.proofs.TransLaws.{name_trans_again, name_group_again}
use Rattle.pol_convert.specs.Grouped.{grouped}
use Rattle.pol_convert.specs.Ungrouped.{ungrouped}
use Rattle.pol_tree.specs.PolicyTree.{entries_of, groups_of}
use Rattle.pol_write.proofs.PartLaws.{nametrans-laws, namegroup-laws}
use Rattle.pol_versions.specs.Conversion.{values_of_types}
use Rattle.pol_moved.proofs.ListFacts.{all-so}
use Rattle.pol_moved.proofs.Granted.{Grants, grants-part, grants-done, grants-as}
use Rattle.pol_moved.proofs.MovesRules.{moves-name_trans, moves-name_group}
use Rattle.pol_moved.proofs.Stood.{Stood, stood-last}
use Rattle.pol_sound.proofs.HeldNames.{entry-good, entries-granted, group-good, groups-granted, MayBeGrouped, grouped-good, MayBeSplit, ungrouped-good}
use Rattle.pol_sound.proofs.NameForms.{length-grouped}
use Rattle.pol_moved.proofs.Stood.{stood-found}
use Rattle.pol_sound.proofs.Kept.{list-kept, list-granted, list-stood}
use Rattle.pol_sound.proofs.KeptReferences.{NamedType, NamedEntry, NamedGroup, grouped-named, ungrouped-named, all-values}

-- ---- in one of the two forms

-- what is read of them, and how they are spelled
abbrev names_at : Bool → Reader NameTrans
names_at grouped = if grouped then groups_at else entries_at

abbrev names_text : Bool → List NameTransRec → List NameGroupRec → List ℕ
names_text grouped entries groups = if grouped then spell_counted spell_name_group groups else spell_counted spell_name_trans entries

-- the list of the other form is empty
pub record IsOneForm (grouped : Bool) (es : List NameTransRec) (gs : List NameGroupRec) : Type 0 where
  pub entries : grouped ≡ true → es ≡ []
  pub groups : grouped ≡ false → gs ≡ []

pub record AreTrans (es : List NameTransRec) (gs : List NameGroupRec) (trans : NameTrans) : Type 0 where
  pub entries : entries_of trans ≡ es
  pub groups : groups_of trans ≡ gs

-- they fit, and refer to what is declared
pub record AreGoodNames (named : Named) (es : List NameTransRec) (gs : List NameGroupRec) : Type 0 where
  pub entries_fit : CountedFits NameTransFits es
  pub groups_fit : CountedFits NameGroupFits gs
  pub entries_named : AllByRecursion (NamedEntry named) es
  pub groups_named : AllByRecursion (NamedGroup named) gs

-- they were read
pub record WereNames (named : Named) (was : Bool) (es : List NameTransRec) (gs : List NameGroupRec) : Type 0 where
  pub form : IsOneForm was es gs
  pub good : AreGoodNames named es gs
  pub trans : NameTrans
  pub stood : Stood (names_at was) trans (names_text was es gs)

-- they are read
pub record AreNames (named : Named) (is : Bool) (es : List NameTransRec) (gs : List NameGroupRec) : Type 0 where
  pub form : IsOneForm is es gs
  pub good : AreGoodNames named es gs
  pub granted : Grants (names_at is) (AreTrans es gs) (names_text is es gs)

entries-read : (entries : List NameTransRec) (groups : List NameGroupRec) → groups ≡ [] → Grants (counted NAMETRANS_COUNT (records_at (placed name_trans_at))) (λ records. values_of records ≡ entries) (spell_counted spell_name_trans entries)
    → Grants entries_at (AreTrans entries groups) (spell_counted spell_name_trans entries)
entries-read entries groups none granted = grants-as (grants-part _ granted λ records are. grants-done (Entries records) (record { entries = are; groups = sym none })) (append-nil (spell_counted spell_name_trans entries))

groups-read : (entries : List NameTransRec) (groups : List NameGroupRec) → entries ≡ [] → Grants (counted NAMEGROUP_COUNT (records_at (placed name_group_at))) (λ records. values_of records ≡ groups) (spell_counted spell_name_group groups)
    → Grants groups_at (AreTrans entries groups) (spell_counted spell_name_group groups)
groups-read entries groups none granted = grants-as (grants-part _ granted λ records are. grants-done (Groups records) (record { entries = sym none; groups = are })) (append-nil (spell_counted spell_name_group groups))

-- ---- in the same form

entries-kept : (named : Named) (es : List NameTransRec) (gs : List NameGroupRec) → WereNames named false es gs → AreNames named false es gs
entries-kept named es gs were =
    let fits = were.good.entries_fit in
    let list = stood-found (λ entries. done (Entries entries)) [] (nametrans-laws.again es fits) (stood-last were.stood) in
    record {
      form = were.form;
      good = were.good;
      granted = entries-read es gs (were.form.groups refl) (list-kept NAMETRANS_COUNT name_trans_at spell_name_trans NameTransFits name_trans_again moves-name_trans es fits list.value list.is list.first);
    }

groups-kept : (named : Named) (es : List NameTransRec) (gs : List NameGroupRec) → WereNames named true es gs → AreNames named true es gs
groups-kept named es gs were =
    let fits = were.good.groups_fit in
    let list = stood-found (λ groups. done (Groups groups)) [] (namegroup-laws.again gs fits) (stood-last were.stood) in
    record {
      form = were.form;
      good = were.good;
      granted = groups-read es gs (were.form.entries refl) (list-kept NAMEGROUP_COUNT name_group_at spell_name_group NameGroupFits name_group_again moves-name_group gs fits list.value list.is list.first);
    }

-- ---- in the other form

both-so : {A : Type 0} (P Q R : A → Type 0) (xs : List A) → ((x : A) → P x → Q x → R x) → AllByRecursion P xs → AllByRecursion Q xs → AllByRecursion R xs
both-so P Q R [] so h k = tt
both-so P Q R (x ∷ xs) so h k = (so x h.0 k.0, both-so P Q R xs so h.1 k.1)

-- groups of the entries that were read
with-groups : (named : Named) → ((value : ℕ) → is_some (named Types value) ≡ true → value < 65536) → (es : List NameTransRec) (gs : List NameGroupRec) → WereNames named false es gs → AreNames named true [] (grouped es)
with-groups named small es gs were =
    let fits = were.good.entries_fit in
    let list = stood-found (λ entries. done (Entries entries)) [] (nametrans-laws.again es fits) (stood-last were.stood) in
    let each = list-stood NAMETRANS_COUNT name_trans_at spell_name_trans NameTransFits name_trans_again es fits list.value list.is list.first in
    let may = both-so (λ entry. NameTransFits entry × Stood name_trans_at entry (spell_name_trans entry)) (NamedEntry named) MayBeGrouped es
    (λ entry h named. record { good = record { fits = h.0; name = entry-good entry h.0 h.1 }; source = small entry.source named.source }) each were.good.entries_named
    in
    let good = grouped-good es fits.count may in
    let few : length (grouped es) < 2 ^ 32 = omega (arith, fits.count, length-grouped es) in
    record {
      form = record { entries = λ t. refl; groups = λ f. absurd (cc) };
      good = record {
        entries_fit = record { count = omega arith; items = tt };
        groups_fit = record { count = few; items = all-so (grouped es) (λ group h. h.fits) good };
        entries_named = tt;
        groups_named = grouped-named named es were.good.entries_named;
      };
      granted = groups-read [] (grouped es) refl (list-granted NAMEGROUP_COUNT name_group_at spell_name_group (grouped es) (groups-granted (grouped es) few good));
    }

-- no more entries than bytes
few-entries : (es : List NameTransRec) → length es ≤ length (flat_map spell_name_trans es)
few-entries [] = omega arith
few-entries (e ∷ es) =
    let long : length (spell_name_trans e) ≡ 20 + length e.name = grind (
      arith,
      length-append,
      length-bytes_of 4 (length e.name),
      length-bytes_of 4 e.source,
      length-bytes_of 4 e.target,
      length-bytes_of 4 e.class,
      length-bytes_of 4 e.default,
    ) in
    omega (arith, long, length-append (spell_name_trans e) (flat_map spell_name_trans es), few-entries es)

-- entries of the groups that were read
with-entries : (named : Named) (types : List TypeRec) → AllByRecursion (λ t. t.value < 65536) types → AllByRecursion (NamedType named) types → (es : List NameTransRec) (gs : List NameGroupRec) → WereNames named true es gs
    → length (flat_map spell_name_trans (ungrouped (values_of_types types) gs)) < 2 ^ 32 → AreNames named false (ungrouped (values_of_types types) gs) []
with-entries named types small declared es gs were few_bytes =
    let fits = were.good.groups_fit in
    let list = stood-found (λ groups. done (Groups groups)) [] (namegroup-laws.again gs fits) (stood-last were.stood) in
    let each = list-stood NAMEGROUP_COUNT name_group_at spell_name_group NameGroupFits name_group_again gs fits list.value list.is list.first in
    let may = all-so gs (λ group h. let made : MayBeSplit group = record { fits = h.0; name = group-good group h.0 h.1 } in made) each in
    let sources = all-values (λ source. source < 2 ^ 32) types small (all-so types (λ t less. omega (arith, less)) small) in
    let entries = ungrouped (values_of_types types) gs in
    let good = ungrouped-good (values_of_types types) gs sources may in
    let few : length entries < 2 ^ 32 = omega (arith, few_bytes, few-entries entries) in
    record {
      form = record { entries = λ t. absurd (cc); groups = λ f. refl };
      good = record {
        entries_fit = record { count = few; items = all-so entries (λ entry h. h.fits) good };
        groups_fit = record { count = omega arith; items = tt };
        entries_named = ungrouped-named named types gs small declared were.good.groups_named;
        groups_named = tt;
      };
      granted = entries-read entries [] refl (list-granted NAMETRANS_COUNT name_trans_at spell_name_trans entries (entries-granted entries few good));
    }

-- ---- in the form of the other version

-- the entries and the groups of a version that has groups or has not, after one that had them or had not
abbrev pub new_entries : Bool → Bool → List TypeRec → List NameTransRec → List NameGroupRec → List NameTransRec
new_entries true false types es gs = ungrouped (values_of_types types) gs
new_entries false true types es gs = []
new_entries true true types es gs = es
new_entries false false types es gs = es

abbrev pub new_groups : Bool → Bool → List NameTransRec → List NameGroupRec → List NameGroupRec
new_groups true false es gs = []
new_groups false true es gs = grouped es
new_groups true true es gs = gs
new_groups false false es gs = gs

pub names-kept : (named : Named) → ((value : ℕ) → is_some (named Types value) ≡ true → value < 65536) → (types : List TypeRec) → AllByRecursion (λ t. t.value < 65536) types → AllByRecursion (NamedType named) types
    → (was is : Bool) (es : List NameTransRec) (gs : List NameGroupRec) → WereNames named was es gs → (is ≡ false → length (flat_map spell_name_trans (new_entries was is types es gs)) < 2 ^ 32)
    → AreNames named is (new_entries was is types es gs) (new_groups was is es gs)
names-kept named small_named types small declared true false es gs were few = with-entries named types small declared es gs were (few refl)
names-kept named small_named types small declared false true es gs were few = with-groups named small_named es gs were
names-kept named small_named types small declared true true es gs were few = groups-kept named es gs were
names-kept named small_named types small declared false false es gs were few = entries-kept named es gs were
