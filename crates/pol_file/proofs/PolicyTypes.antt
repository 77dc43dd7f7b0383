-- In a policy that was read there are few type values, and its table of types and its type map keep to them.
use Rattle.std.proofs.Common.{◌≡◌, ℕ, ◌≤◌, Some, List, All, length, slice_get, refl, subst}
use Rattle.std.specs.Prelude.{nat_le}
use Rattle.std.proofs.lemmas.Bool.{leb-true}
use Rattle.std.proofs.lemmas.Option.{get_or_from_slice_get, slice_get_within}
use Rattle.pol_fields.specs.declared.Cause.TheVariants.{TableTooLarge}
use Rattle.pol_fields.specs.declared.fields.TheConstants.{TABLE_NPRIM, TABLE_NEL, TYPE_LEN, TYPE_VALUE, TYPE_PROPERTIES, TYPE_BOUNDS, TYPE_NAME, GENFS_COUNT, RANGETRANS_COUNT, END_END}
use Rattle.pol_cursor.specs.Outcome.{Got}
use Rattle.pol_cursor.specs.Parts.{number, number_if, end_at, counted, records_at}
use Rattle.pol_cursor.specs.References.{Placed, placed}
use Rattle.pol_cursor.proofs.Facts.{unless_none}
use Rattle.pol_bitmap.specs.Bitmap.{bitmap_at}
use Rattle.pol_symtab.specs.Claims.{Claims}
use Rattle.pol_symtab.specs.Inner.Freshness.{Gives}
use Rattle.pol_symtab.specs.SymbolFields.{symbol_length_at, symbol_name_at}
use Rattle.pol_symtab.specs.SymbolTables.{table_head_at, table_records_at, table_at, table_start}
use Rattle.pol_symtab.proofs.FreshRecords.{Gives-part, Gives-any, Gives-done, Gives-number_if, value_is_in}
use Rattle.pol_commons.specs.CommonTable.{commons_at}
use Rattle.pol_datums.specs.declared.TypeRec.{TypeRec}
use Rattle.pol_datums.specs.SymbolValues.{value_at, bounds_at}
use Rattle.pol_datums.specs.TypeRecord.{type_at}
use Rattle.pol_classes.specs.ClassTables.{class_table_at}
use Rattle.pol_symbols.specs.PolicySymbols.{roles_at, types_at, rule_tables_at, other_tables_at, symbols_at}
use Rattle.pol_trans.specs.RangeTransRecord.{range_trans_at}
use Rattle.pol_contexts.specs.ContextTables.{contexts_at}
use Rattle.pol_genfs.specs.GenfsRecord.{genfs_at}
use Rattle.pol_file.specs.declared.parts.Parts.{Parts}
use Rattle.pol_file.specs.TypeRows.{type_rows_at}
use Rattle.pol_file.specs.TypeValues.{IsTypeValue, HasTypeValues}
use Rattle.pol_file.specs.PolicyParts.{front_at, rule_lists_at, label_lists_at, policy_at}
use Rattle.pol_file.proofs.ReadValues.{gives-others, gives-weaker, gives-records_after}

-- ---- the table of types

-- it declares few values
head_is_small : Gives table_head_at (λ head. head.nprim ≤ 65535)
unfolding table_head_at
head_is_small =
    Gives-part (Gives-number_if TABLE_NPRIM 4) λ nprim small.
    gives-others (number TABLE_NEL 4) λ nel.
    Gives-done _ (record { nprim = nprim; nel = nel }) (leb-true nprim 65535 (unless_none (nat_le nprim 65535) TableTooLarge small))

-- a type, an attribute and an alias have one of them
type_is_within : (taken : Claims) (nprim : ℕ) → Gives (type_at taken nprim) (λ t. (1 ≤ t.value) × (t.value ≤ nprim))
unfolding type_at value_at
type_is_within taken nprim =
    gives-others (symbol_length_at TYPE_LEN) λ len.
    Gives-part (Gives-number_if TYPE_VALUE 4) λ value within.
    gives-others (number_if TYPE_PROPERTIES 4 _) λ properties.
    gives-others (bounds_at TYPE_BOUNDS) λ bounds.
    gives-others (symbol_name_at TYPE_NAME taken len) λ name.
    Gives-done _ (record { value = value; properties = properties; bounds = bounds; name = name }) (value_is_in nprim value within)

types_are_within : Gives types_at (λ table. (table.nprim ≤ 65535) × All (λ t. (1 ≤ t.value.value) × (t.value.value ≤ table.nprim)) table.records)
unfolding types_at table_at table_records_at
types_are_within =
    Gives-part head_is_small λ head small.
    Gives-part (gives-records_after _ _ (λ context. context.nprim ≡ head.nprim) (λ (t : TypeRec). (1 ≤ t.value) × (t.value ≤ head.nprim))
    (λ context same. subst (λ (nprim : ℕ). Gives (type_at context.taken context.nprim) (λ t. (1 ≤ t.value) × (t.value ≤ nprim))) same (type_is_within context.taken context.nprim))
    (λ context t same. same) head.nel (table_start head.nprim) refl) λ records records-within.
    Gives-done _ (record { nprim = head.nprim; records = records }) (small, records-within.each)

rule_tables_are_within : (version : ℕ) → Gives (rule_tables_at version) (λ tables. (tables.types.nprim ≤ 65535) × All (λ t. (1 ≤ t.value.value) × (t.value.value ≤ tables.types.nprim)) tables.types.records)
unfolding rule_tables_at
rule_tables_are_within version =
    gives-others commons_at λ commons.
    gives-others (class_table_at version commons) λ classes.
    gives-others roles_at λ roles.
    Gives-part types_are_within λ types within.
    Gives-done _ _ within

symbols_are_within : (version : ℕ) → Gives (symbols_at version) (λ symbols. (symbols.types.nprim ≤ 65535) × All (λ t. IsTypeValue symbols t.value.value) symbols.types.records)
unfolding symbols_at
symbols_are_within version =
    Gives-part (rule_tables_are_within version) λ first within.
    gives-others other_tables_at λ others.
    Gives-done _ _ within

-- ---- the type map

-- it has a row for each of them
pub type_rows_long : (types : ℕ) → Gives (type_rows_at types) (λ rows. length rows ≡ types)
unfolding type_rows_at
type_rows_long types =
    gives-weaker
    (gives-records_after (λ nprim. bitmap_at (Some nprim)) (λ nprim row. nprim) (λ nprim. Unit {0}) (λ row. Unit {0}) (λ nprim known. Gives-any (bitmap_at (Some nprim))) (λ nprim row known. tt) types types tt)
    (λ rows are. are.count)

labels_are_long : (version types : ℕ) → Gives (label_lists_at version types) (λ labels. length labels.type_rows ≡ types)
unfolding label_lists_at
labels_are_long version types =
    gives-others (contexts_at version) λ contexts.
    gives-others (counted GENFS_COUNT (records_at (placed genfs_at))) λ genfs.
    gives-others (counted RANGETRANS_COUNT (records_at (placed range_trans_at))) λ range_trans.
    Gives-part (type_rows_long types) λ type_rows long.
    Gives-done _ _ long

-- ---- a policy

policy_has_type_values : Gives policy_at HasTypeValues
unfolding policy_at
policy_has_type_values =
    gives-others front_at λ front.
    Gives-part (symbols_are_within front.header.version) λ symbols within.
    gives-others (rule_lists_at front.header.version) λ rules.
    Gives-part (labels_are_long front.header.version symbols.types.nprim) λ labels long.
    gives-others (end_at END_END) λ ended.
    Gives-done _ _ (record { few = within.0; within = within.1; rows = long })

pub type_values_read : (bytes : List ℕ) (place : ℕ) (policy : Parts) (next : ℕ) → policy_at bytes place ≡ Got policy next → HasTypeValues policy
type_values_read bytes place policy next e = policy_has_type_values.each bytes place policy next e

-- the record of a number has a type value
pub type_value_at : (policy : Parts) (n : ℕ) (t : Placed TypeRec) → HasTypeValues policy → slice_get policy.symbols.types.records n ≡ Some t → IsTypeValue policy.symbols t.value.value
type_value_at policy n t has at =
    let records = policy.symbols.types.records in
    subst (λ (t : Placed TypeRec). IsTypeValue policy.symbols t.value.value) (get_or_from_slice_get records n t t at) (has.within n t (slice_get_within records n t at))
