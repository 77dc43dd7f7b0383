-- Attributes by the numbers of their records, and their types.
use Rattle.std.proofs.Common.{◌≡◌, ℕ, ◌<◌, List, [], Some, slice_get, inl, refl, sym, subst, ◌∙◌}
use Rattle.std.specs.List.{Contains}
use Rattle.pol_cursor.specs.References.{Placed}
use Rattle.pol_fields.specs.declared.TableKind.TheVariants.{Types}
use Rattle.pol_datums.specs.declared.Flavour.TheVariants.{Attribute}
use Rattle.pol_datums.specs.declared.TypeRec.{TypeRec}
use Rattle.pol_symtab.proofs.Searches.{place_of}
use Rattle.pol_symbols.specs.PolicySymbols.{count_in}
use Rattle.pol_file.specs.declared.Parts.{Parts}
use Rattle.pol_file.specs.TypeValues.{IsTypeValue}
use Rattle.pol_expand.specs.Expansion.{Expansions, IsDeclared, expansion_of}
use Rattle.pol_expand.specs.PolicyMap.{IsPolicyMap, expand, values_of_flavour}
use Rattle.info_lines.specs.Inner.Listings.{line_of}
use Rattle.info_symbols.specs.AttributeStatement.{IsAttribute, statement_lines, statement_text}
use Rattle.info_symbols.proofs.Attributes.{attribute_value, statement_at}
use Rattle.diff_symbols.specs.SymbolEntries.{name_at, value_at}
use Rattle.diff_symbols.specs.TypeEntries.{types_with}
use Rattle.diff_symbols.proofs.RecordTexts.{mapped_at}

pub attribute_within : (parts : Parts) (number : ℕ) → IsAttribute parts number → number < count_in parts.symbols Types
attribute_within parts number is = is.within

-- its value is declared as that of an attribute
pub declared_value : (parts : Parts) (number : ℕ) (t : Placed TypeRec) → IsAttribute parts number → slice_get parts.symbols.types.records number ≡ Some t → IsTypeValue parts.symbols t.value.value
    → Contains (values_of_flavour parts.symbols Attribute) t.value.value
declared_value parts number t is at within = attribute_value parts number t is at within

pub named_value : (parts : Parts) (number : ℕ) (t : Placed TypeRec) → slice_get parts.symbols.types.records number ≡ Some t → t.value.value ≡ value_at parts.symbols Types number
named_value parts number t at = sym (mapped_at (λ (t : Placed TypeRec). t.value.value) parts.symbols.types.records number t 0 at)

-- the map of the policy has it
pub attribute_declared : (parts : Parts) (map : Expansions) (value : ℕ) → IsPolicyMap parts map → Contains (values_of_flavour parts.symbols Attribute) value → IsDeclared map.attributes map.types value
attribute_declared parts map value is declared = inl (subst (λ (bits : List ℕ). Contains bits value) (sym is.attributes) declared)

pub expanded : (parts : Parts) (map : Expansions) (value : ℕ) → IsPolicyMap parts map → Contains (values_of_flavour parts.symbols Attribute) value → expansion_of map.expansions value ≡ expand parts value
expanded parts map value is declared = is.expands value (attribute_declared parts map value is declared)

-- its statement has the names of its types
pub attribute_stated : (parts : Parts) (number : ℕ) → IsAttribute parts number → line_of (statement_lines parts) number ≡ statement_text (name_at parts.symbols Types number) (types_with parts number)
attribute_stated parts number is =
    let records = parts.symbols.types.records in
    let at = place_of records number is.within in
    let name = mapped_at (λ (t : Placed TypeRec). t.value.name) records number at.0 [] at.1 in
    let value = mapped_at (λ (t : Placed TypeRec). t.value.value) records number at.0 0 at.1 in
    statement_at parts number at.0 at.1 ∙ rw (name, value) refl
