-- The records of attributes, and their statements.
use Rattle.std.proofs.Common.{◌≡◌, ℕ, ◌<◌, Bool, true, false, cond, List, [], ◌∷◌, Option, Some, None, length, map, slice_get, refl, sym, ap, subst, ◌∙◌, arith}
use Rattle.std.specs.List.{All, Contains, filter, range_with_len}
use Rattle.std.proofs.lemmas.List.{length-map}
use Rattle.std.proofs.lemmas.List.Elements.{All-weaker, All-contains, All-contains_itself}
use Rattle.std.proofs.lemmas.Option.{none-some, same_Some, option_and_then_some}
use Rattle.pol_cursor.specs.References.{Placed}
use Rattle.pol_fields.specs.declared.TableKind.TheVariants.{Types}
use Rattle.pol_datums.specs.declared.TypeRec.{TypeRec}
use Rattle.pol_datums.specs.declared.Flavour.TheVariants.{Attribute}
use Rattle.pol_datums.specs.TypeRecord.{flavour_of}
use Rattle.pol_symbols.specs.PolicySymbols.{index_in, value_in}
use Rattle.pol_file.specs.declared.parts.Parts.{Parts}
use Rattle.pol_file.specs.TypeValues.{IsTypeValue}
use Rattle.info_lines.specs.Inner.Listings.{line_of}
use Rattle.info_lines.specs.NameOrder.{primary_numbers}
use Rattle.info_lines.specs.NameSets.{names_of_values}
use Rattle.info_lines.proofs.ListingLines.{line_at}
use Rattle.info_lines.proofs.Placing.{index_within}
use Rattle.info_symbols.specs.declared.type_sets.TypeSet.{TypeSet}
use Rattle.info_symbols.specs.declared.type_sets.TypeSet.TheVariants.{Attributes}
use Rattle.info_lines.specs.NameOrder.{number_named}
use Rattle.pol_expand.specs.Flavours.{is_flavour}
use Rattle.info_symbols.specs.TypeListings.{number_in, number_if_in, set_numbers}
use Rattle.info_symbols.proofs.Listed.{lines_are, one_line}
use Rattle.pol_expand.specs.Expansion.{Expansions}
use Rattle.pol_expand.specs.PolicyMap.{IsPolicyMap, has_flavour, expand, values_of_flavour}
use Rattle.info_symbols.specs.AttributeStatement.{IsAttribute, attribute_statement, statement_lines, statement_text, attribute_statement_listing, attribute_statement_listing_named}
use Rattle.pol_bitmap.proofs.Elements.{contains_range, keeps, kept}
use Rattle.info_symbols.proofs.PrimaryTypes.{IsPrimary, all_primary, declared_by}

is_attribute : (parts : Parts) (value number : ℕ) → index_in parts.symbols Types value ≡ Some number → number_in parts Attributes number ≡ true → IsAttribute parts number
is_attribute parts value number at is = record {
  within = index_within parts.symbols Types value number at;
  declared = λ t there.
      let says = declared_by parts.symbols value number t at there in
      let passes : is_flavour Attribute (flavour_of t.value.properties) ≡ true = rw there at is in
      ap (has_flavour parts.symbols Attribute) says.0 ∙ ap (is_flavour Attribute) says.1 ∙ passes;
}

-- a map that gained sets is still that of the policy
pub grown_map : (parts : Parts) (old new : Expansions) → new ≡ record old { sets = new.sets } → IsPolicyMap parts old → IsPolicyMap parts new
grown_map parts old new same is = subst (IsPolicyMap parts) (sym same) (record { attributes = is.attributes; types = is.types; expands = is.expands })

-- its value is that of an attribute
pub attribute_value : (parts : Parts) (number : ℕ) (t : Placed TypeRec) → IsAttribute parts number → slice_get parts.symbols.types.records number ≡ Some t → IsTypeValue parts.symbols t.value.value
    → Contains (values_of_flavour parts.symbols Attribute) t.value.value
unfolding values_of_flavour
attribute_value parts number t is at within =
    let nprim = parts.symbols.types.nprim in
    keeps (has_flavour parts.symbols Attribute) (range_with_len 1 nprim) t.value.value (contains_range 1 nprim t.value.value within.0 (omega (arith, within.1))) (is.declared t at)

-- all that are listed are attributes
pub listed_attributes : (parts : Parts) → All (IsAttribute parts) (set_numbers parts Attributes)
listed_attributes parts =
    let numbers = primary_numbers parts.symbols Types in
    let listed = filter (number_in parts Attributes) numbers in
    All-weaker (Contains listed) (IsAttribute parts)
    (λ number there.
    let h = kept (number_in parts Attributes) numbers number there in
    let primary = All-contains (IsPrimary parts.symbols) numbers number (all_primary parts.symbols) h.0 in
    is_attribute parts primary.value number primary.at h.1)
    listed (All-contains_itself listed)

-- each has a line
pub have_statements : (parts : Parts) (numbers : List ℕ) → All (IsAttribute parts) numbers → All (λ number. number < length (statement_lines parts)) numbers
have_statements parts numbers all =
    rw (length-map parts.symbols.types.records (λ t. attribute_statement parts t.value)) (All-weaker (IsAttribute parts) (λ number. number < length parts.symbols.types.records) (λ number is. is.within) numbers all)

pub statements_listed : (parts : Parts) (numbers : List ℕ) → numbers ≡ set_numbers parts Attributes → map (line_of (statement_lines parts)) numbers ≡ attribute_statement_listing parts
unfolding attribute_statement_listing
statements_listed parts numbers are =
    rw are (lines_are (statement_lines parts) (set_numbers parts Attributes) (have_statements parts (set_numbers parts Attributes) (listed_attributes parts)))

pub statement_at : (parts : Parts) (number : ℕ) (t : Placed TypeRec) → slice_get parts.symbols.types.records number ≡ Some t → line_of (statement_lines parts) number ≡ statement_text t.value.name (names_of_values parts.symbols Types (expand parts t.value.value))
unfolding attribute_statement
statement_at parts number t at = line_at (λ (t : Placed TypeRec). attribute_statement parts t.value) parts.symbols.types.records number t at

-- ---- the attribute of a name

number_kept : (b : Bool) (number other : ℕ) → cond b (Some number) None ≡ Some other → (number ≡ other) × (b ≡ true)
number_kept true number other e = (same_Some number other e, refl)
number_kept false number other e = absurd (none-some other e)

if_in : (parts : Parts) (set : TypeSet) (o : Option ℕ) (number : ℕ) → number_if_in parts set o ≡ Some number → (o ≡ Some number) × (number_in parts set number ≡ true)
if_in parts set None number e = absurd (none-some number e)
if_in parts set (Some n) number e =
    let h = number_kept (number_in parts set n) n number e in
    (ap Some h.0, ap (number_in parts set) (sym h.0) ∙ h.1)

pub named_attribute : (parts : Parts) (name : List ℕ) (number : ℕ) → Some number ≡ number_if_in parts Attributes (number_named parts.symbols Types name) → IsAttribute parts number
named_attribute parts name number found =
    let h = if_in parts Attributes (number_named parts.symbols Types name) number (sym found) in
    option_and_then_some (index_in parts.symbols Types) (value_in parts.symbols Types name) number h.0 (λ value is at. is_attribute parts value number at h.1)

pub statement_named : (parts : Parts) (name : List ℕ) (number : ℕ) → Some number ≡ number_if_in parts Attributes (number_named parts.symbols Types name) → Some (line_of (statement_lines parts) number ∷ []) ≡ attribute_statement_listing_named parts name
unfolding attribute_statement_listing_named
statement_named parts name number found =
    let is = named_attribute parts name number found in
    rw (← found) (one_line (statement_lines parts) number (rw (length-map parts.symbols.types.records (λ t. attribute_statement parts t.value)) is.within))

pub statement_unnamed : (parts : Parts) (name : List ℕ) → None ≡ number_if_in parts Attributes (number_named parts.symbols Types name) → None ≡ attribute_statement_listing_named parts name
unfolding attribute_statement_listing_named
statement_unnamed parts name missing = rw (← missing) refl
