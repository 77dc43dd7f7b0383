-- The primary records of types by their numbers.
use Rattle.std.proofs.Common.{◌≡◌, ℕ, Bool, true, false, cond, List, [], ◌∷◌, Option, Some, None, slice_get, refl, ap, subst}
use Rattle.std.specs.Prelude.{nat_eq}
use Rattle.std.specs.List.{All, Contains, find, filter_map, cons_option}
use Rattle.std.proofs.lemmas.Bool.{and_parts, eqb-true}
use Rattle.std.proofs.lemmas.List.Elements.{All-nil, All-cons, Contains-append_right}
use Rattle.std.proofs.lemmas.Option.{none-some, same_Some, option_and_then_some}
use Rattle.pol_cursor.specs.References.{Placed}
use Rattle.pol_fields.specs.declared.TableKind.TheVariants.{Types}
use Rattle.pol_symtab.specs.SymbolTables.{declares}
use Rattle.pol_datums.specs.declared.TypeRec.{TypeRec}
use Rattle.pol_datums.specs.TypeRecord.{is_primary_type, flavour_of}
use Rattle.pol_symbols.specs.declared.symbols.Symbols.{Symbols}
use Rattle.pol_symbols.specs.PolicySymbols.{index_in, flavour_in, flavour_found}
use Rattle.pol_symbols.proofs.SymbolSearch.{primary_found}
use Rattle.info_lines.specs.NameOrder.{value_of_rank, number_of_rank, primary_numbers}
use Rattle.pol_bitmap.proofs.Elements.{contains_first}

-- the first that passes is in the list, and passes
found : {X : Type 0} (p : X → Bool) (xs : List X) (y : X) → find p xs ≡ Some y → Contains xs y × (p y ≡ true)
found p [] y e = absurd (none-some y e)
found {X} p (x ∷ xs) y e = go (p x) (found p xs y) refl e
  where
    go : (b : Bool) → (find p xs ≡ Some y → Contains xs y × (p y ≡ true)) → p x ≡ b → cond b (Some x) (find p xs) ≡ Some y → Contains (x ∷ xs) y × (p y ≡ true)
    go true rest is e = let same = same_Some x y e in (subst (Contains (x ∷ xs)) same (contains_first x xs), subst (λ (z : X). p z ≡ true) same is)
    go false rest is e = let h = rest e in (Contains-append_right (x ∷ []) xs y h.0, h.1)

-- A number is that of the primary record of a value.
pub record IsPrimary (symbols : Symbols) (number : ℕ) : Type 0 where
  pub value : ℕ
  pub at : index_in symbols Types value ≡ Some number

all_given-go : (P : ℕ → Type 0) (o : Option ℕ) (xs : List ℕ) → ((y : ℕ) → o ≡ Some y → P y) → All P xs → All P (cons_option o xs)
all_given-go P None xs gives all = all
all_given-go P (Some y) xs gives all = All-cons P y xs (gives y refl) all

all_given : (P : ℕ → Type 0) (h : ℕ → Option ℕ) → ((x y : ℕ) → h x ≡ Some y → P y) → (xs : List ℕ) → All P (filter_map h xs)
all_given P h gives [] = All-nil P
all_given P h gives (x ∷ xs) = all_given-go P (h x) (filter_map h xs) (gives x) (all_given P h gives xs)

one_primary : (symbols : Symbols) (rank number : ℕ) → number_of_rank symbols Types rank ≡ Some number → IsPrimary symbols number
unfolding number_of_rank
one_primary symbols rank number e = option_and_then_some (index_in symbols Types) (value_of_rank symbols Types rank) number e λ value is at. record { value = value; at = at }

-- all that are listed are
pub all_primary : (symbols : Symbols) → All (IsPrimary symbols) (primary_numbers symbols Types)
unfolding primary_numbers
all_primary symbols = all_given (IsPrimary symbols) (number_of_rank symbols Types) (one_primary symbols) _

-- what the primary record of a value says
pub declared_by : (symbols : Symbols) (value number : ℕ) (t : Placed TypeRec) → index_in symbols Types value ≡ Some number → slice_get symbols.types.records number ≡ Some t
    → (t.value.value ≡ value) × (flavour_in symbols value ≡ flavour_of t.value.properties)
declared_by symbols value number t at is =
    let finds = primary_found (λ (t : TypeRec). is_primary_type t.properties) (λ t. t.value) symbols.types.records value number t at is in
    let passes = (found (declares (λ (t : TypeRec). is_primary_type t.properties) (λ t. t.value) value) symbols.types.records t finds).1 in
    (eqb-true t.value.value value (and_parts (is_primary_type t.value.properties) (nat_eq t.value.value value) passes).1, ap flavour_found finds)
