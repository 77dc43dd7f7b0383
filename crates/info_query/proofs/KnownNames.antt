-- A listing knows a name exactly where it has lines for it.
use Rattle.std.proofs.Common.{◌≡◌, ℕ, Bool, true, false, cond, List, [], ◌∷◌, Option, Some, None, option_map, slice_get, refl, ap, ◌∙◌}
use Rattle.std.specs.Prelude.{is_some}
use Rattle.std.specs.Option.{option_and_then}
use Rattle.std.proofs.lemmas.Option.{slice_get-map}
use Rattle.pol_cursor.specs.References.{Placed}
use Rattle.pol_fields.specs.declared.TableKind.TheVariants as tables
use Rattle.pol_datums.specs.declared.TypeRec.{TypeRec}
use Rattle.pol_file.specs.declared.Parts.{Parts}
use Rattle.info_lines.specs.declared.listing.Listing.{Listing}
use Rattle.info_lines.specs.declared.listing.Listing.TheVariants.{Classes, Commons, Constraints, Validatetrans, Defaults, Roles, Types, Attributes, Users, Booleans, Sensitivities, Categories, InitialSids, FsUses, Genfscons, Netifcons, Nodecons, Portcons, Ibpkeycons, Ibendportcons, Permissives, Capabilities, Typebounds}
use Rattle.info_lines.specs.NameOrder.{number_named, numbers_listed}
use Rattle.info_symbols.specs.declared.TypeSet.TheVariants as sets
use Rattle.info_symbols.specs.SymbolListings.{symbol_listing}
use Rattle.info_symbols.specs.TypeListings.{is_in, number_if_in, set_listing, set_numbers_listed}
use Rattle.info_classes.specs.ConstraintLines.{constraint_listing}
use Rattle.info_classes.specs.DefaultLines.{default_listing}
use Rattle.info_symbols.specs.AttributeStatement.{attribute_statement, attribute_statement_listing_named, statement_lines}
use Rattle.info_query.specs.Listings.{attribute_lines, lines_of}
use Rattle.info_query.specs.Inner.Names.{knows_name}

mapped : {A B : Type 0} (f : A → B) (o : Option A) → is_some o ≡ is_some (option_map f o)
mapped f None = refl
mapped f (Some x) = refl

mapped_twice : {A B C : Type 0} (f : B → C) (g : A → B) (o : Option A) → is_some o ≡ is_some (option_map f (option_map g o))
mapped_twice f g None = refl
mapped_twice f g (Some x) = refl

mapped_thrice : {A B C D : Type 0} (f : C → D) (g : B → C) (h : A → B) (o : Option A) → is_some o ≡ is_some (option_map f (option_map g (option_map h o)))
mapped_thrice f g h None = refl
mapped_thrice f g h (Some x) = refl

-- ---- attributes with their types

-- a number that is kept has a line
kept_has_line : (b : Bool) (lines : List (List ℕ)) (n : ℕ) (line : List ℕ) → slice_get lines n ≡ Some line
    → is_some (cond b (Some n) None) ≡ is_some (option_map (λ (line : List ℕ). line ∷ []) (option_and_then (slice_get lines) (cond b (Some n) None)))
kept_has_line true lines n line at = rw at refl
kept_has_line false lines n line at = refl

statement-go : (parts : Parts) (n : ℕ) (t : Option (Placed TypeRec)) → slice_get parts.symbols.types.records n ≡ t
    → is_some (number_if_in parts sets.Attributes (Some n)) ≡ is_some (option_map (λ (line : List ℕ). line ∷ []) (option_and_then (slice_get (statement_lines parts)) (number_if_in parts sets.Attributes (Some n))))
statement-go parts n None none = rw none refl
statement-go parts n (Some t) at =
    rw at (kept_has_line (is_in parts sets.Attributes t.value) (statement_lines parts) n (attribute_statement parts t.value)
    (slice_get-map (λ t. attribute_statement parts t.value) parts.symbols.types.records n ∙ ap (option_map (λ t. attribute_statement parts t.value)) at))

statement_known : (parts : Parts) (found : Option ℕ) → is_some (number_if_in parts sets.Attributes found)
    ≡ is_some (option_map (λ (line : List ℕ). line ∷ []) (option_and_then (slice_get (statement_lines parts)) (number_if_in parts sets.Attributes found)))
statement_known parts None = refl
statement_known parts (Some n) = statement-go parts n (slice_get parts.symbols.types.records n) refl

attribute_known : (parts : Parts) (name : List ℕ) (expand : Bool) → knows_name parts Attributes name ≡ is_some (attribute_lines parts expand (Some name))
unfolding knows_name attribute_lines set_listing set_numbers_listed attribute_statement_listing_named
attribute_known parts name false = mapped_twice _ _ (number_if_in parts sets.Attributes (number_named parts.symbols tables.Types name))
attribute_known parts name true = statement_known parts (number_named parts.symbols tables.Types name)

-- ---- all listings

pub known_has_lines : (parts : Parts) (listing : Listing) (name : List ℕ) (expand : Bool) → knows_name parts listing name ≡ is_some (lines_of parts expand listing (Some name))
unfolding knows_name lines_of symbol_listing numbers_listed constraint_listing default_listing set_listing set_numbers_listed
known_has_lines parts Classes name expand = mapped_twice _ _ (number_named parts.symbols tables.Classes name)
known_has_lines parts Commons name expand = mapped_twice _ _ (number_named parts.symbols tables.Commons name)
known_has_lines parts Constraints name expand = mapped_thrice _ _ _ (number_named parts.symbols tables.Classes name)
known_has_lines parts Validatetrans name expand = mapped_thrice _ _ _ (number_named parts.symbols tables.Classes name)
known_has_lines parts Defaults name expand = mapped_thrice _ _ _ (number_named parts.symbols tables.Classes name)
known_has_lines parts Roles name expand = mapped_twice _ _ (number_named parts.symbols tables.Roles name)
known_has_lines parts Types name expand = mapped_twice _ _ (number_if_in parts sets.PlainTypes (number_named parts.symbols tables.Types name))
known_has_lines parts Attributes name expand = attribute_known parts name expand
known_has_lines parts Users name expand = mapped_twice _ _ (number_named parts.symbols tables.Users name)
known_has_lines parts Booleans name expand = mapped_twice _ _ (number_named parts.symbols tables.Booleans name)
known_has_lines parts Sensitivities name expand = mapped_twice _ _ (number_named parts.symbols tables.Levels name)
known_has_lines parts Categories name expand = mapped_twice _ _ (number_named parts.symbols tables.Categories name)
known_has_lines parts InitialSids name expand = refl
known_has_lines parts FsUses name expand = refl
known_has_lines parts Genfscons name expand = refl
known_has_lines parts Netifcons name expand = refl
known_has_lines parts Nodecons name expand = refl
known_has_lines parts Portcons name expand = refl
known_has_lines parts Ibpkeycons name expand = refl
known_has_lines parts Ibendportcons name expand = refl
known_has_lines parts Permissives name expand = mapped_twice _ _ (number_if_in parts sets.PlainTypes (number_named parts.symbols tables.Types name))
known_has_lines parts Capabilities name expand = refl
known_has_lines parts Typebounds name expand = refl
