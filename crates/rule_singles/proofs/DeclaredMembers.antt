-- What a declared type expands to is declared.
use Rattle.std.proofs.Common.{◌≡◌, ℕ, Bool, true, false, Option, Some, None, [], ◌∷◌, refl}
use Rattle.std.specs.Prelude.{is_some, option_map, ◌&&◌, ◌-◌, if◌then◌else◌}
use Rattle.std.specs.List.{All, filter, range_with_len}
use Rattle.std.proofs.lemmas.List.Elements.{All-cons, All-nil, All-weaker, filter_passes}
use Rattle.pol_cursor.specs.References.{Placed}
use Rattle.pol_fields.specs.declared.TableKind.TheVariants.{Types}
use Rattle.pol_bitmap.specs.Nodes.{has_bit}
use Rattle.pol_symtab.specs.SymbolTables.{primary_name}
use Rattle.pol_datums.specs.declared.TypeRec.{TypeRec}
use Rattle.pol_datums.specs.declared.Flavour.TheVariants.{Plain, Attribute}
use Rattle.pol_symbols.specs.PolicySymbols.{flavour_found}
use Rattle.pol_symbols.specs.declared.Symbols.{Symbols}
use Rattle.pol_file.specs.declared.Parts.{Parts}
use Rattle.pol_read.specs.DeclaredRules.{IsDeclaredIn}
use Rattle.pol_expand.specs.Expansion.{expansion}
use Rattle.pol_expand.specs.Flavours.{is_flavour}
use Rattle.pol_expand.specs.PolicyMap.{expand, has_flavour, row_in}

found_plain : (o : Option (Placed TypeRec)) → is_flavour Plain (flavour_found o) ≡ true → is_some (option_map (λ (r : Placed TypeRec). r.value.name) o) ≡ true
found_plain None e = absurd cc
found_plain (Some t) e = refl

plain_is_declared : (symbols : Symbols) (value : ℕ) → has_flavour symbols Plain value ≡ true → IsDeclaredIn symbols Types value
unfolding primary_name
plain_is_declared symbols value e =
    found_plain _ e

both : (a b : Bool) → (a && b) ≡ true → a ≡ true
both true b e = refl
both false b e = absurd cc

pub members_are_declared : (policy : Parts) (value : ℕ) → IsDeclaredIn policy.symbols Types value → All (IsDeclaredIn policy.symbols Types) (expand policy value)
unfolding expand expansion
members_are_declared policy value declared = by (has_flavour policy.symbols Attribute value)
  where
    by : (attribute : Bool) → All (IsDeclaredIn policy.symbols Types) (if attribute then filter (λ type. has_flavour policy.symbols Plain type && has_bit (row_in policy type) (value - 1)) (range_with_len 1 policy.symbols.types.nprim) else value ∷ [])
    by true =
        let P : ℕ → Type 0 = IsDeclaredIn policy.symbols Types in
        let p : ℕ → Bool = λ type. has_flavour policy.symbols Plain type && has_bit (row_in policy type) (value - 1) in
        let kept = filter p (range_with_len 1 policy.symbols.types.nprim) in
        All-weaker (λ (type : ℕ). p type ≡ true) P (λ type e. plain_is_declared policy.symbols type (both _ _ e)) kept (filter_passes p (range_with_len 1 policy.symbols.types.nprim))
    by false = All-cons (IsDeclaredIn policy.symbols Types) value [] declared (All-nil (IsDeclaredIn policy.symbols Types))
