-- The bits of the permissions that are asked for tell whether a mask has one of them.
use Rattle.std.proofs.Common.{◌≡◌, ℕ, Bool, true, false, cond, List, [], ◌∷◌, Option, Some, None, refl, sym, ap, subst, ◌∙◌}
use Rattle.std.specs.Prelude.{◌&&◌, ◌||◌, bit_or, option_map}
use Rattle.std.specs.List.{find, list_any}
use Rattle.std.proofs.lemmas.Bool.{eqb-true}
use Rattle.pol_fields.specs.declared.TableKind.TheVariants.{Classes}
use Rattle.pol_cursor.specs.References.{Placed}
use Rattle.pol_commons.specs.declared.PermissionRec.{PermissionRec}
use Rattle.pol_commons.specs.Permissions.{bit_of, has_permission, mask_has, of_name}
use Rattle.pol_classes.specs.declared.ClassRec.{ClassRec}
use Rattle.pol_symtab.specs.SymbolTables.{declares}
use Rattle.pol_symtab.proofs.Searches.{place_of}
use Rattle.pol_symbols.specs.declared.Symbols.{Symbols}
use Rattle.pol_symbols.specs.PolicySymbols.{index_in, permissions_found, permissions_in_class, permissions_of}
use Rattle.pol_symbols.proofs.SymbolSearch.{primary_found, primary_is_within}
use Rattle.rule_tests.specs.PartTests.{bits_behind, shares_bit}
use Rattle.rule_tests.proofs.PermissionBits.{shares_any}
use Rattle.se_checker.specs.declared.asked.AskedBits.TheVariants.{Bits}
use Rattle.se_checker.specs.Verdicts.{Asked, asks_class, asks_given, asks_mask, found_passes}
use Rattle.se_checker.specs.Inner.AskedBits.{asks_among, asks_at, asks_found, asks_in_class, bits_named, has_asked, with_found}

-- ---- bits

abbrev with_option : Option PermissionRec → List PermissionRec → List PermissionRec
with_option None found = found
with_option (Some permission) found = permission ∷ found

-- the permissions of some names
found : List PermissionRec → List (List ℕ) → List PermissionRec
found permissions [] = []
found permissions (name ∷ names) = with_option (of_name name permissions) (found permissions names)

bits_are : (permissions : List PermissionRec) (bits : ℕ) (names : List (List ℕ)) → bits_named permissions bits names ≡ bits_behind bits (found permissions names)
unfolding found
bits_are permissions bits [] = refl
bits_are permissions bits (name ∷ names) = go (λ b. bits_are permissions b names) (of_name name permissions)
  where
    go : ((b : ℕ) → bits_named permissions b names ≡ bits_behind b (found permissions names)) → (o : Option PermissionRec) → bits_named permissions (with_found bits o) names ≡ bits_behind bits (with_option o (found permissions names))
    go later None = later bits
    go later (Some permission) = later (bit_or bits (bit_of permission))

any_found : (permissions : List PermissionRec) (mask : ℕ) (names : List (List ℕ)) → list_any (has_permission mask) (found permissions names) ≡ asks_among permissions (Some names) mask
unfolding found
any_found permissions mask [] = refl
any_found permissions mask (name ∷ names) = go (any_found permissions mask names) (of_name name permissions)
  where
    go : list_any (has_permission mask) (found permissions names) ≡ asks_among permissions (Some names) mask → (o : Option PermissionRec) → list_any (has_permission mask) (with_option o (found permissions names)) ≡ (found_passes (mask_has mask) (option_map (λ permission. permission.value) o) || asks_among permissions (Some names) mask)
    go later None = later
    go later (Some permission) = ap (λ (b : Bool). has_permission mask permission || b) later

bits_asked : (permissions : List PermissionRec) (names : List (List ℕ)) (mask : ℕ) → shares_bit mask (bits_named permissions 0 names) ≡ asks_among permissions (Some names) mask
bits_asked permissions names mask = ap (shares_bit mask) (bits_are permissions 0 names) ∙ shares_any mask (found permissions names) ∙ any_found permissions mask names

-- ---- what is asked of the rules of a class

pub named_masks : (symbols : Symbols) (asked : Asked) (class : ClassRec) (names : List (List ℕ)) (bits mask : ℕ) → asks_class symbols asked.class class.value ≡ true → asked.perms ≡ Some names → bits ≡ bits_named (permissions_of symbols class) 0 names
    → has_asked (Bits bits) mask ≡ asks_in_class symbols asked class mask
named_masks symbols asked class names bits mask asks given is =
    ap (shares_bit mask) is
    ∙ bits_asked (permissions_of symbols class) names mask
    ∙ sym (ap (λ (b : Bool). b && asks_among (permissions_of symbols class) asked.perms mask) asks ∙ ap (λ (o : Option (List (List ℕ))). asks_among (permissions_of symbols class) o mask) given)

-- ---- the class of a place

the_passing : (p : Placed ClassRec → Bool) (xs : List (Placed ClassRec)) (x : Placed ClassRec) → find p xs ≡ Some x → p x ≡ true
the_passing p [] x e = absurd cc
the_passing p (y ∷ ys) x e = go (λ e. the_passing p ys x e) (p y) refl e
  where
    go : (find p ys ≡ Some x → p x ≡ true) → (b : Bool) → p y ≡ b → cond b (Some y) (find p ys) ≡ Some x → p x ≡ true
    go later true passes e =
        let same : y ≡ x = cc in
        subst (λ (z : Placed ClassRec). p z ≡ true) same passes
    go later false passes e = later e

mask_among : (symbols : Symbols) (class : ℕ) (permissions : List PermissionRec) (mask : ℕ) → permissions_in_class symbols class ≡ permissions → (perms : Option (List (List ℕ))) → asks_among permissions perms mask ≡ asks_mask symbols perms class mask
mask_among symbols class permissions mask are None = refl
mask_among symbols class permissions mask are (Some names) =
    ap (λ (ps : List PermissionRec). list_any (λ name. found_passes (mask_has mask) (option_map (λ permission. permission.value) (of_name name ps))) names) (sym are)

-- what is asked of the rules of the class of a place is asked of those of its value
pub asked_at_place : (symbols : Symbols) (asked : Asked) (class place mask : ℕ) → index_in symbols Classes class ≡ Some place → asks_at symbols asked place mask ≡ asks_given symbols asked class (Some mask)
asked_at_place symbols asked class place mask is =
    let always = λ (c : ClassRec). true in
    let value = λ (c : ClassRec). c.value in
    let records = symbols.classes.records in
    let r = place_of records place (primary_is_within always value records class place is) in
    let there : find (declares always value class) records ≡ Some r.0 = primary_found always value records class place r.0 is r.1 in
    let same : r.0.value.value ≡ class = eqb-true r.0.value.value class (the_passing (declares always value class) records r.0 there) in
    let permissions : permissions_in_class symbols class ≡ permissions_of symbols r.0.value = ap (permissions_found symbols) there in
    ap (λ (o : Option (Placed ClassRec)). asks_found symbols asked o mask) r.1
    ∙ ap (λ (n : ℕ). asks_class symbols asked.class n && asks_among (permissions_of symbols r.0.value) asked.perms mask) same
    ∙ ap (λ (b : Bool). asks_class symbols asked.class class && b) (mask_among symbols class (permissions_of symbols r.0.value) mask permissions asked.perms)
