-- What permissions have taken.
use Rattle.std.proofs.Common.{◌≡◌, ℕ, Bool, ◌||◌, List, [], ◌∷◌, refl, ap}
use Rattle.std.specs.Prelude.{map, nat_eq, bytes_eq}
use Rattle.std.specs.List.{list_any}
use Rattle.pol_commons.specs.declared.permission_rec.PermissionRec.{PermissionRec}
use Rattle.pol_symtab.specs.Claims.{has_name, has_value}
use Rattle.pol_commons.specs.PermissionRecord.{claims_of}

any_map : {A B : Type 0} (f : A → B) (test : B → Bool) (xs : List A) → list_any test (map f xs) ≡ list_any (λ x. test (f x)) xs
any_map f test [] = refl
any_map f test (x ∷ xs) = ap (λ (b : Bool). test (f x) || b) (any_map f test xs)

pub has_name_of : (permissions : List PermissionRec) (name : List ℕ) → has_name (claims_of permissions) name ≡ list_any (λ p. bytes_eq name p.name) permissions
has_name_of permissions name = any_map (λ (p : PermissionRec). p.name) (bytes_eq name) permissions

pub has_value_of : (permissions : List PermissionRec) (value : ℕ) → has_value (claims_of permissions) value ≡ list_any (λ p. nat_eq value p.value) permissions
has_value_of permissions value = any_map (λ (p : PermissionRec). p.value) (nat_eq value) permissions
