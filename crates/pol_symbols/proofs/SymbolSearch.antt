-- What a table's look-ups find, as searches through its records.
use Rattle.std.proofs.Common.{◌≡◌, ℕ, ◌<◌, Bool, List, ◌++◌, Some, None, length, slice_get, refl, ◌∙◌}
use Rattle.std.specs.Prelude.{nat_eq}
use Rattle.std.specs.Str.{bytes_eq}
use Rattle.std.specs.List.{find, fold}
use Rattle.std.specs.Prelude.{bit_or}
use Rattle.std.proofs.lemmas.List.Folds.{find-append}
use Rattle.std.proofs.lemmas.List.Sums.{fold-append}
use Rattle.pol_cursor.specs.References.{Placed}
use Rattle.pol_symtab.proofs.Searches.{found_at, nothing_found}
use Rattle.pol_symtab.specs.SymbolTables.{declares, primary_index}
use Rattle.pol_commons.specs.declared.PermissionRec.{PermissionRec}
use Rattle.pol_commons.specs.Permissions.{of_name, of_value, mask_of, bit_of}

module _ {A : Type 0} (is_primary : A → Bool) (value_of : A → ℕ) (records : List (Placed A)) (value : ℕ) where
  pub primary_is_within : (i : ℕ) → primary_index is_primary value_of records value ≡ Some i → i < length records
  unfolding primary_index
  primary_is_within i e = (found_at (declares is_primary value_of value) records i e).0

  pub primary_found : (i : ℕ) (r : Placed A) → primary_index is_primary value_of records value ≡ Some i → slice_get records i ≡ Some r → find (declares is_primary value_of value) records ≡ Some r
  unfolding primary_index
  primary_found i r e at = (found_at (declares is_primary value_of value) records i e).1 ∙ at

  pub primary_missing : primary_index is_primary value_of records value ≡ None → find (declares is_primary value_of value) records ≡ None
  unfolding primary_index
  primary_missing e = nothing_found (declares is_primary value_of value) records e

-- ---- permissions of a class, and those of its common behind them

pub own_permission : (value : ℕ) (own inherited : List PermissionRec) (p : PermissionRec) → of_value value own ≡ Some p → of_value value (own ++ inherited) ≡ Some p
own_permission value own inherited p e = rw (find-append (λ (p : PermissionRec). nat_eq value p.value) own inherited, e) refl

pub other_permission : (value : ℕ) (own inherited : List PermissionRec) → of_value value own ≡ None → of_value value (own ++ inherited) ≡ of_value value inherited
other_permission value own inherited e = rw (find-append (λ (p : PermissionRec). nat_eq value p.value) own inherited, e) refl

pub own_named : (name : List ℕ) (own inherited : List PermissionRec) (p : PermissionRec) → of_name name own ≡ Some p → of_name name (own ++ inherited) ≡ Some p
own_named name own inherited p e = rw (find-append (λ (p : PermissionRec). bytes_eq name p.name) own inherited, e) refl

pub other_named : (name : List ℕ) (own inherited : List PermissionRec) → of_name name own ≡ None → of_name name (own ++ inherited) ≡ of_name name inherited
other_named name own inherited e = rw (find-append (λ (p : PermissionRec). bytes_eq name p.name) own inherited, e) refl

pub masks_together : (own inherited : List PermissionRec) → mask_of (own ++ inherited) ≡ fold (λ mask p. bit_or mask (bit_of p)) (mask_of own) inherited
masks_together own inherited = fold-append (λ (mask : ℕ) (p : PermissionRec). bit_or mask (bit_of p)) 0 own inherited
