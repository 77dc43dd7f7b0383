-- The two laws of permissions, of lists of them, and of commons.
use Rattle.std.proofs.Common.{◌≡◌, ℕ, List, [], length, append_assoc}
use Rattle.std.specs.List.{flat_map, AllByRecursion}
use Rattle.std.proofs.lemmas.List.{append-nil}
use Rattle.pol_fields.specs.declared.fields.TheConstants.{PERMISSION_LEN, PERMISSION_VALUE, PERMISSION_NAME, COMMON_LEN, COMMON_VALUE, COMMON_NPRIM, COMMON_NEL, COMMON_NAME}
use Rattle.pol_cursor.specs.Laws.{Reads, Again, IsSpelling, IsReadAgain, IsReadFromSpelling}
use Rattle.pol_cursor.proofs.Laws.{Reads-part, Reads-done, Reads-number, Reads-number_if, Reads-list_of, Again-part, Again-done, Again-as, Again-number, Again-number_if, Again-list_of}
use Rattle.pol_symtab.specs.Claims.{Claims}
use Rattle.pol_symtab.proofs.SymbolFieldLaws.{Reads-symbol_length, Reads-symbol_name, Again-symbol_length, Again-symbol_name}
use Rattle.pol_commons.specs.declared.permission_rec.PermissionRec.{PermissionRec}
use Rattle.pol_commons.specs.PermissionRecord.{claims_before, permission_value_at, permission_at, spell_permission, PermissionFits}
use Rattle.pol_commons.specs.Permissions.{with_permission, permissions_at}
use Rattle.pol_commons.specs.CommonRecord.{common_at, spell_common, CommonFits}

-- ---- permissions

pub permission_spelled : (listed inherited : List PermissionRec) → IsReadFromSpelling (permission_at listed inherited) spell_permission PermissionFits
unfolding permission_at permission_value_at
permission_spelled listed inherited =
    Reads-part (Reads-symbol_length PERMISSION_LEN) λ len len-fits.
    Reads-part (Reads-number_if PERMISSION_VALUE 4) λ value value-fits.
    Reads-part (Reads-symbol_name PERMISSION_NAME (claims_before listed inherited) len) λ name name-fits.
    Reads-done _ (record { name = name; value = value }) (record {
      same = rw (name-fits.0) (simp (append_assoc, append-nil));
      fitting = record { len = rw (name-fits.0) len-fits.0; value = value-fits.0 };
    })

pub permission_again : (listed inherited : List PermissionRec) → IsReadAgain (permission_at listed inherited) spell_permission PermissionFits
unfolding permission_at permission_value_at
permission_again listed inherited permission fits =
    Again-as
    (Again-part _ (Again-symbol_length PERMISSION_LEN (length permission.name) fits.len)
    (Again-part _ (Again-number_if PERMISSION_VALUE 4 permission.value _ fits.value)
    (Again-part _ (Again-symbol_name PERMISSION_NAME (claims_before listed inherited) permission.name)
    (Again-done permission))))
    (simp (append_assoc, append-nil))

-- ---- lists of permissions

pub permissions_spelled : (inherited : List PermissionRec) (n : ℕ) → Reads (permissions_at inherited n) (IsSpelling (flat_map spell_permission) (λ permissions. (length permissions ≡ n) × AllByRecursion PermissionFits permissions))
unfolding permissions_at
permissions_spelled inherited n = Reads-list_of (λ left listed. permission_at listed inherited) with_permission spell_permission PermissionFits (λ left listed. permission_spelled listed inherited) n []

pub permissions_again : (inherited permissions : List PermissionRec) → AllByRecursion PermissionFits permissions → Again (permissions_at inherited (length permissions)) permissions (flat_map spell_permission permissions)
unfolding permissions_at
permissions_again inherited permissions fit = Again-list_of (λ left listed. permission_at listed inherited) with_permission spell_permission PermissionFits (λ left listed. permission_again listed inherited) permissions [] fit

-- ---- commons

pub common_spelled : (taken : Claims) (nprim : ℕ) → IsReadFromSpelling (common_at taken nprim) spell_common CommonFits
unfolding common_at
common_spelled taken nprim =
    Reads-part (Reads-symbol_length COMMON_LEN) λ len len-fits.
    Reads-part (Reads-number_if COMMON_VALUE 4) λ value value-fits.
    Reads-part (Reads-number_if COMMON_NPRIM 4) λ own_nprim nprim-fits.
    Reads-part (Reads-number COMMON_NEL 4) λ count count-fits.
    Reads-part (Reads-symbol_name COMMON_NAME taken len) λ name name-fits.
    Reads-part (permissions_spelled [] count) λ permissions permissions-fit.
    Reads-done _ (record { name = name; value = value; nprim = own_nprim; permissions = permissions }) (record {
      same = rw (name-fits.0, permissions-fit.0) (simp (append_assoc, append-nil));
      fitting = record {
        len = rw (name-fits.0) len-fits.0;
        value = value-fits.0;
        nprim = nprim-fits.0;
        count = rw (permissions-fit.0) count-fits;
        permissions = permissions-fit.1;
      };
    })

pub common_again : (taken : Claims) (nprim : ℕ) → IsReadAgain (common_at taken nprim) spell_common CommonFits
unfolding common_at
common_again taken nprim common fits =
    Again-as
    (Again-part _ (Again-symbol_length COMMON_LEN (length common.name) fits.len)
    (Again-part _ (Again-number_if COMMON_VALUE 4 common.value _ fits.value)
    (Again-part _ (Again-number_if COMMON_NPRIM 4 common.nprim _ fits.nprim)
    (Again-part _ (Again-number COMMON_NEL 4 (length common.permissions) fits.count)
    (Again-part _ (Again-symbol_name COMMON_NAME taken common.name)
    (Again-part _ (permissions_again [] common.permissions fits.permissions)
    (Again-done common)))))))
    (simp (append_assoc, append-nil))
