-- The two laws of classes.
use Rattle.std.proofs.Common.{ℕ, true, false, length, append_assoc}
use Rattle.std.proofs.lemmas.List.{append-nil}
use Rattle.pol_fields.specs.declared.fields.TheConstants.{CLASS_LEN, CLASS_LEN2, CLASS_VALUE, CLASS_NPRIM, CLASS_NEL, CLASS_NCONS, CLASS_NAME, CLASS_COMMON, CLASS_NVALID, CLASS_DEFAULT_USER, CLASS_DEFAULT_ROLE, CLASS_DEFAULT_RANGE, CLASS_DEFAULT_TYPE}
use Rattle.pol_cursor.specs.Laws.{IsReadAgain, IsReadFromSpelling}
use Rattle.pol_cursor.proofs.Laws.{Reads-part, Reads-done, Reads-number, Reads-number_if, Reads-string_if, Again-part, Again-done, Again-as, Again-number, Again-number_if, Again-string_if, records_spelled, records_again, counted_spelled, counted_again}
use Rattle.pol_symtab.specs.Claims.{Claims}
use Rattle.pol_symtab.specs.SymbolTables.{Table}
use Rattle.pol_symtab.proofs.SymbolFieldLaws.{Reads-symbol_length, Reads-symbol_name, Again-symbol_length, Again-symbol_name}
use Rattle.pol_commons.specs.declared.common_rec.CommonRec.{CommonRec}
use Rattle.pol_commons.specs.CommonTable.{inherited_from}
use Rattle.pol_commons.proofs.CommonLaws.{permissions_spelled, permissions_again}
use Rattle.pol_constraints.specs.ConstraintRecord.{constraint_at, spell_constraint, ConstraintFits}
use Rattle.pol_constraints.proofs.ConstraintLaws.{constraint_spelled, constraint_again}
use Rattle.pol_classes.specs.ConstraintLists.{constraints_at}
use Rattle.pol_classes.specs.ClassRecord.{common_name_at, head_at, spell_head, HeadFits, default_at, class_at, head_of, spell_class, ClassFits}

head_spelled : (taken : Claims) (nprim : ℕ) (commons : Table CommonRec) → IsReadFromSpelling (head_at taken nprim commons) spell_head HeadFits
unfolding head_at common_name_at
head_spelled taken nprim commons =
    Reads-part (Reads-symbol_length CLASS_LEN) λ len len-fits.
    Reads-part (Reads-number CLASS_LEN2 4) λ common_len common_len-fits.
    Reads-part (Reads-number_if CLASS_VALUE 4) λ value value-fits.
    Reads-part (Reads-number_if CLASS_NPRIM 4) λ own_nprim nprim-fits.
    Reads-part (Reads-number CLASS_NEL 4) λ nel nel-fits.
    Reads-part (Reads-number CLASS_NCONS 4) λ ncons ncons-fits.
    Reads-part (Reads-symbol_name CLASS_NAME taken len) λ name name-fits.
    Reads-part (Reads-string_if CLASS_COMMON common_len) λ common common-fits.
    Reads-done _ (record { name = name; common = common; value = value; nprim = own_nprim; nel = nel; ncons = ncons }) (record {
      same = rw (name-fits.0, common-fits.0) (simp (append_assoc, append-nil));
      fitting = record {
        len = rw (name-fits.0) len-fits.0;
        common_len = rw (common-fits.0) common_len-fits;
        value = value-fits.0;
        nprim = nprim-fits.0;
        nel = nel-fits;
        ncons = ncons-fits;
      };
    })

pub head_again : (taken : Claims) (nprim : ℕ) (commons : Table CommonRec) → IsReadAgain (head_at taken nprim commons) spell_head HeadFits
unfolding head_at common_name_at
head_again taken nprim commons head fits =
    Again-as
    (Again-part _ (Again-symbol_length CLASS_LEN (length head.name) fits.len)
    (Again-part _ (Again-number CLASS_LEN2 4 (length head.common) fits.common_len)
    (Again-part _ (Again-number_if CLASS_VALUE 4 head.value _ fits.value)
    (Again-part _ (Again-number_if CLASS_NPRIM 4 head.nprim _ fits.nprim)
    (Again-part _ (Again-number CLASS_NEL 4 head.nel fits.nel)
    (Again-part _ (Again-number CLASS_NCONS 4 head.ncons fits.ncons)
    (Again-part _ (Again-symbol_name CLASS_NAME taken head.name)
    (Again-part _ (Again-string_if CLASS_COMMON head.common _)
    (Again-done head)))))))))
    (simp (append_assoc, append-nil))

pub class_spelled : (version : ℕ) (taken : Claims) (nprim : ℕ) (commons : Table CommonRec) → IsReadFromSpelling (class_at version taken nprim commons) spell_class (ClassFits version)
unfolding class_at default_at
class_spelled version taken nprim commons =
    Reads-part (head_spelled taken nprim commons) λ head head-fits.
    Reads-part (permissions_spelled (inherited_from commons head.common) head.nel) λ permissions permissions-fit.
    Reads-part (records_spelled (constraint_at version false) spell_constraint (ConstraintFits version) (constraint_spelled version false) head.ncons) λ constraints constraints-fit.
    Reads-part (counted_spelled CLASS_NVALID (constraints_at version true) spell_constraint (ConstraintFits version) (records_spelled (constraint_at version true) spell_constraint (ConstraintFits version) (constraint_spelled version true))) λ validatetrans validatetrans-fit.
    Reads-part (Reads-number_if CLASS_DEFAULT_USER 4) λ default_user user-fits.
    Reads-part (Reads-number_if CLASS_DEFAULT_ROLE 4) λ default_role role-fits.
    Reads-part (Reads-number_if CLASS_DEFAULT_RANGE 4) λ default_range range-fits.
    Reads-part (Reads-number_if CLASS_DEFAULT_TYPE 4) λ default_type type-fits.
    Reads-done _ (record {
      name = head.name;
      common = head.common;
      value = head.value;
      nprim = head.nprim;
      permissions = permissions;
      constraints = constraints;
      validatetrans = validatetrans;
      default_user = default_user;
      default_role = default_role;
      default_range = default_range;
      default_type = default_type;
    }) (record {
      same = rw (permissions-fit.0, constraints-fit.0) (simp (append_assoc, append-nil));
      fitting = record {
        head = rw (permissions-fit.0, constraints-fit.0) head-fits;
        permissions = permissions-fit.1;
        constraints = constraints-fit.1;
        validatetrans = validatetrans-fit;
        default_user = user-fits.0;
        default_role = role-fits.0;
        default_range = range-fits.0;
        default_type = type-fits.0;
      };
    })

pub class_again : (version : ℕ) (taken : Claims) (nprim : ℕ) (commons : Table CommonRec) → IsReadAgain (class_at version taken nprim commons) spell_class (ClassFits version)
unfolding class_at default_at
class_again version taken nprim commons class fits =
    Again-as
    (Again-part _ (head_again taken nprim commons (head_of class) fits.head)
    (Again-part _ (permissions_again (inherited_from commons class.common) class.permissions fits.permissions)
    (Again-part _ (records_again (constraint_at version false) spell_constraint (ConstraintFits version) (constraint_again version false) class.constraints fits.constraints)
    (Again-part _ (counted_again CLASS_NVALID (constraints_at version true) spell_constraint (ConstraintFits version) (records_again (constraint_at version true) spell_constraint (ConstraintFits version) (constraint_again version true)) class.validatetrans fits.validatetrans)
    (Again-part _ (Again-number_if CLASS_DEFAULT_USER 4 class.default_user _ fits.default_user)
    (Again-part _ (Again-number_if CLASS_DEFAULT_ROLE 4 class.default_role _ fits.default_role)
    (Again-part _ (Again-number_if CLASS_DEFAULT_RANGE 4 class.default_range _ fits.default_range)
    (Again-part _ (Again-number_if CLASS_DEFAULT_TYPE 4 class.default_type _ fits.default_type)
    (Again-done class)))))))))
    (simp (append_assoc, append-nil))
