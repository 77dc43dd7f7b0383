-- The classes of a policy that is made are read.
use Rattle.std.proofs.Common.{◌≡◌, ℕ, ◌^◌, ◌<◌, ◌≤◌, Bool, true, false, cond, Option, Some, None, List, [], ◌∷◌, length, refl, ap, ◌∙◌, append_assoc, arith}
use Rattle.std.specs.Prelude.{codes, option_map, unwrap_or, is_some}
use Rattle.std.specs.List.{find, flat_map, AllByRecursion}
use Rattle.std.specs.Str.{bytes_eq}
use Rattle.std.proofs.lemmas.Bool.{le-leb}
use Rattle.std.proofs.lemmas.List.{append-nil}
use Rattle.pol_fields.specs.declared.field.Field.{Field}
use Rattle.pol_fields.specs.declared.fields.TheConstants.{CLASS_LEN, CLASS_LEN2, CLASS_VALUE, CLASS_NPRIM, CLASS_NEL, CLASS_NCONS, CLASS_NAME, CLASS_COMMON, CLASS_NVALID, CLASS_DEFAULT_USER, CLASS_DEFAULT_ROLE, CLASS_DEFAULT_RANGE, CLASS_DEFAULT_TYPE, CONSTRAINT_PERMISSIONS, CONSTRAINT_NEXPR, CONSTRAINT_KIND, CONSTRAINT_ATTR, CONSTRAINT_OP}
use Rattle.pol_cursor.specs.References.{Placed, values_of}
use Rattle.pol_cursor.specs.Spelling.{bytes_of}
use Rattle.pol_symtab.specs.Claims.{Claims}
use Rattle.pol_symtab.specs.SymbolTables.{Table, has_the_name, spell_table, TableFits}
use Rattle.pol_commons.specs.declared.PermissionRec.{PermissionRec}
use Rattle.pol_commons.specs.declared.CommonRec.{CommonRec}
use Rattle.pol_commons.specs.PermissionRecord.{spell_permission}
use Rattle.pol_commons.specs.Permissions.{permissions_at}
use Rattle.pol_commons.specs.CommonTable.{common_named, inherited_from}
use Rattle.pol_constraints.specs.declared.ConstraintRec.{ConstraintRec}
use Rattle.pol_constraints.specs.ConstraintRecord.{sets_at, item_at, values_after_item, items_at, constraint_at, spell_item, spell_constraint, ConstraintFits}
use Rattle.pol_classes.specs.declared.ClassRec.{ClassRec}
use Rattle.pol_classes.specs.ConstraintLists.{constraints_at}
use Rattle.pol_classes.specs.ClassRecord.{common_test, common_name_at, head_at, head_of, spell_head, default_at, class_at, spell_class, ClassFits}
use Rattle.pol_classes.specs.ClassTables.{class_start, after_class, class_under, class_table_at}
use Rattle.pol_make.specs.MadeSymbols.{file_permissions, made_commons, process_permissions, same_user, process_constraints, permission, file_class, process_class, made_classes}
use Rattle.pol_moved.proofs.Granted.{GrantsOf, EachUnder, grants-done, grants-then, grants-as, grants-number, grants-number_if, grants-string_if, grants-none, grants-list_of, grants-records, grants-counted}
use Rattle.pol_make.proofs.GrantedTables.{GrantsBare, grants-table}
use Rattle.pol_make.proofs.GrantedSymbols.{MayStand, stands-so, grants-length, grants-name, new_value-stands}
use Rattle.pol_make.proofs.GrantedFew.{permissions_stand, permissions-granted, permissions-fit}

-- ---- the constraint

sets-granted : GrantsOf (sets_at 31 4) (None, None) []
unfolding sets_at
sets-granted = grants-then _ (grants-none _) (grants-then _ (grants-none _) (grants-done (None, None) refl))

item-granted : GrantsOf (item_at 31 false 0 0) same_user (spell_item same_user)
unfolding item_at
item-granted =
    grants-as
    (grants-then _ (grants-number_if CONSTRAINT_KIND 4 4 _ (omega arith) refl)
    (grants-then _ (grants-number_if CONSTRAINT_ATTR 4 1 _ (omega arith) refl)
    (grants-then _ (grants-number_if CONSTRAINT_OP 4 1 _ (omega arith) refl)
    (grants-then _ sets-granted
    (grants-done same_user refl)))))
    (simp (append_assoc, append-nil))

-- u1 == u2 of the first permission
abbrev transition_constraint : ConstraintRec
transition_constraint = record { permissions = 1; items = same_user ∷ [] }

items-granted : GrantsOf (items_at 31 false 1) (same_user ∷ []) (flat_map spell_item (same_user ∷ []))
unfolding items_at
items-granted =
    grants-list_of (item_at 31 false) values_after_item spell_item (λ left values item. GrantsOf (item_at 31 false left values) item (spell_item item)) (λ left values item may. may) (same_user ∷ []) 0 (item-granted, tt)

constraint-granted : GrantsOf (constraint_at 31 false) transition_constraint (spell_constraint transition_constraint)
unfolding constraint_at
constraint-granted =
    grants-as
    (grants-then _ (grants-number CONSTRAINT_PERMISSIONS 4 1 (omega arith))
    (grants-then _ (grants-number_if CONSTRAINT_NEXPR 4 1 _ (omega arith) refl)
    (grants-then _ items-granted
    (grants-done transition_constraint refl))))
    (simp (append_assoc, append-nil))

constraint-fits : ConstraintFits 31 transition_constraint
constraint-fits = record { permissions = omega arith; count = omega arith; items = (record { kind = omega arith; attr = omega arith; op = omega arith; names = refl; type_set = refl }, tt) }

-- constraints each of which is granted
abbrev AreGranted : Bool → List ConstraintRec → Type 0
AreGranted xtarget constraints = AllByRecursion (λ constraint. GrantsOf (constraint_at 31 xtarget) constraint (spell_constraint constraint)) constraints

constraints-granted : (xtarget : Bool) (constraints : List ConstraintRec) → AreGranted xtarget constraints → GrantsOf (constraints_at 31 xtarget (length constraints)) constraints (flat_map spell_constraint constraints)
constraints-granted xtarget constraints each =
    grants-records (constraint_at 31 xtarget) spell_constraint (λ constraint. GrantsOf (constraint_at 31 xtarget) constraint (spell_constraint constraint)) (λ constraint may. may) constraints each

-- ---- what a class inherits

-- the first common of the name
abbrev first_named : List ℕ → List CommonRec → Option CommonRec
first_named name commons = find (λ common. bytes_eq common.name name) commons

find-value : (name : List ℕ) (records : List (Placed CommonRec)) → option_map (λ r. r.value) (find (has_the_name (λ common. common.name) name) records) ≡ first_named name (values_of records)
find-value name [] = refl
find-value name (r ∷ rs) = go (bytes_eq r.value.name name) (find (has_the_name (λ common. common.name) name) rs) (first_named name (values_of rs)) (find-value name rs)
  where
    go : (here : Bool) (found : Option (Placed CommonRec)) (other : Option CommonRec) → option_map (λ r. r.value) found ≡ other → option_map (λ r. r.value) (cond here (Some r) found) ≡ cond here (Some r.value) other
    go true found other e = refl
    go false found other e = e

-- whether there is one, and its permissions
abbrev has_first : Option CommonRec → Bool
has_first found = is_some found

abbrev permissions_of : Option CommonRec → List PermissionRec
permissions_of found = unwrap_or (option_map (λ common. common.permissions) found) []

named-there : (found : Option (Placed CommonRec)) → is_some found ≡ has_first (option_map (λ r. r.value) found)
named-there None = refl
named-there (Some r) = refl

named-permissions : (found : Option (Placed CommonRec)) → unwrap_or (option_map (λ common. common.value.permissions) found) [] ≡ permissions_of (option_map (λ r. r.value) found)
named-permissions None = refl
named-permissions (Some r) = refl

-- the commons of the policy stand in the table
abbrev pub IsTheTable : Table CommonRec → Type 0
IsTheTable commons = values_of commons.records ≡ made_commons

inherits : (commons : Table CommonRec) → IsTheTable commons → (name : List ℕ) → inherited_from commons name ≡ permissions_of (first_named name made_commons)
inherits commons are name = named-permissions (common_named commons name) ∙ ap permissions_of (find-value name commons.records ∙ ap (first_named name) are)

is_common : (commons : Table CommonRec) → IsTheTable commons → (name : List ℕ) → is_some (common_named commons name) ≡ has_first (first_named name made_commons)
is_common commons are name = named-there (common_named commons name) ∙ ap has_first (find-value name commons.records ∙ ap (first_named name) are)

-- ---- a class

-- what no condition refuses of a class that inherits these permissions
record ClassMay (commons : Table CommonRec) (claims : Claims) (nprim : ℕ) (inherited : List PermissionRec) (class : ClassRec) : Type 0 where
  fits : ClassFits 31 class
  may : MayStand claims nprim class.name class.value
  few : class.nprim ≤ 32
  common : common_test commons class.common ≡ None
  inherits : inherited_from commons class.common ≡ inherited
  permissions : permissions_stand inherited [] class.permissions ≡ true
  constraints : AreGranted false class.constraints
  validatetrans : AreGranted true class.validatetrans
  default_user : class.default_user ≤ 2
  default_role : class.default_role ≤ 2
  default_range : class.default_range ≤ 7
  default_type : class.default_type ≤ 2

head-granted : (commons : Table CommonRec) (claims : Claims) (nprim : ℕ) (inherited : List PermissionRec) (class : ClassRec) → ClassMay commons claims nprim inherited class → GrantsOf (head_at claims nprim commons) (head_of class) (spell_head (head_of class))
unfolding head_at common_name_at
head-granted commons claims nprim inherited class h =
    let fits = h.fits.head in
    grants-as
    (grants-then _ (grants-length CLASS_LEN (length class.name) h.may.is_name.some fits.len)
    (grants-then _ (grants-number CLASS_LEN2 4 (length class.common) fits.common_len)
    (grants-then _ (grants-number_if CLASS_VALUE 4 class.value _ fits.value (new_value-stands claims nprim class.value h.may.least h.may.most h.may.value_is_new))
    (grants-then _ (grants-number_if CLASS_NPRIM 4 class.nprim _ fits.nprim (rw (le-leb class.nprim 32 h.few) refl))
    (grants-then _ (grants-number CLASS_NEL 4 (length class.permissions) fits.nel)
    (grants-then _ (grants-number CLASS_NCONS 4 (length class.constraints) fits.ncons)
    (grants-then _ (grants-name CLASS_NAME claims class.name h.may.is_name h.may.name_is_new)
    (grants-then _ (grants-string_if CLASS_COMMON class.common _ h.common)
    (grants-done (head_of class) refl)))))))))
    (simp (append_assoc, append-nil))

default-granted : (field : Field) (most default : ℕ) → default < 2 ^ 32 → default ≤ most → GrantsOf (default_at field most) default (bytes_of 4 default)
unfolding default_at
default-granted field most default fits few = grants-number_if field 4 default _ fits (rw (le-leb default most few) refl)

class-granted : (commons : Table CommonRec) (claims : Claims) (nprim : ℕ) (inherited : List PermissionRec) (class : ClassRec) → ClassMay commons claims nprim inherited class → GrantsOf (class_at 31 claims nprim commons) class (spell_class class)
unfolding class_at
class-granted commons claims nprim inherited class h =
    let permissions : GrantsOf (permissions_at (inherited_from commons class.common) (length class.permissions)) class.permissions (flat_map spell_permission class.permissions) = rw h.inherits (permissions-granted inherited class.permissions h.permissions) in
    grants-as
    (grants-then _ (head-granted commons claims nprim inherited class h)
    (grants-then _ permissions
    (grants-then _ (constraints-granted false class.constraints h.constraints)
    (grants-then _ (grants-counted CLASS_NVALID (constraints_at 31 true) spell_constraint class.validatetrans h.fits.validatetrans.count (constraints-granted true class.validatetrans h.validatetrans))
    (grants-then _ (default-granted CLASS_DEFAULT_USER 2 class.default_user h.fits.default_user h.default_user)
    (grants-then _ (default-granted CLASS_DEFAULT_ROLE 2 class.default_role h.fits.default_role h.default_role)
    (grants-then _ (default-granted CLASS_DEFAULT_RANGE 7 class.default_range h.fits.default_range h.default_range)
    (grants-then _ (default-granted CLASS_DEFAULT_TYPE 2 class.default_type h.fits.default_type h.default_type)
    (grants-done class refl)))))))))
    (simp (append_assoc, append-nil))

-- ---- the three classes

-- the classes of files inherit these
files-inherit : (commons : Table CommonRec) → IsTheTable commons → inherited_from commons (codes "file") ≡ file_permissions
unfolding made_commons
files-inherit commons are = inherits commons are (codes "file")

file-is_common : (commons : Table CommonRec) → IsTheTable commons → common_test commons (codes "file") ≡ None
unfolding made_commons
file-is_common commons are = rw (is_common commons are (codes "file")) refl

processes-inherit : (commons : Table CommonRec) → IsTheTable commons → inherited_from commons [] ≡ []
unfolding made_commons
processes-inherit commons are = inherits commons are []

-- a permission of its own may stand beside those
entrypoint-stands : permissions_stand file_permissions [] (permission (codes "entrypoint") 7 ∷ []) ≡ true
unfolding file_permissions
entrypoint-stands = refl

search-stands : permissions_stand file_permissions [] (permission (codes "search") 7 ∷ []) ≡ true
unfolding file_permissions
search-stands = refl

processes-stand : permissions_stand [] [] process_permissions ≡ true
unfolding process_permissions
processes-stand = refl

length-process : length process_permissions ≡ 5
unfolding process_permissions
length-process = refl

file_class-fits : (name own : List ℕ) (value : ℕ) → length name < 2 ^ 32 → value < 2 ^ 32 → permissions_stand file_permissions [] (permission own 7 ∷ []) ≡ true → ClassFits 31 (file_class name value own)
file_class-fits name own value short fits stands = record {
  head = record { len = short; common_len = omega arith; value = fits; nprim = omega arith; nel = omega arith; ncons = omega arith };
  permissions = permissions-fit file_permissions (permission own 7 ∷ []) stands;
  constraints = tt;
  validatetrans = record { count = omega arith; items = tt };
  default_user = omega arith;
  default_role = omega arith;
  default_range = omega arith;
  default_type = omega arith;
}

file_class-granted : (commons : Table CommonRec) → IsTheTable commons → (claims : Claims) (name own : List ℕ) (value : ℕ) → ClassFits 31 (file_class name value own) → MayStand claims 3 name value → permissions_stand file_permissions [] (permission own 7 ∷ []) ≡ true
    → GrantsOf (class_at 31 claims 3 commons) (file_class name value own) (spell_class (file_class name value own))
file_class-granted commons are claims name own value fits may stands =
    class-granted commons claims 3 file_permissions (file_class name value own) (record {
      fits = fits;
      may = may;
      few = omega arith;
      common = file-is_common commons are;
      inherits = files-inherit commons are;
      permissions = stands;
      constraints = tt;
      validatetrans = tt;
      default_user = omega arith;
      default_role = omega arith;
      default_range = omega arith;
      default_type = omega arith;
    })

process_class-fits : ClassFits 31 process_class
unfolding process_constraints
process_class-fits = record {
  head = record { len = omega arith; common_len = omega arith; value = omega arith; nprim = omega arith; nel = omega (arith, length-process); ncons = omega arith };
  permissions = permissions-fit [] process_permissions processes-stand;
  constraints = (constraint-fits, tt);
  validatetrans = record { count = omega arith; items = tt };
  default_user = omega arith;
  default_role = omega arith;
  default_range = omega arith;
  default_type = omega arith;
}

process_class-granted : (commons : Table CommonRec) → IsTheTable commons → (claims : Claims) → MayStand claims 3 (codes "process") 3 → GrantsOf (class_at 31 claims 3 commons) process_class (spell_class process_class)
unfolding process_constraints
process_class-granted commons are claims may =
    class-granted commons claims 3 [] process_class (record {
      fits = process_class-fits;
      may = may;
      few = omega arith;
      common = refl;
      inherits = processes-inherit commons are;
      permissions = processes-stand;
      constraints = (constraint-granted, tt);
      validatetrans = tt;
      default_user = omega arith;
      default_role = omega arith;
      default_range = omega arith;
      default_type = omega arith;
    })

classes-are : AllByRecursion (ClassFits 31) made_classes
unfolding made_classes
classes-are = (
  file_class-fits (codes "file") (codes "entrypoint") 1 (omega arith) (omega arith) entrypoint-stands,
  (file_class-fits (codes "dir") (codes "search") 2 (omega arith) (omega arith) search-stands, (process_class-fits, tt)),
)

length-classes : length made_classes ≡ 3
unfolding made_classes
length-classes = refl

pub classes-fit : TableFits (ClassFits 31) (record { nprim = 3; records = made_classes })
classes-fit = record { nprim = omega arith; nel = omega (arith, length-classes); records = classes-are }

classes-stand : (commons : Table CommonRec) → IsTheTable commons → EachUnder (λ left context class. GrantsOf (class_under 31 context) class (spell_class class)) after_class (class_start commons 3) made_classes
unfolding made_classes
classes-stand commons are =
    let fit = classes-are in (
      file_class-granted commons are _ (codes "file") (codes "entrypoint") 1 fit.0 (stands-so _ 3 (codes "file") 1 refl) entrypoint-stands,
      (
        file_class-granted commons are _ (codes "dir") (codes "search") 2 fit.1.0 (stands-so _ 3 (codes "dir") 2 refl) search-stands,
        (process_class-granted commons are _ (stands-so _ 3 (codes "process") 3 refl), tt),
      ),
    )

pub classes-granted : (commons : Table CommonRec) → IsTheTable commons → GrantsBare (class_table_at 31 commons) (record { nprim = 3; records = made_classes }) (spell_table spell_class (record { nprim = 3; records = made_classes }))
unfolding class_table_at
classes-granted commons are =
    grants-table (class_under 31) after_class (class_start commons) spell_class (λ left context class. GrantsOf (class_under 31 context) class (spell_class class)) (λ left context class may. may)
    (record { nprim = 3; records = made_classes }) (omega arith) (omega (arith, length-classes)) (classes-stand commons are)
