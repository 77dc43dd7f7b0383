-- A class is read alike at all versions whose constraints have type sets, and at all others.
use Rattle.std.proofs.Common.{◌≡◌, ℕ, Bool, true, false, None, ap, ◌∙◌, ◌≤◌, ◌<◌, rules, arith}
use Rattle.std.specs.Prelude.{◌==◌, ◌&&◌, Option, List}
use Rattle.pol_fields.specs.declared.fields.TheConstants.{CLASS_NVALID, CLASS_DEFAULT_USER, CLASS_DEFAULT_ROLE, CLASS_DEFAULT_RANGE, CLASS_DEFAULT_TYPE, CONSTRAINT_PERMISSIONS, CONSTRAINT_NEXPR, CONSTRAINT_KIND, CONSTRAINT_ATTR, CONSTRAINT_OP}
use Rattle.pol_cursor.specs.Outcome.{Reader, ◌>>=◌, done}
use Rattle.pol_cursor.specs.Parts.{number, number_if, list_of, optional, records_at, counted}
use Rattle.pol_bitmap.specs.Bitmap.{bitmap_at}
use Rattle.pol_constraints.specs.declared.constraint_rec.ConstraintItem.{ConstraintItem}
use Rattle.pol_constraints.specs.declared.constraint_rec.ConstraintRec.{ConstraintRec}
use Rattle.pol_constraints.specs.declared.constraint_rec.TypeSet.{TypeSet}
use Rattle.pol_bitmap.specs.declared.node.Node.{Node}
use Rattle.pol_expr.specs.Postfix.{item_count_test}
use Rattle.pol_constraints.specs.ConstraintRecord.{has_names, kind_test, attr_test, op_test, type_set_at, sets_at, item_at, values_after_item, items_at, constraint_at}
use Rattle.pol_symtab.specs.Claims.{Claims}
use Rattle.pol_symtab.specs.SymbolTables.{Table, table_at}
use Rattle.pol_commons.specs.declared.common_rec.CommonRec.{CommonRec}
use Rattle.pol_commons.specs.CommonTable.{inherited_from}
use Rattle.pol_commons.specs.Permissions.{permissions_at}
use Rattle.pol_classes.specs.declared.class_rec.ClassRec.{ClassRec}
use Rattle.pol_classes.specs.ConstraintLists.{has_type_sets}
use Rattle.pol_classes.specs.ClassTables.{class_table_at, after_class, class_start}
use Rattle.pol_classes.specs.ClassRecord.{head_at, default_at, class_at}

module _ (v w : ℕ) (same : has_type_sets v ≡ has_type_sets w) where
  sets_alike : sets_at v ≡ sets_at w
  unfolding sets_at
  sets_alike =
      let of_versions : Bool → ℕ → Reader (Option (List Node) × Option TypeSet) = λ there kind.
      optional (has_names kind) (bitmap_at None) >>= λ names.
      optional (kind == 5 && there) type_set_at >>= λ type_set.
      done (names, type_set) in
      ap of_versions same

  item_alike : (xtarget : Bool) → item_at v xtarget ≡ item_at w xtarget
  unfolding item_at
  item_alike xtarget =
      let of_sets : (ℕ → Reader (Option (List Node) × Option TypeSet)) → ℕ → ℕ → Reader ConstraintItem = λ sets_at left values.
      number_if CONSTRAINT_KIND 4 (kind_test left values) >>= λ kind.
      number_if CONSTRAINT_ATTR 4 (attr_test xtarget kind) >>= λ attr.
      number_if CONSTRAINT_OP 4 (op_test kind) >>= λ op.
      sets_at kind >>= λ sets.
      done (record { kind = kind; attr = attr; op = op; names = sets.0; type_set = sets.1 }) in
      ap of_sets sets_alike

  constraint_alike : (xtarget : Bool) → constraint_at v xtarget ≡ constraint_at w xtarget
  unfolding constraint_at items_at
  constraint_alike xtarget =
      let of_items : (ℕ → ℕ → Reader ConstraintItem) → Reader ConstraintRec = λ item_at.
      number CONSTRAINT_PERMISSIONS 4 >>= λ permissions.
      number_if CONSTRAINT_NEXPR 4 item_count_test >>= λ count.
      list_of item_at values_after_item count 0 >>= λ items.
      done (record { permissions = permissions; items = items }) in
      ap of_items (item_alike xtarget)

  pub class_alike : class_at v ≡ class_at w
  unfolding class_at
  class_alike =
      let of_constraints : Reader ConstraintRec → Reader ConstraintRec → Claims → ℕ → Table CommonRec → Reader ClassRec = λ constraint_at transition_at taken nprim commons.
      head_at taken nprim commons >>= λ head.
      permissions_at (inherited_from commons head.common) head.nel >>= λ permissions.
      records_at constraint_at head.ncons >>= λ constraints.
      counted CLASS_NVALID (records_at transition_at) >>= λ validatetrans.
      default_at CLASS_DEFAULT_USER 2 >>= λ default_user.
      default_at CLASS_DEFAULT_ROLE 2 >>= λ default_role.
      default_at CLASS_DEFAULT_RANGE 7 >>= λ default_range.
      default_at CLASS_DEFAULT_TYPE 2 >>= λ default_type.
      done (record {
        name = head.name;
        common = head.common;
        value = head.value;
        nprim = head.nprim;
        permissions = permissions;
        constraints = constraints;
        validatetrans = validatetrans;
        default_user = default_user;
        default_role = default_role;
        default_range = default_range;
        default_type = default_type;
      }) in
      ap (λ (r : Reader ConstraintRec). of_constraints r (constraint_at v true)) (constraint_alike false) ∙ ap (of_constraints (constraint_at w false)) (constraint_alike true)

-- so is the table of classes
pub class_table_alike : (v w : ℕ) → has_type_sets v ≡ has_type_sets w → (commons : Table CommonRec) → class_table_at v commons ≡ class_table_at w commons
unfolding class_table_at
class_table_alike v w same commons =
    ap (λ (record_at : Claims → ℕ → Table CommonRec → Reader ClassRec). table_at (λ context. record_at context.table.taken context.table.nprim context.commons) after_class (class_start commons)) (class_alike v w same)

pub with_type_sets : (v : ℕ) → 29 ≤ v → has_type_sets v ≡ has_type_sets 29
with_type_sets v h = search (rules, arith)

pub without_type_sets : (v : ℕ) → v < 29 → has_type_sets v ≡ has_type_sets 28
without_type_sets v h = search (rules, arith)
