-- Constraints fit.
use Rattle.std.proofs.Common.{ℕ, ◌<◌, ◌^◌, None, refl, arith}
use Rattle.std.specs.Prelude.{IfSome}
use Rattle.std.proofs.lemmas.List.{length-append}
use Rattle.pol_fields.specs.declared.fields.TheConstants.{CONSTRAINT_FLAGS}
use Rattle.pol_cursor.proofs.Numbers.{length-bytes_of}
use Rattle.pol_bitmap.specs.Bitmap.{spell_bitmap, BitmapFits}
use Rattle.pol_constraints.specs.declared.TypeSet.{TypeSet}
use Rattle.pol_constraints.specs.declared.ConstraintItem.{ConstraintItem}
use Rattle.pol_constraints.specs.declared.ConstraintRec.{ConstraintRec}
use Rattle.pol_constraints.specs.ConstraintRecord.{has_names, has_type_set, spell_type_set, spell_item, spell_constraint, TypeSetFits, ItemFits, ConstraintFits}
use Rattle.pol_tree.specs.RecordShapes.{shape_of_item, shape_of_constraint}
use Rattle.pol_tree.specs.Inner.Fitting.{IsFitting, AreFitting}
use Rattle.pol_tree.proofs.FittingLists.{optional_fits}
use Rattle.pol_tree.proofs.Wrongs.{none_each}

pub type_set_fits : (set : TypeSet) → IsFitting (λ x. None) BitmapFits spell_bitmap set.types → IsFitting (λ x. None) BitmapFits spell_bitmap set.negated → set.flags < 2 ^ 32 → IsFitting (λ x. None) TypeSetFits spell_type_set set
type_set_fits set types negated flags = record {
  some = simp length-append (omega (arith, length-bytes_of 4 set.flags));
  fitting = λ right few.
      let each = simp length-append at few in
      record {
        types = types.fitting refl (simp length-append (omega (arith, each)));
        negated = negated.fitting refl (simp length-append (omega (arith, each)));
        flags = flags;
      };
}

pub item_fits : (version : ℕ) (item : ConstraintItem) → item.kind < 2 ^ 32 → item.attr < 2 ^ 32 → item.op < 2 ^ 32 → IfSome item.names (IsFitting (λ x. None) BitmapFits spell_bitmap)
    → IfSome item.type_set (IsFitting (λ x. None) TypeSetFits spell_type_set) → IsFitting (shape_of_item version) (ItemFits version) spell_item item
item_fits version item kind attr op names type_set = record {
  some = simp length-append (omega (arith, length-bytes_of 4 item.kind));
  fitting = λ right few.
      let each = simp length-append at few in
      let rights = none_each _ _ right in
      record {
        kind = kind;
        attr = attr;
        op = op;
        names = optional_fits BitmapFits spell_bitmap (has_names item.kind) item.names CONSTRAINT_FLAGS names rights.0 (omega (arith, each));
        type_set = optional_fits TypeSetFits spell_type_set (has_type_set version item.kind) item.type_set CONSTRAINT_FLAGS type_set (none_each _ _ rights.1).0 (omega (arith, each));
      };
}

pub constraint_fits : (version : ℕ) (constraint : ConstraintRec) → constraint.permissions < 2 ^ 32 → AreFitting (shape_of_item version) (ItemFits version) spell_item constraint.items
    → IsFitting (shape_of_constraint version) (ConstraintFits version) spell_constraint constraint
constraint_fits version constraint permissions items = record {
  some = simp length-append (omega (arith, length-bytes_of 4 constraint.permissions));
  fitting = λ right few.
      let each = simp length-append at few in
      let list = items.fitting right (omega (arith, each)) in
      record { permissions = permissions; count = list.count; items = list.items };
}
