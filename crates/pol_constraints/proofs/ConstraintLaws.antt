-- The two laws of a constraint.
use Rattle.std.proofs.Common.{◌≡◌, ℕ, Bool, Option, None, List, ◌++◌, length, append_assoc}
use Rattle.std.specs.List.{flat_map, AllByRecursion}
use Rattle.std.proofs.lemmas.List.{append-nil}
use Rattle.pol_fields.specs.declared.fields.TheConstants.{CONSTRAINT_PERMISSIONS, CONSTRAINT_NEXPR, CONSTRAINT_KIND, CONSTRAINT_ATTR, CONSTRAINT_OP, CONSTRAINT_FLAGS}
use Rattle.pol_cursor.specs.Parts.{spell_optional, OptionFits}
use Rattle.pol_bitmap.specs.declared.node.Node.{Node}
use Rattle.pol_bitmap.specs.Bitmap.{spell_bitmap, BitmapFits}
use Rattle.pol_cursor.specs.Laws.{Reads, Again, IsSpelling, IsReadAgain, IsReadFromSpelling}
use Rattle.pol_cursor.proofs.Laws.{Reads-done, Reads-part, Reads-list_of, Reads-number, Reads-number_if, Reads-optional, Again-done, Again-part, Again-as, Again-list_of, Again-number, Again-number_if, Again-optional}
use Rattle.pol_bitmap.proofs.Laws.{bitmap_spelled, bitmap_again}
use Rattle.pol_constraints.specs.declared.constraint_rec.ConstraintItem.{ConstraintItem}
use Rattle.pol_constraints.specs.declared.constraint_rec.TypeSet.{TypeSet}
use Rattle.pol_constraints.specs.ConstraintRecord.{has_names, has_type_set, type_set_at, sets_at, item_at, values_after_item, items_at, constraint_at, spell_type_set, spell_item, spell_constraint, TypeSetFits, ItemFits, ConstraintFits}

type_set_spelled : IsReadFromSpelling type_set_at spell_type_set TypeSetFits
unfolding type_set_at
type_set_spelled =
    Reads-part (bitmap_spelled None) λ types types-fits.
    Reads-part (bitmap_spelled None) λ negated negated-fits.
    Reads-part (Reads-number CONSTRAINT_FLAGS 4) λ flags flags-fits.
    Reads-done _ (record { types = types; negated = negated; flags = flags }) (record {
      same = simp (append_assoc, append-nil);
      fitting = record { types = types-fits; negated = negated-fits; flags = flags-fits };
    })

pub type_set_again : IsReadAgain type_set_at spell_type_set TypeSetFits
unfolding type_set_at
type_set_again set fits =
    Again-as
    (Again-part _ (bitmap_again None set.types fits.types)
    (Again-part _ (bitmap_again None set.negated fits.negated)
    (Again-part _ (Again-number CONSTRAINT_FLAGS 4 set.flags fits.flags)
    (Again-done set))))
    (simp (append_assoc, append-nil))

-- the names of an item and its type set
abbrev pub spell_sets : Option (List Node) × Option TypeSet → List ℕ
spell_sets sets = spell_optional spell_bitmap sets.0 ++ spell_optional spell_type_set sets.1

pub record SetsFit (version kind : ℕ) (sets : Option (List Node) × Option TypeSet) : Type 0 where
  pub names : OptionFits (has_names kind) BitmapFits sets.0
  pub type_set : OptionFits (has_type_set version kind) TypeSetFits sets.1

sets_spelled : (version kind : ℕ) → IsReadFromSpelling (sets_at version kind) spell_sets (SetsFit version kind)
unfolding sets_at
sets_spelled version kind =
    Reads-part (Reads-optional (has_names kind) (bitmap_spelled None)) λ names names-fits.
    Reads-part (Reads-optional (has_type_set version kind) type_set_spelled) λ type_set type_set-fits.
    Reads-done _ (names, type_set) (record {
      same = simp append-nil;
      fitting = record { names = names-fits; type_set = type_set-fits };
    })

pub sets_again : (version kind : ℕ) → IsReadAgain (sets_at version kind) spell_sets (SetsFit version kind)
unfolding sets_at
sets_again version kind sets fits =
    Again-as
    (Again-part _ (Again-optional (has_names kind) spell_bitmap BitmapFits sets.0 (bitmap_again None) fits.names)
    (Again-part _ (Again-optional (has_type_set version kind) spell_type_set TypeSetFits sets.1 type_set_again fits.type_set)
    (Again-done sets)))
    (simp append-nil)

module _ (version : ℕ) (xtarget : Bool) where
  item_spelled : (left values : ℕ) → IsReadFromSpelling (item_at version xtarget left values) spell_item (ItemFits version)
  unfolding item_at
  item_spelled left values =
      Reads-part (Reads-number_if CONSTRAINT_KIND 4) λ kind kind-fits.
      Reads-part (Reads-number_if CONSTRAINT_ATTR 4) λ attr attr-fits.
      Reads-part (Reads-number_if CONSTRAINT_OP 4) λ op op-fits.
      Reads-part (sets_spelled version kind) λ sets sets-fit.
      Reads-done _ (record { kind = kind; attr = attr; op = op; names = sets.0; type_set = sets.1 }) (record {
        same = simp (append_assoc, append-nil);
        fitting = record { kind = kind-fits.0; attr = attr-fits.0; op = op-fits.0; names = sets-fit.names; type_set = sets-fit.type_set };
      })

  pub item_again : (left values : ℕ) → IsReadAgain (item_at version xtarget left values) spell_item (ItemFits version)
  unfolding item_at
  item_again left values item fits =
      Again-as
      (Again-part _ (Again-number_if CONSTRAINT_KIND 4 item.kind _ fits.kind)
      (Again-part _ (Again-number_if CONSTRAINT_ATTR 4 item.attr _ fits.attr)
      (Again-part _ (Again-number_if CONSTRAINT_OP 4 item.op _ fits.op)
      (Again-part _ (sets_again version item.kind (item.names, item.type_set) (record { names = fits.names; type_set = fits.type_set }))
      (Again-done item)))))
      (simp (append_assoc, append-nil))

  items_spelled : (count : ℕ) → Reads (items_at version xtarget count) (IsSpelling (flat_map spell_item) (λ items. (length items ≡ count) × AllByRecursion (ItemFits version) items))
  unfolding items_at
  items_spelled count = Reads-list_of (item_at version xtarget) values_after_item spell_item (ItemFits version) item_spelled count 0

  items_again : (items : List ConstraintItem) → AllByRecursion (ItemFits version) items → Again (items_at version xtarget (length items)) items (flat_map spell_item items)
  unfolding items_at
  items_again items fits = Again-list_of (item_at version xtarget) values_after_item spell_item (ItemFits version) item_again items 0 fits

  -- The second law of a constraint.
  pub constraint_spelled : IsReadFromSpelling (constraint_at version xtarget) spell_constraint (ConstraintFits version)
  unfolding constraint_at
  constraint_spelled =
      Reads-part (Reads-number CONSTRAINT_PERMISSIONS 4) λ permissions permissions-fits.
      Reads-part (Reads-number_if CONSTRAINT_NEXPR 4) λ count count-fits.
      Reads-part (items_spelled count) λ items items-fits.
      Reads-done _ (record { permissions = permissions; items = items }) (record {
        same = rw (items-fits.0) (simp (append_assoc, append-nil));
        fitting = record { permissions = permissions-fits; count = rw (items-fits.0) count-fits.0; items = items-fits.1 };
      })

  -- The first law of a constraint.
  pub constraint_again : IsReadAgain (constraint_at version xtarget) spell_constraint (ConstraintFits version)
  unfolding constraint_at
  constraint_again constraint fits =
      Again-as
      (Again-part _ (Again-number CONSTRAINT_PERMISSIONS 4 constraint.permissions fits.permissions)
      (Again-part _ (Again-number_if CONSTRAINT_NEXPR 4 (length constraint.items) _ fits.count)
      (Again-part _ (items_again constraint.items fits.items)
      (Again-done constraint))))
      (simp (append_assoc, append-nil))
