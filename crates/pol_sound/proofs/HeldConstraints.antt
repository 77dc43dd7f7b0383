-- Constraints that were read at a version are read at another one, with the type sets that this one has.
use Rattle.std.proofs.Common.{◌≡◌, ℕ, Bool, true, false, Option, Some, None, List, [], ◌++◌, length, refl, ap, subst, append_assoc, if◌then◌else◌, arith}
use Rattle.std.specs.Prelude.{map}
use Rattle.std.specs.List.{flat_map, AllByRecursion}
use Rattle.std.proofs.lemmas.List.{append-nil, length-map}
use Rattle.pol_fields.specs.declared.fields.TheConstants.{CONSTRAINT_PERMISSIONS, CONSTRAINT_NEXPR, CONSTRAINT_KIND, CONSTRAINT_ATTR, CONSTRAINT_OP, CONSTRAINT_FLAGS}
use Rattle.pol_cursor.specs.Parts.{number, optional, spell_optional, OptionFits, records_at}
use Rattle.pol_cursor.specs.Spelling.{bytes_of}
use Rattle.pol_cursor.proofs.Laws.{Again-number, Again-number_if, Again-optional}
use Rattle.pol_bitmap.specs.declared.Node.{Node}
use Rattle.pol_bitmap.specs.Bitmap.{bitmap_at, spell_bitmap, BitmapFits}
use Rattle.pol_bitmap.proofs.Laws.{bitmap_again}
use Rattle.pol_expr.specs.Postfix.{item_count_test}
use Rattle.pol_constraints.specs.declared.ConstraintItem.{ConstraintItem}
use Rattle.pol_constraints.specs.declared.ConstraintRec.{ConstraintRec}
use Rattle.pol_constraints.specs.declared.TypeSet.{TypeSet}
use Rattle.pol_constraints.specs.ConstraintRecord as read
use Rattle.pol_constraints.specs.ConstraintRecord.{kind_test, attr_test, op_test, has_names, has_type_set, type_set_at, sets_at, values_after_item, items_at, spell_type_set, spell_item, spell_constraint, TypeSetFits, ItemFits, ConstraintFits}
use Rattle.pol_constraints.proofs.ConstraintLaws.{constraint_again, item_again}
use Rattle.pol_classes.specs.ConstraintLists.{constraints_at}
use Rattle.pol_versions.specs.Conversion.{type_set_of, item_at, constraint_at}
use Rattle.pol_moved.proofs.Granted.{GrantsOf, grants-done, grants-then, grants-as, grants-number, grants-number_if, grants-some, grants-none}
use Rattle.pol_moved.proofs.GrantedBitmaps.{grants-set}
use Rattle.pol_moved.proofs.Moves.{moves-optional}
use Rattle.pol_moved.proofs.MovesSymbols.{moves-bitmap}
use Rattle.pol_moved.proofs.Stood.{Stood, stood-as, stood-part, stood-checked, stood-whole, stood-list_of, stood-records, each-other, grants-each, grants-moved}

-- ---- type sets

type_set-granted : (set : TypeSet) → TypeSetFits set → Stood type_set_at set (spell_type_set set) → GrantsOf type_set_at set (spell_type_set set)
unfolding type_set_at
type_set-granted set fits stood =
    let flags_text = bytes_of 4 set.flags in
    let negated_text = spell_bitmap set.negated ++ flags_text in
    let there = stood-as {t = spell_bitmap set.types ++ negated_text} stood (simp append_assoc) in
    let types = stood-part _ negated_text (bitmap_again None set.types fits.types) there in
    let negated = stood-part _ flags_text (bitmap_again None set.negated fits.negated) types.others in
    grants-as
    (grants-then _ (grants-moved (moves-bitmap None) (bitmap_again None set.types fits.types) types.first)
    (grants-then _ (grants-moved (moves-bitmap None) (bitmap_again None set.negated fits.negated) negated.first)
    (grants-then _ (grants-number CONSTRAINT_FLAGS 4 set.flags fits.flags)
    (grants-done set refl))))
    (simp (append_assoc, append-nil))

empty-granted : GrantsOf (bitmap_at None) [] (spell_bitmap [])
empty-granted = grants-set [] (omega arith) (record { count = omega arith; nodes = tt }) tt

-- the one that has nothing in it
nothing-granted : GrantsOf type_set_at (type_set_of None) (spell_type_set (type_set_of None))
unfolding type_set_at
nothing-granted =
    grants-as
    (grants-then _ empty-granted
    (grants-then _ empty-granted
    (grants-then _ (grants-number CONSTRAINT_FLAGS 4 0 (omega arith))
    (grants-done (type_set_of None) refl))))
    (simp (append_assoc, append-nil))

-- the type set of an item, where it was or was not, and is or is not
types-granted : (was is : Bool) (types : Option TypeSet) → OptionFits was TypeSetFits types → Stood (optional was type_set_at) types (spell_optional spell_type_set types)
    → GrantsOf (optional is type_set_at) (if is then Some (type_set_of types) else None) (spell_optional spell_type_set (if is then Some (type_set_of types) else None))
unfolding optional
types-granted was false types fits stood = grants-none type_set_at
types-granted was true None fits stood = grants-some nothing-granted
types-granted true true (Some set) fits stood =
    let whole = stood-whole type_set_at (λ x. Some x) stood in
    grants-some (type_set-granted set fits.1 (subst (λ (s : TypeSet). Stood type_set_at s (spell_type_set set)) (some-is whole.part set whole.made) whole.stood))
  where
    some-is : (a b : TypeSet) → Some a ≡ Some b → a ≡ b
    some-is a b e = cc
types-granted false true (Some set) fits stood = absurd (let e = fits.0 in cc)

-- ---- items

-- the names of an item and its type set
sets-granted : (old version kind : ℕ) (names : Option (List Node)) (types : Option TypeSet) → OptionFits (has_names kind) BitmapFits names → OptionFits (has_type_set old kind) TypeSetFits types
    → Stood (sets_at old kind) (names, types) (spell_optional spell_bitmap names ++ spell_optional spell_type_set types)
    → GrantsOf (sets_at version kind) (names, if has_type_set version kind then Some (type_set_of types) else None) (spell_optional spell_bitmap names ++ spell_optional spell_type_set (if has_type_set version kind then Some (type_set_of types) else None))
unfolding sets_at
sets-granted old version kind names types names-fit types-fit stood =
    let names_again = Again-optional (has_names kind) spell_bitmap BitmapFits names (bitmap_again None) names-fit in
    let names_there = stood-part _ (spell_optional spell_type_set types) names_again stood in
    let types_there = stood-whole (optional (has_type_set old kind) type_set_at) (λ x. (names, x)) names_there.others in
    let same : types_there.part ≡ types = ap (λ (sets : Option (List Node) × Option TypeSet). sets.1) types_there.made in
    let types_stood : Stood (optional (has_type_set old kind) type_set_at) types (spell_optional spell_type_set types) = subst (λ (t : Option TypeSet). Stood (optional (has_type_set old kind) type_set_at) t (spell_optional spell_type_set types)) same types_there.stood in
    let new_types = if has_type_set version kind then Some (type_set_of types) else None in
    grants-as
    (grants-then _ (grants-moved (moves-optional (has_names kind) (moves-bitmap None)) names_again names_there.first)
    (grants-then _ (types-granted (has_type_set old kind) (has_type_set version kind) types types-fit types_stood)
    (grants-done (names, new_types) refl)))
    (simp append-nil)

module _ (old version : ℕ) (xtarget : Bool) where
  item-granted : (left values : ℕ) (item : ConstraintItem) → ItemFits old item → Stood (read.item_at old xtarget left values) item (spell_item item)
      → GrantsOf (read.item_at version xtarget left values) (item_at version item) (spell_item (item_at version item))
  unfolding read.item_at
  item-granted left values item fits stood =
      let sets_text = spell_optional spell_bitmap item.names ++ spell_optional spell_type_set item.type_set in
      let op_text = bytes_of 4 item.op ++ sets_text in
      let attr_text = bytes_of 4 item.attr ++ op_text in
      let there = stood-as {t = bytes_of 4 item.kind ++ attr_text} stood (simp append_assoc) in
      let kind = stood-part _ attr_text (Again-number_if CONSTRAINT_KIND 4 item.kind _ fits.kind) there in
      let attr = stood-part _ op_text (Again-number_if CONSTRAINT_ATTR 4 item.attr _ fits.attr) kind.others in
      let op = stood-part _ sets_text (Again-number_if CONSTRAINT_OP 4 item.op _ fits.op) attr.others in
      let sets = stood-whole (sets_at old item.kind) _ op.others in
      let same : sets.part ≡ (item.names, item.type_set) = ap (λ (item : ConstraintItem). (item.names, item.type_set)) sets.made in
      let sets_there : Stood (sets_at old item.kind) (item.names, item.type_set) sets_text = subst (λ (s : Option (List Node) × Option TypeSet). Stood (sets_at old item.kind) s sets_text) same sets.stood in
      grants-as
      (grants-then _ (grants-number_if CONSTRAINT_KIND 4 item.kind _ fits.kind (stood-checked CONSTRAINT_KIND (number CONSTRAINT_KIND 4) (kind_test left values) kind.first))
      (grants-then _ (grants-number_if CONSTRAINT_ATTR 4 item.attr _ fits.attr (stood-checked CONSTRAINT_ATTR (number CONSTRAINT_ATTR 4) (attr_test xtarget item.kind) attr.first))
      (grants-then _ (grants-number_if CONSTRAINT_OP 4 item.op _ fits.op (stood-checked CONSTRAINT_OP (number CONSTRAINT_OP 4) (op_test item.kind) op.first))
      (grants-then _ (sets-granted old version item.kind item.names item.type_set fits.names fits.type_set sets_there)
      (grants-done (item_at version item) refl)))))
      (simp (append_assoc, append-nil))

  -- ---- constraints

  items-granted : (items : List ConstraintItem) → AllByRecursion (ItemFits old) items → Stood (items_at old xtarget (length items)) items (flat_map spell_item items)
      → GrantsOf (items_at version xtarget (length (map (item_at version) items))) (map (item_at version) items) (flat_map spell_item (map (item_at version) items))
  unfolding items_at
  items-granted items fits stood =
      let each = stood-list_of (read.item_at old xtarget) values_after_item spell_item (ItemFits old) (item_again old xtarget) items 0 fits stood in
      let granted = each-other (λ left values x. ItemFits old x × Stood (read.item_at old xtarget left values) x (spell_item x)) values_after_item
      (λ left values x. GrantsOf (read.item_at version xtarget left values) x (spell_item x)) values_after_item (item_at version) (λ values under. values ≡ under)
      (λ left values under x same h. subst (λ (v : ℕ). GrantsOf (read.item_at version xtarget left v) (item_at version x) (spell_item (item_at version x))) same (item-granted left values x h.0 h.1))
      (λ values under x same. ap (λ (v : ℕ). values_after_item v x) same) items 0 0 refl each
      in
      grants-each (read.item_at version xtarget) values_after_item spell_item (map (item_at version) items) 0 granted

  pub constraint-granted : (c : ConstraintRec) → ConstraintFits old c → Stood (read.constraint_at old xtarget) c (spell_constraint c)
      → GrantsOf (read.constraint_at version xtarget) (constraint_at version c) (spell_constraint (constraint_at version c))
  unfolding read.constraint_at
  constraint-granted c fits stood =
      let items_text = flat_map spell_item c.items in
      let count_text = bytes_of 4 (length c.items) ++ items_text in
      let there = stood-as {t = bytes_of 4 c.permissions ++ count_text} stood (simp append_assoc) in
      let permissions = stood-part _ count_text (Again-number CONSTRAINT_PERMISSIONS 4 c.permissions fits.permissions) there in
      let count = stood-part _ items_text (Again-number_if CONSTRAINT_NEXPR 4 (length c.items) _ fits.count) permissions.others in
      let items = stood-whole (items_at old xtarget (length c.items)) _ count.others in
      let same : items.part ≡ c.items = ap (λ (c : ConstraintRec). c.items) items.made in
      let items_there = subst (λ (xs : List ConstraintItem). Stood (items_at old xtarget (length c.items)) xs items_text) same items.stood in
      let meets : item_count_test (length c.items) ≡ None = stood-checked CONSTRAINT_NEXPR (number CONSTRAINT_NEXPR 4) item_count_test count.first in
      let long = length-map c.items (item_at version) in
      grants-as
      (grants-then _ (grants-number CONSTRAINT_PERMISSIONS 4 c.permissions fits.permissions)
      (grants-then _ (grants-number_if CONSTRAINT_NEXPR 4 (length (map (item_at version) c.items)) _ (rw long fits.count) (rw long meets))
      (grants-then _ (items-granted c.items fits.items items_there)
      (grants-done (constraint_at version c) refl))))
      (simp (append_assoc, append-nil))

  -- ---- lists of constraints

  pub constraints-granted : (cs : List ConstraintRec) → AllByRecursion (ConstraintFits old) cs → Stood (constraints_at old xtarget (length cs)) cs (flat_map spell_constraint cs)
      → GrantsOf (constraints_at version xtarget (length (map (constraint_at version) cs))) (map (constraint_at version) cs) (flat_map spell_constraint (map (constraint_at version) cs))
  unfolding records_at
  constraints-granted cs fits stood =
      let each = stood-records (read.constraint_at old xtarget) spell_constraint (ConstraintFits old) (constraint_again old xtarget) cs fits stood in
      let granted = each-other {S = Unit {0}} {T = Unit {0}} (λ left context x. ConstraintFits old x × Stood (read.constraint_at old xtarget) x (spell_constraint x)) (λ context x. context)
      (λ left under x. GrantsOf (read.constraint_at version xtarget) x (spell_constraint x)) (λ under x. under) (constraint_at version) (λ context under. Unit {0})
      (λ left context under x same h. constraint-granted x h.0 h.1) (λ context under x same. tt) cs tt tt tt each
      in
      grants-each {S = Unit {0}} (λ left context. read.constraint_at version xtarget) (λ context x. context) spell_constraint (map (constraint_at version) cs) tt granted
