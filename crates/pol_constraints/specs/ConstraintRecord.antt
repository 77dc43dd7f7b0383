-- The expression of a constraint: record 7 (libsepol's read_cons_helper).
use Rattle.std.specs.Prelude.{◌≡◌, ℕ, zero, suc, ◌+◌, ◌^◌, ◌<◌, ◌≤◌, Bool, true, ◌&&◌, ◌||◌, ◌==◌, nat_eq, nat_le, if◌then◌else◌, Option, Some, None, List, [], ◌∷◌, ◌++◌, length}
use Rattle.pol_fields.specs.declared.limits.TheConstants.{MAX_POLICY_BYTES}
use Rattle.std.specs.List.{flat_map, list_any, AllByRecursion}
use Rattle.pol_fields.specs.declared.fault.Cause.{Cause}
use Rattle.pol_fields.specs.declared.fault.Cause.TheVariants.{BadAttr, BadOp}
use Rattle.pol_fields.specs.declared.fields.TheConstants.{CONSTRAINT_PERMISSIONS, CONSTRAINT_NEXPR, CONSTRAINT_KIND, CONSTRAINT_ATTR, CONSTRAINT_OP, CONSTRAINT_FLAGS}
use Rattle.pol_cursor.specs.Outcome.{Reader, ◌>>=◌, done}
use Rattle.pol_cursor.specs.Parts.{num, number, number_if, list_of, optional, spell_optional, OptionFits, unless}
use Rattle.pol_cursor.specs.Spelling.{bytes_of}
use Rattle.pol_bitmap.specs.Bitmap.{bitmap_at, spell_bitmap, BitmapFits}
use Rattle.pol_bitmap.specs.declared.node.Node.{Node}
use Rattle.pol_bitmap.specs.Nodes.{bitmap_in, bitmap_size, HasBitmap}
use Rattle.pol_constraints.specs.declared.constraint_rec.ConstraintItem.{ConstraintItem}
use Rattle.pol_constraints.specs.declared.constraint_rec.ConstraintRec.{ConstraintRec}
use Rattle.pol_constraints.specs.declared.constraint_rec.TypeSet.{TypeSet}
use Rattle.pol_constraints.specs.declared.codes.TheConstants.{CEXPR_NOT, CEXPR_AND, CEXPR_OR, CEXPR_ATTR, CEXPR_NAMES, CEXPR_MAXDEPTH}
use Rattle.pol_constraints.specs.declared.codes.TheConstants.{CEXPR_USER, CEXPR_ROLE, CEXPR_TYPE, CEXPR_TARGET, CEXPR_XTARGET, CEXPR_L1L2, CEXPR_L1H2, CEXPR_H1L2, CEXPR_H1H2, CEXPR_L1H1, CEXPR_L2H2}
use Rattle.pol_constraints.specs.declared.codes.TheConstants.{CEXPR_EQ, CEXPR_NEQ, CEXPR_INCOMP}
use Rattle.pol_expr.specs.Postfix as postfix
use Rattle.pol_expr.specs.Postfix.{values_after, item_count_test, IsExpression}

-- ---- the conditions of its fields

-- how many operands an item of a kind has: not one, and and or stand between two, and every other has none
abbrev pub kind_operands : ℕ → ℕ
kind_operands kind = if kind == CEXPR_NOT then 1 else if kind == CEXPR_AND || kind == CEXPR_OR then 2 else 0

abbrev pub item_operands : ConstraintItem → ℕ
item_operands item = kind_operands item.kind

abbrev pub kind_test : ℕ → ℕ → ℕ → Option Cause
kind_test left values kind = postfix.kind_test CEXPR_NOT CEXPR_NAMES kind_operands CEXPR_MAXDEPTH left values kind

-- what two sides of a comparison are: users, roles, types or levels
abbrev pub is_pair : ℕ → Bool
is_pair attr =
    list_any (nat_eq attr) (CEXPR_USER ∷ CEXPR_ROLE ∷ CEXPR_TYPE ∷ CEXPR_L1L2 ∷ CEXPR_L1H2 ∷ CEXPR_H1L2 ∷ CEXPR_H1H2 ∷ CEXPR_L1H1 ∷ CEXPR_L2H2 ∷ [])

-- a user, role or type of the context for which this is added, which is 0 for the source
abbrev pub is_part_of : ℕ → ℕ → Bool
is_part_of context attr = list_any (nat_eq attr) ((CEXPR_USER + context) ∷ (CEXPR_ROLE + context) ∷ (CEXPR_TYPE + context) ∷ [])

-- what is looked for among names: a part of the source, of the target, or, where it is allowed, of the third context
abbrev pub is_side : Bool → ℕ → Bool
is_side xtarget attr = is_part_of 0 attr || is_part_of CEXPR_TARGET attr || (xtarget && is_part_of CEXPR_XTARGET attr)

abbrev pub attr_test : Bool → ℕ → ℕ → Option Cause
attr_test xtarget kind attr = unless (if kind == CEXPR_ATTR then is_pair attr else if kind == CEXPR_NAMES then is_side xtarget attr else true) BadAttr

-- Two sides are compared in all five ways, and a side with names by the first two.
abbrev pub op_test : ℕ → ℕ → Option Cause
op_test kind op =
    unless (if kind == CEXPR_ATTR then nat_le CEXPR_EQ op && nat_le op CEXPR_INCOMP else if kind == CEXPR_NAMES then nat_le CEXPR_EQ op && nat_le op CEXPR_NEQ else true) BadOp

-- ---- reading and spelling

abbrev pub has_names : ℕ → Bool
has_names kind = kind == CEXPR_NAMES

-- From version 29 on the names have behind them the types and attributes that they were written with.
abbrev pub has_type_set : ℕ → ℕ → Bool
has_type_set version kind = kind == CEXPR_NAMES && nat_le 29 version

unfoldable pub type_set_at : Reader TypeSet
type_set_at = do
  types ← bitmap_at None
  negated ← bitmap_at None
  flags ← number CONSTRAINT_FLAGS 4
  done (record { types = types; negated = negated; flags = flags })

-- the names of an item of a kind, and its type set
unfoldable pub sets_at : ℕ → ℕ → Reader (Option (List Node) × Option TypeSet)
sets_at version kind = do
  names ← optional (has_names kind) (bitmap_at None)
  type_set ← optional (has_type_set version kind) type_set_at
  done (names, type_set)

-- an item before which so many values stand, and after which so many items are left
unfoldable pub item_at : ℕ → Bool → ℕ → ℕ → Reader ConstraintItem
item_at version xtarget left values = do
  kind ← number_if CONSTRAINT_KIND 4 (kind_test left values)
  attr ← number_if CONSTRAINT_ATTR 4 (attr_test xtarget kind)
  op ← number_if CONSTRAINT_OP 4 (op_test kind)
  sets ← sets_at version kind
  done (record { kind = kind; attr = attr; op = op; names = sets.0; type_set = sets.1 })

abbrev pub values_after_item : ℕ → ConstraintItem → ℕ
values_after_item values item = values_after values (item_operands item)

unfoldable pub items_at : ℕ → Bool → ℕ → Reader (List ConstraintItem)
items_at version xtarget count = list_of (item_at version xtarget) values_after_item count 0

unfoldable pub constraint_at : ℕ → Bool → Reader ConstraintRec
constraint_at version xtarget = do
  permissions ← number CONSTRAINT_PERMISSIONS 4
  count ← number_if CONSTRAINT_NEXPR 4 item_count_test
  items ← items_at version xtarget count
  done (record { permissions = permissions; items = items })

abbrev pub spell_type_set : TypeSet → List ℕ
spell_type_set set = spell_bitmap set.types ++ spell_bitmap set.negated ++ bytes_of 4 set.flags

abbrev pub spell_item : ConstraintItem → List ℕ
spell_item item = bytes_of 4 item.kind ++ bytes_of 4 item.attr ++ bytes_of 4 item.op ++ spell_optional spell_bitmap item.names ++ spell_optional spell_type_set item.type_set

abbrev pub spell_constraint : ConstraintRec → List ℕ
spell_constraint constraint = bytes_of 4 constraint.permissions ++ bytes_of 4 (length constraint.items) ++ flat_map spell_item constraint.items

pub record TypeSetFits (set : TypeSet) : Type 0 where
  pub types : BitmapFits set.types
  pub negated : BitmapFits set.negated
  pub flags : set.flags < 2 ^ 32

-- The numbers of an item fit their fields, and it has names exactly where its kind is CEXPR_NAMES, and a type set where in such an item
-- the version is 29 or later.
pub record ItemFits (version : ℕ) (item : ConstraintItem) : Type 0 where
  pub kind : item.kind < 2 ^ 32
  pub attr : item.attr < 2 ^ 32
  pub op : item.op < 2 ^ 32
  pub names : OptionFits (has_names item.kind) BitmapFits item.names
  pub type_set : OptionFits (has_type_set version item.kind) TypeSetFits item.type_set

pub record ConstraintFits (version : ℕ) (constraint : ConstraintRec) : Type 0 where
  pub permissions : constraint.permissions < 2 ^ 32
  pub count : length constraint.items < 2 ^ 32
  pub items : AllByRecursion (ItemFits version) constraint.items

-- ---- the constraint that stands at a place

-- two bitmaps and a number, each behind the one before
abbrev pub negated_place : List ℕ → ℕ → ℕ
negated_place bytes place = place + bitmap_size bytes place

abbrev pub flags_place : List ℕ → ℕ → ℕ
flags_place bytes place = negated_place bytes place + bitmap_size bytes (negated_place bytes place)

unfoldable pub type_set_in : List ℕ → ℕ → TypeSet
type_set_in bytes place = record { types = bitmap_in bytes place; negated = bitmap_in bytes (negated_place bytes place); flags = num bytes (flags_place bytes place) 4 }

unfoldable pub type_set_end : List ℕ → ℕ → ℕ
type_set_end bytes place = flags_place bytes place + 4

-- the names of an item of a kind, and the place behind them
unfoldable pub names_in : ℕ → List ℕ → ℕ → Option (List Node)
names_in kind bytes place = if has_names kind then Some (bitmap_in bytes place) else None

unfoldable pub names_end : ℕ → List ℕ → ℕ → ℕ
names_end kind bytes place = if has_names kind then place + bitmap_size bytes place else place

-- its type set, behind the names, and the place behind it
unfoldable pub types_in : ℕ → ℕ → List ℕ → ℕ → Option TypeSet
types_in version kind bytes place = if has_type_set version kind then Some (type_set_in bytes (place + bitmap_size bytes place)) else None

unfoldable pub sets_end : ℕ → ℕ → List ℕ → ℕ → ℕ
sets_end version kind bytes place = if has_type_set version kind then type_set_end bytes (place + bitmap_size bytes place) else names_end kind bytes place

abbrev pub item_in : ℕ → List ℕ → ℕ → ConstraintItem
item_in version bytes place = record { kind = num bytes place 4; attr = num bytes (place + 4) 4; op = num bytes (place + 8) 4; names = names_in (num bytes place 4) bytes (place + 12); type_set = types_in version (num bytes place 4) bytes (place + 12) }

abbrev pub item_end : ℕ → List ℕ → ℕ → ℕ
item_end version bytes place = sets_end version (num bytes place 4) bytes (place + 12)

-- the n items that stand from a place on, and where they end
unfoldable pub items_in : ℕ → List ℕ → ℕ → ℕ → List ConstraintItem
items_in version bytes place zero = []
items_in version bytes place (suc n) = item_in version bytes place ∷ items_in version bytes (item_end version bytes place) n

unfoldable pub items_end : ℕ → List ℕ → ℕ → ℕ → ℕ
items_end version bytes place zero = place
items_end version bytes place (suc n) = items_end version bytes (item_end version bytes place) n

abbrev pub constraint_in : ℕ → List ℕ → ℕ → ConstraintRec
constraint_in version bytes place = record { permissions = num bytes place 4; items = items_in version bytes (place + 8) (num bytes (place + 4) 4) }

abbrev pub constraint_end : ℕ → List ℕ → ℕ → ℕ
constraint_end version bytes place = items_end version bytes (place + 8) (num bytes (place + 4) 4)

-- a type set stands there
unfoldable pub HasTypeSet : List ℕ → ℕ → Type 0
HasTypeSet bytes place = HasBitmap bytes place × HasBitmap bytes (negated_place bytes place) × (type_set_end bytes place ≤ length bytes)

-- the names of an item of a kind stand there, and its type set behind them
unfoldable pub HasSets : ℕ → ℕ → List ℕ → ℕ → Type 0
HasSets version kind bytes place = (kind ≡ CEXPR_NAMES → HasBitmap bytes place) × (has_type_set version kind ≡ true → HasTypeSet bytes (place + bitmap_size bytes place))

-- an item of a kind stands there, with its names where it has some
abbrev pub HasItem : ℕ → List ℕ → ℕ → Type 0
HasItem version bytes place = (place + 12 ≤ length bytes) × (1 ≤ num bytes place 4) × HasSets version (num bytes place 4) bytes (place + 12) × (item_end version bytes place ≤ length bytes)

unfoldable pub HasItems : ℕ → List ℕ → ℕ → ℕ → Type 0
HasItems version bytes place zero = Unit {0}
HasItems version bytes place (suc n) = HasItem version bytes place × HasItems version bytes (item_end version bytes place) n

-- The items of a constraint make one value.
abbrev pub IsConstraint : List ConstraintItem → Type 0
IsConstraint items = IsExpression item_operands CEXPR_MAXDEPTH items

-- a constraint stands there, in a buffer of a policy's size
abbrev pub HasConstraint : ℕ → List ℕ → ℕ → Type 0
HasConstraint version bytes place =
    (place + 8 ≤ length bytes) × (length bytes ≤ MAX_POLICY_BYTES) × HasItems version bytes (place + 8) (num bytes (place + 4) 4)
    × IsConstraint (items_in version bytes (place + 8) (num bytes (place + 4) 4))
