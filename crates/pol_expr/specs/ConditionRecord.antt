-- The expression of a conditional node: record 19 up to its items (libsepol's cond_read_node).
use Rattle.std.specs.Prelude.{ℕ, zero, suc, ◌+◌, ◌*◌, ◌^◌, ◌<◌, ◌≤◌, ◌==◌, if◌then◌else◌, Option, List, [], ◌∷◌, ◌++◌, length}
use Rattle.pol_fields.specs.declared.limits.TheConstants.{MAX_POLICY_BYTES}
use Rattle.std.specs.List.{flat_map, AllByRecursion}
use Rattle.pol_fields.specs.declared.fault.Cause.{Cause}
use Rattle.pol_fields.specs.declared.table_kind.TableKind.TheVariants.{Booleans}
use Rattle.pol_fields.specs.declared.fields.TheConstants.{CONDNODE_STATE, CONDNODE_NEXPR, CONDNODE_KIND, CONDNODE_BOOLEAN}
use Rattle.pol_cursor.specs.Outcome.{Reader, ◌>>=◌, done}
use Rattle.pol_cursor.specs.Parts.{num, number, number_if, list_of}
use Rattle.pol_cursor.specs.References.{Placed, Reference}
use Rattle.pol_cursor.specs.Spelling.{bytes_of}
use Rattle.pol_expr.specs.declared.condition_rec.ConditionItem.{ConditionItem}
use Rattle.pol_expr.specs.declared.condition_rec.ConditionRec.{ConditionRec}
use Rattle.pol_expr.specs.declared.codes.TheConstants.{COND_BOOL, COND_NOT, COND_NEQ, COND_EXPR_MAXDEPTH}
use Rattle.pol_expr.specs.Postfix as postfix
use Rattle.pol_expr.specs.Postfix.{values_after, item_count_test, IsExpression}

-- ---- the conditions of its fields

-- how many operands an item of a kind has: a boolean none, not one, and every other stands between two operands
abbrev pub kind_operands : ℕ → ℕ
kind_operands kind = if kind == COND_BOOL then 0 else if kind == COND_NOT then 1 else 2

abbrev pub item_operands : ConditionItem → ℕ
item_operands item = kind_operands item.kind

abbrev pub kind_test : ℕ → ℕ → ℕ → Option Cause
kind_test left values kind = postfix.kind_test COND_BOOL COND_NEQ kind_operands COND_EXPR_MAXDEPTH left values kind

-- ---- reading and spelling

-- an item before which so many values stand, and after which so many items are left
unfoldable pub item_at : ℕ → ℕ → Reader ConditionItem
item_at left values = do
  kind ← number_if CONDNODE_KIND 4 (kind_test left values)
  boolean ← number CONDNODE_BOOLEAN 4
  done (record { kind = kind; boolean = boolean })

abbrev pub values_after_item : ℕ → ConditionItem → ℕ
values_after_item values item = values_after values (item_operands item)

unfoldable pub items_at : ℕ → Reader (List ConditionItem)
items_at count = list_of item_at values_after_item count 0

unfoldable pub condition_at : Reader ConditionRec
condition_at = do
  state ← number CONDNODE_STATE 4
  count ← number_if CONDNODE_NEXPR 4 item_count_test
  items ← items_at count
  done (record { state = state; items = items })

abbrev pub spell_item : ConditionItem → List ℕ
spell_item item = bytes_of 4 item.kind ++ bytes_of 4 item.boolean

abbrev pub spell_condition : ConditionRec → List ℕ
spell_condition condition = bytes_of 4 condition.state ++ bytes_of 4 (length condition.items) ++ flat_map spell_item condition.items

-- the numbers of an item fit their fields
abbrev pub ItemFits : ConditionItem → Type 0
ItemFits item = (item.kind < 2 ^ 32) × (item.boolean < 2 ^ 32)

-- the numbers of a condition fit their fields
pub record ConditionFits (condition : ConditionRec) : Type 0 where
  pub state : condition.state < 2 ^ 32
  pub count : length condition.items < 2 ^ 32
  pub items : AllByRecursion ItemFits condition.items

-- ---- the condition that stands at a place

abbrev pub item_in : List ℕ → ℕ → ConditionItem
item_in bytes place = record { kind = num bytes place 4; boolean = num bytes (place + 4) 4 }

-- the n items that stand from a place on
unfoldable pub items_in : List ℕ → ℕ → ℕ → List ConditionItem
items_in bytes place zero = []
items_in bytes place (suc n) = item_in bytes place ∷ items_in bytes (place + 8) n

abbrev pub condition_in : List ℕ → ℕ → ConditionRec
condition_in bytes place = record { state = num bytes place 4; items = items_in bytes (place + 8) (num bytes (place + 4) 4) }

-- how many bytes it takes
abbrev pub condition_size : List ℕ → ℕ → ℕ
condition_size bytes place = 8 + 8 * num bytes (place + 4) 4

-- The items of a condition make one value.
abbrev pub IsCondition : List ConditionItem → Type 0
IsCondition items = IsExpression item_operands COND_EXPR_MAXDEPTH items

-- a condition stands there, in a buffer of a policy's size
abbrev pub HasCondition : List ℕ → ℕ → Type 0
HasCondition bytes place = (place + condition_size bytes place ≤ length bytes) × (length bytes ≤ MAX_POLICY_BYTES) × IsCondition (items_in bytes (place + 8) (num bytes (place + 4) 4))

-- ---- its references

-- the boolean that an item names, where it is one, and the first byte of the item is at a place
unfoldable pub item_reference : ℕ → ConditionItem → List Reference
item_reference place item = if item.kind == COND_BOOL then record { place = place + 4; field = CONDNODE_BOOLEAN; table = Booleans; value = item.boolean } ∷ [] else []

-- those of items that stand from a place on
unfoldable pub item_references : ℕ → List ConditionItem → List Reference
item_references place [] = []
item_references place (item ∷ items) = item_reference place item ++ item_references (place + 8) items

abbrev pub condition_references : Placed ConditionRec → List Reference
condition_references condition = item_references (condition.place + 8) condition.value.items
