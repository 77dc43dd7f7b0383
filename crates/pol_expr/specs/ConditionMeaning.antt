-- What conditions mean: the tree that their items stand for, and its truth value (libsepol's cond_evaluate_expr), and its text (this project's profile).
use Rattle.std.specs.Prelude.{ℕ, ◌==◌, nat_eq, Bool, true, false, not, ◌&&◌, ◌||◌, if◌then◌else◌, List, [], ◌∷◌, map, codes, unwrap_or}
use Rattle.std.specs.List.{flat_map, list_any}
use Rattle.pol_bitmap.specs.declared.node.Node.{Node}
use Rattle.pol_bitmap.specs.Nodes.{bits_of}
use Rattle.pol_expr.specs.declared.symbol.Symbol.{Symbol}
use Rattle.pol_expr.specs.declared.symbol.Symbol.TheVariants as symbols
use Rattle.pol_expr.specs.declared.symbol.Operator.{Operator}
use Rattle.pol_expr.specs.declared.symbol.Operator.TheVariants.{Or, And, Xor, Equal, NotEqual}
use Rattle.pol_expr.specs.declared.condition_rec.ConditionItem.{ConditionItem}
use Rattle.pol_fields.specs.declared.table_kind.TableKind.TheVariants.{Booleans}
use Rattle.pol_cursor.specs.References.{Named}
use Rattle.pol_expr.specs.declared.codes.TheConstants.{COND_BOOL, COND_NOT, COND_OR, COND_AND, COND_XOR, COND_EQ}
use Rattle.pol_expr.specs.Infix.{Words, symbols_text}
use Rattle.pol_expr.specs.Trees.{Tree, Leaf, Not, Binary}

-- a tree whose leaves are values of booleans
abbrev pub ConditionTree : Type 0
ConditionTree = Tree ℕ Operator

-- what an item stands for, by its kind
abbrev pub condition_symbol : ConditionItem → Symbol ℕ Operator
condition_symbol item =
    if item.kind == COND_BOOL then symbols.Leaf item.boolean
    else if item.kind == COND_NOT then symbols.Not
    else if item.kind == COND_OR then symbols.Binary Or
    else if item.kind == COND_AND then symbols.Binary And
    else if item.kind == COND_XOR then symbols.Binary Xor
    else if item.kind == COND_EQ then symbols.Binary Equal
    else symbols.Binary NotEqual

abbrev pub condition_symbols : List ConditionItem → List (Symbol ℕ Operator)
condition_symbols items = map condition_symbol items

-- ---- the truth value

abbrev pub same_truth : Bool → Bool → Bool
same_truth true b = b
same_truth false b = not b

abbrev pub truth_of : Operator → Bool → Bool → Bool
truth_of Or left right = left || right
truth_of And left right = left && right
truth_of Xor left right = not (same_truth left right)
truth_of Equal left right = same_truth left right
truth_of NotEqual left right = not (same_truth left right)

-- the truth value of a tree, by those of its booleans
unfoldable pub value_of : (ℕ → Bool) → ConditionTree → Bool
value_of on (Leaf boolean) = on boolean
value_of on (Not t) = not (value_of on t)
value_of on (Binary o l r) = truth_of o (value_of on l) (value_of on r)

-- exactly the booleans in a set are true
abbrev pub is_in : List Node → ℕ → Bool
is_in on boolean = list_any (nat_eq boolean) (bits_of on)

-- ---- the text

abbrev pub operator_text : Operator → List ℕ
operator_text Or = codes " || "
operator_text And = codes " && "
operator_text Xor = codes " ^ "
operator_text Equal = codes " == "
operator_text NotEqual = codes " != "

-- A boolean is its name, which is empty where no record declares it.
abbrev pub condition_words : Named → Words ℕ Operator
condition_words named = record { leaf = λ boolean. unwrap_or (named Booleans boolean) []; negation = codes "!"; between = operator_text }

-- the text of items: that of the one tree that they stand for (`conditions_have_one_tree`)
unfoldable pub expression_text : Named → List ConditionItem → List ℕ
expression_text named items = symbols_text (condition_words named) (condition_symbols items)

-- ---- the booleans

-- the boolean that an item is, where it is one
abbrev pub item_booleans : ConditionItem → List ℕ
item_booleans item = if item.kind == COND_BOOL then item.boolean ∷ [] else []

abbrev pub booleans_in : List ConditionItem → List ℕ
booleans_in items = flat_map item_booleans items
