-- The trees of conditions, and what they mean.
use Rattle.std.proofs.Common.{◌≡◌, ℕ, Bool, true, false, not, cond, Some, List, length, refl, sym, ap, ◌∙◌}
use Rattle.std.specs.Prelude.{◌↔◌, IsTrue, Contains, ◌==◌, slice_get, option_map}
use Rattle.std.specs.Cmp.{nat_eq_equiv}
use Rattle.std.proofs.lemmas.Bool.{eqb-true}
use Rattle.std.proofs.lemmas.List.{length-map}
use Rattle.std.proofs.lemmas.Map.Views.{list_any-from_Contains, Contains-from_any}
use Rattle.std.proofs.lemmas.Option.{slice_get-map}
use Rattle.pol_bitmap.specs.declared.node.Node.{Node}
use Rattle.pol_bitmap.specs.Nodes.{bits_of}
use Rattle.pol_expr.specs.declared.codes.TheConstants.{COND_EXPR_MAXDEPTH}
use Rattle.pol_expr.specs.declared.symbol.Symbol.TheVariants as symbols
use Rattle.pol_expr.specs.declared.symbol.Operator.TheVariants.{Or, And, Xor, Equal, NotEqual}
use Rattle.pol_expr.specs.declared.condition_rec.ConditionItem.{ConditionItem}
use Rattle.pol_expr.specs.Postfix.{IsPostfix}
use Rattle.pol_cursor.specs.References.{Named}
use Rattle.pol_expr.specs.Infix.{infix_of, symbols_text}
use Rattle.pol_expr.specs.Trees.{operand_count, postorder}
use Rattle.pol_expr.specs.ConditionRecord.{item_operands, IsCondition}
use Rattle.pol_expr.specs.ConditionMeaning.{ConditionTree, condition_symbol, condition_symbols, condition_words, expression_text, truth_of, value_of, is_in}
use Rattle.pol_expr.proofs.Stacks.{IsMeaning, IsPostfix-map, some_tree, tree_of_symbols}

-- ---- symbols of items

pub symbol_at : (items : List ConditionItem) (i : ℕ) (item : ConditionItem) → slice_get items i ≡ Some item → slice_get (condition_symbols items) i ≡ Some (condition_symbol item)
symbol_at items i item e = slice_get-map condition_symbol items i ∙ ap (option_map condition_symbol) e

pub length-symbols : (items : List ConditionItem) → length (condition_symbols items) ≡ length items
length-symbols items = simp length-map

-- by the tests of the kind, in their order
operands_by : (a b c d e f : Bool) (boolean : ℕ)
    → cond a 0 (cond b 1 2) ≡ operand_count (cond a (symbols.Leaf boolean) (cond b symbols.Not (cond c (symbols.Binary Or) (cond d (symbols.Binary And) (cond e (symbols.Binary Xor) (cond f (symbols.Binary Equal) (symbols.Binary NotEqual)))))))
operands_by true b c d e f boolean = refl
operands_by false true c d e f boolean = refl
operands_by false false true d e f boolean = refl
operands_by false false false true e f boolean = refl
operands_by false false false false true f boolean = refl
operands_by false false false false false true boolean = refl
operands_by false false false false false false boolean = refl

symbol_operands : (item : ConditionItem) → item_operands item ≡ operand_count (condition_symbol item)
symbol_operands item = operands_by (item.kind == 1) (item.kind == 2) (item.kind == 3) (item.kind == 4) (item.kind == 5) (item.kind == 6) item.boolean

pub symbols_postfix : (items : List ConditionItem) → IsCondition items → IsPostfix operand_count COND_EXPR_MAXDEPTH 0 (condition_symbols items)
symbols_postfix items h = IsPostfix-map condition_symbol item_operands operand_count COND_EXPR_MAXDEPTH 0 items symbol_operands h

-- ---- the tree

pub condition_tree : (items : List ConditionItem) → IsCondition items → (t : ConditionTree) × (postorder t ≡ condition_symbols items)
condition_tree items h = some_tree COND_EXPR_MAXDEPTH (condition_symbols items) (symbols_postfix items h)

pub tree_is_text : (named : Named) (items : List ConditionItem) (t : ConditionTree) → postorder t ≡ condition_symbols items → expression_text named items ≡ infix_of (condition_words named) t
unfolding expression_text
tree_is_text named items t e = ap (symbols_text (condition_words named)) (sym e) ∙ tree_of_symbols (condition_words named) t

-- what is the text of each tree that items stand for is theirs
pub one_condition_text : (named : Named) (items : List ConditionItem) (text : List ℕ) → IsCondition items → ((t : ConditionTree) → postorder t ≡ condition_symbols items → text ≡ infix_of (condition_words named) t) → text ≡ expression_text named items
one_condition_text named items text h each = let tree = condition_tree items h in each tree.0 tree.1 ∙ sym (tree_is_text named items tree.0 tree.1)

-- ---- truth values

same_bool : (r s : Bool) → (IsTrue r → s ≡ true) → (s ≡ true → IsTrue r) → r ≡ s
same_bool true s f g = sym (f refl)
same_bool false true f g = g refl
same_bool false false f g = refl

pub tells_in : (r : Bool) (on : List Node) (boolean : ℕ) → (IsTrue r ↔ Contains (bits_of on) boolean) → r ≡ is_in on boolean
tells_in r on boolean h = same_bool r (is_in on boolean) (λ t. list_any-from_Contains nat_eq_equiv boolean (bits_of on) (h.0 t)) (λ e. h.1 (Contains-from_any eqb-true boolean (bits_of on) e))

pub value_meaning : (on : ℕ → Bool) → IsMeaning on not truth_of (value_of on)
unfolding value_of
value_meaning on = record { leaf_is = λ v. refl; not_is = λ t. refl; binary_is = λ o l r. refl }
