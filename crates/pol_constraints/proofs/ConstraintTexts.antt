-- The items of a constraint read one by one, and the operands that their symbols leave.
use Rattle.std.proofs.Common.{◌≡◌, ℕ, ◌≤◌, Bool, true, false, cond, List, [], ◌∷◌, length, refl, sym, ap, subst, ◌∙◌, arith}
use Rattle.std.specs.Prelude.{◌==◌, ◌||◌}
use Rattle.std.proofs.lemmas.Bool.{ne_eqb}
use Rattle.pol_cursor.specs.References.{Named}
use Rattle.pol_expr.specs.declared.Symbol.{Symbol}
use Rattle.pol_expr.specs.declared.Symbol.TheVariants as symbols
use Rattle.pol_expr.specs.Postfix.{values_after, IsPostfix}
use Rattle.pol_expr.specs.Trees.{operand_count, applied, postorder}
use Rattle.pol_expr.specs.Infix.{Operand, is_binary, infix_of, symbols_text, leaf_operand, negated_operand, joined_operands}
use Rattle.pol_expr.proofs.Stacks.{after, after-postorder, length-applied, text_meaning, some_tree, tree_of_symbols, IsPostfix-map}
use Rattle.pol_constraints.specs.declared.codes.TheConstants.{CEXPR_NOT, CEXPR_AND, CEXPR_OR, CEXPR_MAXDEPTH}
use Rattle.pol_constraints.specs.declared.junction.Junction.{Junction}
use Rattle.pol_constraints.specs.declared.junction.Junction.TheVariants.{And, Or}
use Rattle.pol_constraints.specs.declared.constraint_rec.ConstraintItem.{ConstraintItem}
use Rattle.pol_constraints.specs.ConstraintRecord.{item_operands, IsConstraint}
use Rattle.pol_constraints.specs.ConstraintTexts.{ConstraintTree, comparison_text, constraint_symbol, constraint_symbols, constraint_text, constraint_words}

-- ---- symbols

-- by the tests of the kind, in their order
operands_by : (a b c : Bool) (text : List ℕ)
    → cond a 1 (cond (b || c) 2 0) ≡ operand_count {V = List ℕ} {O = Junction} (cond a symbols.Not (cond b (symbols.Binary And) (cond c (symbols.Binary Or) (symbols.Leaf text))))
operands_by true b c text = refl
operands_by false true c text = refl
operands_by false false true text = refl
operands_by false false false text = refl

symbol_operands : (named : Named) (item : ConstraintItem) → item_operands item ≡ operand_count (constraint_symbol named item)
symbol_operands named item = operands_by (item.kind == CEXPR_NOT) (item.kind == CEXPR_AND) (item.kind == CEXPR_OR) (comparison_text named item item.names)

-- a kind above those of the operators is that of a leaf
pub leaf_symbol : (named : Named) (item : ConstraintItem) → 4 ≤ item.kind → constraint_symbol named item ≡ symbols.Leaf (comparison_text named item item.names)
leaf_symbol named item le =
    let one : (item.kind == CEXPR_NOT) ≡ false = ne_eqb item.kind CEXPR_NOT (λ e. omega (arith, e, le)) in
    let two : (item.kind == CEXPR_AND) ≡ false = ne_eqb item.kind CEXPR_AND (λ e. omega (arith, e, le)) in
    let three : (item.kind == CEXPR_OR) ≡ false = ne_eqb item.kind CEXPR_OR (λ e. omega (arith, e, le)) in
    rw (one, two, three) refl

symbols_postfix : (named : Named) (items : List ConstraintItem) → IsConstraint items → IsPostfix operand_count CEXPR_MAXDEPTH 0 (constraint_symbols named items)
symbols_postfix named items h = IsPostfix-map (constraint_symbol named) item_operands operand_count CEXPR_MAXDEPTH 0 items (symbol_operands named) h

-- ---- the tree

pub constraint_tree : (named : Named) (items : List ConstraintItem) → IsConstraint items → (t : ConstraintTree) × (postorder t ≡ constraint_symbols named items)
constraint_tree named items h = some_tree CEXPR_MAXDEPTH (constraint_symbols named items) (symbols_postfix named items h)

pub tree_is_text : (named : Named) (items : List ConstraintItem) (t : ConstraintTree) → postorder t ≡ constraint_symbols named items → constraint_text named items ≡ infix_of constraint_words t
unfolding constraint_text
tree_is_text named items t e = ap (symbols_text constraint_words) (sym e) ∙ tree_of_symbols constraint_words t

-- what is the text of each tree that items stand for is theirs
pub one_constraint_text : (named : Named) (items : List ConstraintItem) (text : List ℕ) → IsConstraint items → ((t : ConstraintTree) → postorder t ≡ constraint_symbols named items → text ≡ infix_of constraint_words t) → text ≡ constraint_text named items
one_constraint_text named items text h each = let tree = constraint_tree named items h in each tree.0 tree.1 ∙ sym (tree_is_text named items tree.0 tree.1)

-- ---- the operands

abbrev next_operands : Symbol (List ℕ) Junction → List Operand → List Operand
next_operands s xs = applied (leaf_operand constraint_words) (negated_operand constraint_words) (joined_operands constraint_words) s xs

abbrev operands_after : List (Symbol (List ℕ) Junction) → List Operand → List Operand
operands_after ss xs = after (leaf_operand constraint_words) (negated_operand constraint_words) (joined_operands constraint_words) ss xs

-- Some items were read, and their symbols leave these operands: those left lead to the same as all do.
pub record Written (named : Named) (whole left : List ConstraintItem) (xs : List Operand) : Type 0 where
  pub rest : operands_after (constraint_symbols named left) xs ≡ operands_after (constraint_symbols named whole) []
  pub postfix : IsPostfix item_operands CEXPR_MAXDEPTH (length xs) left

module _ (named : Named) (whole : List ConstraintItem) where
  pub Written-start : IsConstraint whole → Written named whole whole []
  Written-start h = record { rest = refl; postfix = h }

  pub Written-fits : (left : List ConstraintItem) (item : ConstraintItem) (rest : List ConstraintItem) (xs : List Operand) → left ≡ item ∷ rest → Written named whole left xs → item_operands item ≤ length xs
  Written-fits left item rest xs e h = (subst (IsPostfix item_operands CEXPR_MAXDEPTH (length xs)) e h.postfix).0

  pub Written-next : (left : List ConstraintItem) (item : ConstraintItem) (rest : List ConstraintItem) (xs ys : List Operand) → left ≡ item ∷ rest → ys ≡ next_operands (constraint_symbol named item) xs → Written named whole left xs → Written named whole rest ys
  Written-next left item rest xs ys e is h =
      let s = constraint_symbol named item in
      let p = subst (IsPostfix item_operands CEXPR_MAXDEPTH (length xs)) e h.postfix in
      let same = symbol_operands named item in
      let len : length ys ≡ values_after (length xs) (item_operands item) = ap length is ∙ length-applied (leaf_operand constraint_words) (negated_operand constraint_words) (joined_operands constraint_words) s xs (subst (λ (n : ℕ). n ≤ length xs) same p.0) ∙ ap (values_after (length xs)) (sym same) in
      record {
        rest = ap (operands_after (constraint_symbols named rest)) is ∙ ap (λ (items : List ConstraintItem). operands_after (constraint_symbols named items) xs) (sym e) ∙ h.rest;
        postfix = subst (λ (n : ℕ). IsPostfix item_operands CEXPR_MAXDEPTH n rest) (sym len) p.2;
      }

  pub Written-end : (xs : List Operand) → Written named whole [] xs → (t : ConstraintTree) → postorder t ≡ constraint_symbols named whole → xs ≡ record { text = infix_of constraint_words t; is_binary = is_binary t } ∷ []
  Written-end xs h t e =
      h.rest ∙ ap (λ (ss : List (Symbol (List ℕ) Junction)). operands_after ss []) (sym e)
      ∙ after-postorder (leaf_operand constraint_words) (negated_operand constraint_words) (joined_operands constraint_words) (λ t. record { text = infix_of constraint_words t; is_binary = is_binary t }) (text_meaning constraint_words) t []
