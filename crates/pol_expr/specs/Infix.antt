-- The text of an expression.
use Rattle.std.specs.Prelude.{ℕ, Bool, true, false, List, [], ◌∷◌, ◌++◌, codes}
use Rattle.pol_expr.specs.declared.symbol.Symbol.{Symbol}
use Rattle.pol_expr.specs.Trees.{Tree, Leaf, Not, Binary, trees_after}

-- the words of a kind of expression: of its leaves, before the operand of a negation, and between two operands
pub record Words (V O : Type 0) : Type 0 where
  pub leaf : V → List ℕ
  pub negation : List ℕ
  pub between : O → List ℕ

abbrev pub is_binary : {V O : Type 0} → Tree V O → Bool
is_binary (Leaf v) = false
is_binary (Not t) = false
is_binary (Binary o l r) = true

-- An operand whose own operator stands between two operands is put in parentheses, and every other stands without.
abbrev pub enclosed : Bool → List ℕ → List ℕ
enclosed true text = codes "(" ++ text ++ codes ")"
enclosed false text = text

unfoldable pub infix_of : {V O : Type 0} → Words V O → Tree V O → List ℕ
infix_of words (Leaf v) = words.leaf v
infix_of words (Not t) = words.negation ++ enclosed (is_binary t) (infix_of words t)
infix_of words (Binary o l r) = enclosed (is_binary l) (infix_of words l) ++ words.between o ++ enclosed (is_binary r) (infix_of words r)

-- the text of the latest of some trees
abbrev pub tree_text : {V O : Type 0} → Words V O → List (Tree V O) → List ℕ
tree_text words [] = []
tree_text words (t ∷ ts) = infix_of words t

-- the text of the tree whose symbols these are, each operator after its operands
abbrev pub symbols_text : {V O : Type 0} → Words V O → List (Symbol V O) → List ℕ
symbols_text words ss = tree_text words (trees_after ss [])

-- the text of an operand, and whether its own operator stands between two operands
pub record Operand : Type 0 where
  pub text : List ℕ
  pub is_binary : Bool

abbrev pub enclosed_text : Operand → List ℕ
enclosed_text operand = enclosed operand.is_binary operand.text

abbrev pub leaf_operand : {V O : Type 0} → Words V O → V → Operand
leaf_operand words v = record { text = words.leaf v; is_binary = false }

abbrev pub negated_operand : {V O : Type 0} → Words V O → Operand → Operand
negated_operand words x = record { text = words.negation ++ enclosed_text x; is_binary = false }

abbrev pub joined_operands : {V O : Type 0} → Words V O → O → Operand → Operand → Operand
joined_operands words o left right = record { text = enclosed_text left ++ words.between o ++ enclosed_text right; is_binary = true }
