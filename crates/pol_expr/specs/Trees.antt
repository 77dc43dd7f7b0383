-- Expressions as trees, and the lists of symbols that stand for them.
use Rattle.std.specs.Prelude.{ℕ, List, [], ◌∷◌, ◌++◌}
use Rattle.std.specs.List.{fold}
use Rattle.pol_expr.specs.declared.symbol.Symbol.{Symbol}
use Rattle.pol_expr.specs.declared.symbol.Symbol.TheVariants as symbols

-- an expression of leaves, negations and operators between two operands, the left one first
pub data Tree (V O : Type 0) : Type 0 where
  Leaf : V → Tree V O
  Not : Tree V O → Tree V O
  Binary : O → Tree V O → Tree V O → Tree V O

-- its symbols, each operator after its operands
unfoldable pub postorder : {V O : Type 0} → Tree V O → List (Symbol V O)
postorder (Leaf v) = symbols.Leaf v ∷ []
postorder (Not t) = postorder t ++ symbols.Not ∷ []
postorder (Binary o l r) = postorder l ++ postorder r ++ symbols.Binary o ∷ []

abbrev pub operand_count : {V O : Type 0} → Symbol V O → ℕ
operand_count (symbols.Leaf v) = 0
operand_count symbols.Not = 1
operand_count (symbols.Binary o) = 2

-- What a symbol makes of the meanings that stand before it, the latest of them first: it takes its operands, the right one
-- first, and leaves its own meaning. Where operands are missing nothing is left.
abbrev pub applied : {V O B : Type 0} → (V → B) → (B → B) → (O → B → B → B) → Symbol V O → List B → List B
applied leaf negated joined (symbols.Leaf v) xs = leaf v ∷ xs
applied leaf negated joined symbols.Not [] = []
applied leaf negated joined symbols.Not (x ∷ xs) = negated x ∷ xs
applied leaf negated joined (symbols.Binary o) [] = []
applied leaf negated joined (symbols.Binary o) (r ∷ []) = []
applied leaf negated joined (symbols.Binary o) (r ∷ l ∷ xs) = joined o l r ∷ xs

-- the trees that symbols leave, the latest of them first: each takes its operands from those before it
abbrev pub trees_after : {V O : Type 0} → List (Symbol V O) → List (Tree V O) → List (Tree V O)
trees_after ss trees = fold (λ ts s. applied Leaf Not Binary s ts) trees ss
