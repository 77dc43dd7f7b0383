-- A text that is made piece by piece.
use Rattle.std.specs.Prelude.{◌≡◌, ◌<◌, ℕ, List, [], ◌++◌, Bool, true, false}

-- What is left of a text, and of how many pieces it is at most.
pub record Left : Type 0 where
  pub text : List ℕ
  pub pieces : ℕ

-- A piece of the text that was left was added to a buffer.
pub record AddsPiece (old new : Left) (had has : List ℕ) : Type 0 where
  pub piece : List ℕ
  pub left : old.text ≡ piece ++ new.text
  pub added : has ≡ had ++ piece
  pub nearer : new.pieces < old.pieces

-- A piece was added, or nothing was left.
abbrev pub PushesPiece : Left → Left → List ℕ → List ℕ → Bool → Type 0
PushesPiece old new had has true = AddsPiece old new had has
PushesPiece old new had has false = (old.text ≡ []) × (has ≡ had)
