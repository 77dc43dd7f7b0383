-- What writing leaves of the bytes: the promise of each writer.
use Rattle.std.specs.Prelude.{◌≡◌, ℕ, List, ◌++◌, Result, Ok, Err}
use Rattle.std.specs.declared.alloc.AllocError.{AllocError}
use Rattle.pol_cursor.specs.declared.part.Part.{Part}
use Rattle.pol_cursor.specs.declared.part.Part.TheVariants as parts
use Rattle.pol_cursor.specs.Spelling.{bytes_of}

-- a beginning of the text, which may be none of it or all of it, stands behind the old bytes
pub record GainsFront (old new text : List ℕ) : Type 0 where
  pub front : List ℕ
  pub rest : List ℕ
  pub whole : text ≡ front ++ rest
  pub gained : new ≡ old ++ front

-- the whole text stands behind the old bytes, or, out of memory, a beginning of it
abbrev pub Writes : List ℕ → List ℕ → List ℕ → Result (Unit {0}) AllocError → Type 0
Writes old new text (Ok u) = new ≡ old ++ text
Writes old new text (Err e) = GainsFront old new text

-- the bytes of a number or of bytes
abbrev pub spell_part : Part → List ℕ
spell_part (parts.U8 n) = bytes_of 1 n
spell_part (parts.U16 n) = bytes_of 2 n
spell_part (parts.U32 n) = bytes_of 4 n
spell_part (parts.U64 n) = bytes_of 8 n
spell_part (parts.Bytes bytes) = bytes.now
