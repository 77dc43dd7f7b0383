-- Which trees are policies, and why the others are not (this project's profile; what the bytes have to be is acceptance).
use Rattle.std.specs.Prelude.{◌≡◌, ℕ, nat_le, Option, Some, None, Result, Ok, Err, List, length, if◌then◌else◌}
use Rattle.pol_fields.specs.declared.limits.TheConstants.{MAX_POLICY_BYTES}
use Rattle.pol_fields.specs.declared.Fault.{Fault}
use Rattle.pol_fields.specs.declared.Field.{Field}
use Rattle.pol_file.specs.declared.Parts.{Parts}
use Rattle.pol_file.specs.Acceptance.{accept}
use Rattle.pol_tree.specs.declared.Tree.{Tree}
use Rattle.pol_tree.specs.TreeSpelling.{spell}
use Rattle.pol_tree.specs.TreeShape.{shape}
use Rattle.pol_tree.specs.TreeRanges.{TreeFits}
use Rattle.pol_write.specs.declared.errors.Unsound.{Unsound}
use Rattle.pol_write.specs.declared.errors.Unsound.TheVariants as reasons
use Rattle.pol_write.specs.declared.errors.WriteError.{WriteError}
use Rattle.pol_write.specs.declared.errors.WriteError.TheVariants as errors

-- the fault of bytes that are refused
abbrev pub refusal_of : Result Parts Fault → Option Unsound
refusal_of (Ok policy) = None
refusal_of (Err fault) = Some (reasons.Fault fault)

-- why bytes are no policy: they are too many for a reader, or are refused by it
abbrev pub unsound_bytes : List ℕ → Option Unsound
unsound_bytes bytes = if nat_le (length bytes) MAX_POLICY_BYTES then refusal_of (accept bytes) else Some reasons.TooLong

-- a wrong optional part comes first
abbrev pub unless_shapeless : Option Field → Option Unsound → Option Unsound
unless_shapeless (Some field) others = Some (reasons.Shape field)
unless_shapeless None others = others

-- why a tree is no policy: its first wrong optional part, or why its bytes are none
unfoldable pub unsound : Tree → Option Unsound
unsound tree = unless_shapeless (shape tree) (unsound_bytes (spell tree))

-- a tree is a policy: its bytes say it, and there is no reason against it
pub record IsSound (tree : Tree) : Type 0 where
  pub fits : TreeFits tree
  pub accepted : unsound tree ≡ None

-- What the writer answers is that, where memory suffices.
abbrev pub Judges : Result (Unit {0}) WriteError → Option Unsound → Type 0
Judges (Ok u) reason = reason ≡ None
Judges (Err errors.Memory) reason = Unit {0}
Judges (Err (errors.NotSound unsound)) reason = reason ≡ Some unsound
