-- Where the writer answers Ok, the tree is sound.
use Rattle.std.proofs.Common.{◌≡◌, ◌≤◌, Bool, true, false, Option, Some, None, Result, Ok, Err, length, refl, if◌then◌else◌}
use Rattle.pol_fields.specs.declared.limits.TheConstants.{MAX_POLICY_BYTES}
use Rattle.std.specs.Prelude.{nat_le, OnOk}
use Rattle.std.proofs.lemmas.Bool.{leb-true}
use Rattle.pol_file.specs.Acceptance.{accept}
use Rattle.pol_tree.specs.declared.Tree.{Tree}
use Rattle.pol_tree.specs.TreeSpelling.{spell}
use Rattle.pol_tree.specs.TreeShape.{shape}
use Rattle.pol_tree.specs.TreeRanges.{TreeFits}
use Rattle.pol_write.specs.declared.errors.Unsound.{Unsound}
use Rattle.pol_write.specs.declared.errors.Unsound.TheVariants.{TooLong}
use Rattle.pol_write.specs.declared.errors.WriteError.{WriteError}
use Rattle.pol_write.specs.Soundness.{refusal_of, unsound_bytes, unsound, IsSound, Judges}

are_few : (few : Bool) (refusal : Option Unsound) → (if few then refusal else Some TooLong) ≡ None → few ≡ true
are_few true refusal e = refl
are_few false refusal e = absurd cc

pub written_is_sound : (tree : Tree) (result : Result (Unit {0}) WriteError) → shape tree ≡ None → (shape tree ≡ None → length (spell tree) ≤ MAX_POLICY_BYTES → TreeFits tree) → Judges result (unsound_bytes (spell tree))
    → OnOk result (IsSound tree)
unfolding unsound
written_is_sound tree (Ok u) right fit judged = record {
  fits = fit right (leb-true (length (spell tree)) MAX_POLICY_BYTES (are_few (nat_le (length (spell tree)) MAX_POLICY_BYTES) (refusal_of (accept (spell tree))) judged));
  accepted = rw right judged;
}
written_is_sound tree (Err error) right fit judged = tt
