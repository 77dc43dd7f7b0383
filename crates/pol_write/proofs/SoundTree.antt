-- The tree of a file that is accepted is sound.
use Rattle.std.proofs.Common.{◌≡◌, ℕ, ◌≤◌, None, Ok, List, length, refl, ◌∙◌}
use Rattle.pol_fields.specs.declared.limits.TheConstants.{MAX_POLICY_BYTES}
use Rattle.std.proofs.lemmas.Bool.{le-leb}
use Rattle.pol_cursor.specs.Spelling.{AreBytes}
use Rattle.pol_file.specs.declared.Parts.{Parts}
use Rattle.pol_file.specs.Acceptance.{accept}
use Rattle.pol_tree.specs.PolicyTree.{tree_of}
use Rattle.pol_write.specs.Soundness.{unsound, IsSound}
use Rattle.pol_write.proofs.JudgedBytes.{accepted_bytes}
use Rattle.pol_write.proofs.ShapedTree.{accepted_tree_is_shaped}
use Rattle.pol_write.proofs.SpelledTree.{accepted_tree_is_spelled, accepted_tree_fits}

pub accepted_tree_is_sound : (bytes : List ℕ) (policy : Parts) → AreBytes bytes → length bytes ≤ MAX_POLICY_BYTES → accept bytes ≡ Ok policy → IsSound (tree_of policy)
unfolding unsound
accepted_tree_is_sound bytes policy are few e = record {
  fits = accepted_tree_fits bytes policy are e;
  accepted = rw (accepted_tree_is_shaped bytes policy e, accepted_tree_is_spelled bytes policy are e) (accepted_bytes bytes policy few e);
}
