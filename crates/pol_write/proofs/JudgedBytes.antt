-- What the writer answers of bytes that a reader was asked about.
use Rattle.std.proofs.Common.{◌≡◌, ℕ, ◌≤◌, List, length, refl}
use Rattle.pol_fields.specs.declared.limits.TheConstants.{MAX_POLICY_BYTES}
use Rattle.std.specs.Prelude.{Ok, Err, None, Some}
use Rattle.std.proofs.lemmas.Bool.{le-leb}
use Rattle.pol_fields.specs.declared.Fault.{Fault}
use Rattle.pol_file.specs.declared.Parts.{Parts}
use Rattle.pol_file.specs.Acceptance.{accept}
use Rattle.pol_write.specs.Soundness.{unsound_bytes}
use Rattle.pol_write.specs.declared.errors.Unsound.TheVariants as reasons

pub accepted_bytes : (bytes : List ℕ) (policy : Parts) → length bytes ≤ MAX_POLICY_BYTES → accept bytes ≡ Ok policy → unsound_bytes bytes ≡ None
accepted_bytes bytes policy small e = rw (le-leb (length bytes) MAX_POLICY_BYTES small, e) refl

pub refused_bytes : (bytes : List ℕ) (fault : Fault) → length bytes ≤ MAX_POLICY_BYTES → accept bytes ≡ Err fault → unsound_bytes bytes ≡ Some (reasons.Fault fault)
refused_bytes bytes fault small e = rw (le-leb (length bytes) MAX_POLICY_BYTES small, e) refl
