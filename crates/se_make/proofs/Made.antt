-- The bytes of a policy that is made are accepted.
use Rattle.std.proofs.Common.{◌≡◌, ◌∙◌, ◌≤◌, ℕ, Bool, true, false, Option, Some, None, Result, Ok, Err, List, length, refl, ap, arith}
use Rattle.pol_fields.specs.declared.limits.TheConstants.{MAX_POLICY_BYTES}
use Rattle.std.specs.Prelude.{nat_le, if◌then◌else◌}
use Rattle.pol_fields.specs.declared.Fault.{Fault}
use Rattle.pol_fields.specs.declared.Field.{Field}
use Rattle.pol_file.specs.declared.Parts.{Parts}
use Rattle.pol_file.specs.Acceptance.{accept}
use Rattle.pol_tree.specs.declared.Tree.{Tree}
use Rattle.pol_tree.specs.TreeShape.{shape}
use Rattle.pol_tree.specs.TreeSpelling.{spell}
use Rattle.pol_make.specs.Made.{Allowed, made}
use Rattle.pol_make.proofs.SoundPolicy.{made-sound}
use Rattle.pol_write.specs.declared.Unsound.{Unsound}
use Rattle.pol_write.specs.declared.Unsound.TheVariants as reasons
use Rattle.pol_write.specs.Soundness.{IsSound, refusal_of, unless_shapeless, unsound, unsound_bytes}
use Rattle.pol_write.proofs.FoundTree.{sound_is_accepted}

no_reason : (field : Option Field) (reason : Option Unsound) → unless_shapeless field reason ≡ None → reason ≡ None
no_reason None reason e = e
no_reason (Some field) reason e = absurd (cc e)

few_bytes : (few : Bool) (bytes : List ℕ) (reason : Option Unsound) → nat_le (length bytes) MAX_POLICY_BYTES ≡ few → (if few then reason else Some reasons.TooLong) ≡ None → length bytes ≤ MAX_POLICY_BYTES
few_bytes true bytes reason le e = grind (arith, le)
few_bytes false bytes reason le e = absurd (cc e)

-- A sound tree is spelled by few bytes.
sound_few : (tree : Tree) (bytes : List ℕ) → IsSound tree → bytes ≡ spell tree → length bytes ≤ MAX_POLICY_BYTES
unfolding unsound
sound_few tree bytes sound is =
    let few = few_bytes (nat_le (length (spell tree)) MAX_POLICY_BYTES) (spell tree) (refusal_of (accept (spell tree))) refl (no_reason (shape tree) (unsound_bytes (spell tree)) sound.accepted) in
    rw is few

not_refused : (result : Result Parts Fault) (policy : Parts) (fault : Fault) → result ≡ Ok policy → result ≡ Err fault → ⊥
not_refused result policy fault ok err = cc (ok, err)

-- ---- the policy of so many types

pub made_few : (n : ℕ) (bytes : List ℕ) → Allowed n → bytes ≡ spell (made n) → length bytes ≤ MAX_POLICY_BYTES
made_few n bytes allowed is = sound_few (made n) bytes (made-sound n allowed) is

pub made_accepted : (n : ℕ) (bytes : List ℕ) (fault : Fault) → Allowed n → bytes ≡ spell (made n) → accept bytes ≡ Err fault → ⊥
made_accepted n bytes fault allowed is refused =
    let sound = sound_is_accepted (made n) (made-sound n allowed) in
    not_refused (accept bytes) sound.0 fault (ap accept is ∙ sound.1) refused
