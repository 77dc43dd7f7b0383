-- A cause that is no reference has no other part than its word.
use Rattle.std.proofs.Common.{◌≡◌, ◌∷◌, [], ℕ, refl}
use Rattle.pol_fields.specs.declared.Cause.{Cause}
use Rattle.pol_fields.specs.declared.Cause.TheVariants.{Dangling}
use Rattle.pol_fields.specs.declared.TableKind.{TableKind}
use Rattle.pol_fields.specs.FaultWords.{cause_word}
use Rattle.se_status.specs.Message.{cause_parts}

pub cause-alone : (cause : Cause) → ((table : TableKind) (value : ℕ) → cause ≡ Dangling table value → ⊥) → cause_parts cause ≡ cause_word cause ∷ []
cause-alone (Dangling table value) other = absurd (other table value refl)
cause-alone _ other = refl
