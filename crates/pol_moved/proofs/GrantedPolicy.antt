-- A policy of which each part is read, and each reference declared, is accepted; and records with no wrong optional part.
use Rattle.std.proofs.Common.{◌≡◌, ℕ, ◌+◌, Option, None, List, [], ◌∷◌, ◌++◌, length, refl}
use Rattle.std.specs.List.{AllByRecursion}
use Rattle.std.proofs.lemmas.List.{append-nil}
use Rattle.pol_fields.specs.declared.Field.{Field}
use Rattle.pol_cursor.specs.Outcome.{Outcome, Got, Bad}
use Rattle.pol_file.specs.declared.Parts.{Parts}
use Rattle.pol_file.specs.PolicyParts.{policy_at}
use Rattle.pol_file.specs.Acceptance.{undeclared, judged, accept}
use Rattle.pol_tree.specs.OptionalParts.{first_of, first_in}
use Rattle.pol_tree.proofs.Wrongs.{none-first}
use Rattle.pol_write.specs.Soundness.{refusal_of}
use Rattle.pol_moved.proofs.Granted.{IsGiven, GrantsLast}

not-refused : (o : Outcome Parts) (n : ℕ) → IsGiven (λ policy. undeclared policy ≡ None) n o → refusal_of (judged o) ≡ None
not-refused (Got policy next) n h = rw h.0 refl
not-refused (Bad fault) n h = absurd h

pub granted-accepted : (bytes : List ℕ) → GrantsLast policy_at (λ policy. undeclared policy ≡ None) bytes → refusal_of (accept bytes) ≡ None
unfolding accept
granted-accepted bytes granted = rw append-nil at (not-refused (policy_at (bytes ++ []) 0) (0 + length bytes) (granted.gives []))

-- records of which none has a wrong part
pub none-in : {A : Type 0} (shape_of : A → Option Field) (xs : List A) → AllByRecursion (λ x. shape_of x ≡ None) xs → first_in shape_of xs ≡ None
unfolding first_of
none-in shape_of [] h = refl
none-in shape_of (x ∷ xs) h = none-first (shape_of x) _ h.0 (none-in shape_of xs h.1)
