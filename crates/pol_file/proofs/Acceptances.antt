-- What acceptance says of a policy: it was read, and its references are declared.
use Rattle.std.proofs.Common.{◌≡◌, ℕ, List, Option, Some, None, Ok, Err, refl}
use Rattle.pol_fields.specs.declared.Fault.{Fault}
use Rattle.pol_cursor.specs.Outcome.{Outcome, Got, Bad}
use Rattle.pol_file.specs.declared.parts.Parts.{Parts}
use Rattle.pol_file.specs.PolicyParts.{policy_at}
use Rattle.pol_file.specs.TypeValues.{HasTypeValues}
use Rattle.pol_file.specs.Acceptance.{undeclared, unless_undeclared, judged, accept}
use Rattle.pol_file.proofs.PolicyTypes.{type_values_read}

-- a policy that was read is refused at its first reference that is undeclared
pub refused_undeclared : (bytes : List ℕ) (policy : Parts) (next : ℕ) (fault : Fault) → policy_at bytes 0 ≡ Got policy next → undeclared policy ≡ Some fault → accept bytes ≡ Err fault
unfolding accept
refused_undeclared bytes policy next fault read first = rw (read, first) refl

-- ---- a policy that is accepted

unless_ok : (dangling : Option Fault) (read policy : Parts) → unless_undeclared dangling read ≡ Ok policy → (dangling ≡ None) × (read ≡ policy)
unless_ok None read policy e = (refl, cc)
unless_ok (Some fault) read policy e = absurd cc

same_references : (read policy : Parts) → read ≡ policy → undeclared read ≡ None → undeclared policy ≡ None
same_references read policy e none = rw e at none

-- it was read up to a place, and each value that it names is declared
pub record WasRead (bytes : List ℕ) (policy : Parts) : Type 0 where
  pub next : ℕ
  pub read : policy_at bytes 0 ≡ Got policy next
  pub declared : undeclared policy ≡ None

judged_ok : (bytes : List ℕ) (policy : Parts) (o : Outcome Parts) → policy_at bytes 0 ≡ o → judged o ≡ Ok policy → WasRead bytes policy
judged_ok bytes policy (Got read next) is e =
    let u = unless_ok (undeclared read) read policy e in
    record { next = next; read = rw (← u.1) is; declared = same_references read policy u.1 u.0 }
judged_ok bytes policy (Bad fault) is e = absurd cc

pub accepted_was_read : (bytes : List ℕ) (policy : Parts) → accept bytes ≡ Ok policy → WasRead bytes policy
unfolding accept
accepted_was_read bytes policy e = judged_ok bytes policy (policy_at bytes 0) refl e

pub accepted_is_declared : (bytes : List ℕ) (policy : Parts) → accept bytes ≡ Ok policy → undeclared policy ≡ None
accepted_is_declared bytes policy e = (accepted_was_read bytes policy e).declared

pub accepted_has_type_values : (bytes : List ℕ) (policy : Parts) → accept bytes ≡ Ok policy → HasTypeValues policy
accepted_has_type_values bytes policy e =
    let was = accepted_was_read bytes policy e in
    type_values_read bytes 0 policy was.next was.read
