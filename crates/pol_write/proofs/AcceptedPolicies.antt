-- A policy that is accepted was read up to the end of its file.
use Rattle.std.proofs.Common.{◌≡◌, ℕ, ◌≤◌, Option, Some, None, Ok, List, length, ap, arith}
use Rattle.pol_fields.specs.declared.Fault.{Fault}
use Rattle.pol_fields.specs.declared.fields.TheConstants.{END_END}
use Rattle.pol_cursor.specs.Outcome.{Outcome, Reader, Got, Bad, ◌>>=◌, done}
use Rattle.pol_cursor.specs.Parts.{end_at}
use Rattle.pol_cursor.proofs.Laws.{and_then_got}
use Rattle.pol_symbols.specs.PolicySymbols.{symbols_at}
use Rattle.pol_file.specs.declared.Parts.{Parts}
use Rattle.pol_file.specs.PolicyParts.{front_at, rule_lists_at, label_lists_at, policy_at}
use Rattle.pol_file.specs.Acceptance.{undeclared, unless_undeclared, judged, accept}
use Rattle.pol_write.proofs.CutParts.{ends_there}

-- ---- nothing is left

-- Where a value was read, no byte stands behind it.
record IsWhole {A : Type 0} (r : Reader A) : Type 0 where
  whole : (bytes : List ℕ) (place : ℕ) (x : A) (next : ℕ) → r bytes place ≡ Got x next → length bytes ≤ next

whole-then : {A B : Type 0} (r : Reader A) {f : A → Reader B} → ((x : A) → IsWhole (f x)) → IsWhole (r >>= f)
whole-then {A} {B} r {f} f_whole = record {
  whole = λ bytes place y next e.
      let g = and_then_got (r bytes place) (λ x next. f x bytes next) y next e in
      (f_whole g.0).whole bytes g.1 y next g.3;
}

whole-end : {A : Type 0} (x : A) → IsWhole (end_at END_END >>= λ ended. done x)
whole-end x = record {
  whole = λ bytes place y next e.
      let g = and_then_got (end_at END_END bytes place) (λ ended next. Got x next) y next e in
      let h = ends_there END_END bytes place g.0 g.1 g.2 in
      let same : g.1 ≡ next = got_place x g.1 y next g.3 in
      omega (arith, h.0, h.1, same);
}
  where
    got_place : {A : Type 0} (x : A) (n : ℕ) (y : A) (m : ℕ) → Got x n ≡ Got y m → n ≡ m
    got_place x n y m e = cc

policy_whole : IsWhole policy_at
unfolding policy_at
policy_whole =
    whole-then front_at λ front.
    whole-then (symbols_at front.header.version) λ symbols.
    whole-then (rule_lists_at front.header.version) λ rules.
    whole-then (label_lists_at front.header.version symbols.types.nprim) λ labels.
    whole-end _

-- ---- acceptance

unless_ok : (dangling : Option Fault) (read policy : Parts) → unless_undeclared dangling read ≡ Ok policy → read ≡ policy
unless_ok None read policy e = cc
unless_ok (Some fault) read policy e = absurd cc

judged_ok : (o : Outcome Parts) (policy : Parts) → judged o ≡ Ok policy → (next : ℕ) × (o ≡ Got policy next)
judged_ok (Got read next) policy e = (next, ap (λ (p : Parts). Got p next) (unless_ok (undeclared read) read policy e))
judged_ok (Bad fault) policy e = absurd cc

-- the policy was read from the first byte to an end behind which no byte stands
pub record IsRead (bytes : List ℕ) (policy : Parts) : Type 0 where
  pub next : ℕ
  pub read : policy_at bytes 0 ≡ Got policy next
  pub whole : length bytes ≤ next

pub accepted_is_read : (bytes : List ℕ) (policy : Parts) → accept bytes ≡ Ok policy → IsRead bytes policy
unfolding accept
accepted_is_read bytes policy e =
    let read = judged_ok (policy_at bytes 0) policy e in
    record { next = read.0; read = read.1; whole = policy_whole.whole bytes 0 policy read.0 read.1 }
