-- A policy that is made is sound.
use Rattle.std.proofs.Common.{◌≡◌, ℕ, ◌+◌, ◌≤◌, None, length, sym, ap, subst, append_assoc, arith}
use Rattle.pol_fields.specs.declared.limits.TheConstants.{MAX_POLICY_BYTES}
use Rattle.std.proofs.lemmas.List.{append-nil}
use Rattle.std.proofs.lemmas.Bool.{le-leb}
use Rattle.pol_fields.specs.declared.fields.TheConstants.{END_END}
use Rattle.pol_file.specs.declared.HeaderRec.{HeaderRec}
use Rattle.pol_symtab.specs.SymbolTables.{BareTable}
use Rattle.pol_datums.specs.declared.TypeRec.{TypeRec}
use Rattle.pol_symbols.specs.declared.Symbols.{Symbols}
use Rattle.pol_symbols.specs.PolicySymbols.{symbols_at}
use Rattle.pol_file.specs.declared.Front.{Front}
use Rattle.pol_file.specs.PolicyParts.{rule_lists_at, label_lists_at, policy_at}
use Rattle.pol_file.specs.Acceptance.{undeclared}
use Rattle.pol_tree.specs.TreeSpelling.{spell_symbols, spell_rules, spell_labels, spell}
use Rattle.pol_write.specs.Soundness.{unsound, IsSound}
use Rattle.pol_write.proofs.FoundParts.{HasFront, HasSymbols, HasRules, HasLabels}
use Rattle.pol_make.specs.MadeSymbols.{attribute_count, made_nprims}
use Rattle.pol_make.specs.Made.{Allowed, made}
use Rattle.pol_moved.proofs.Granted.{Grants, GrantsLast, grants-to_last, grants-end, grants-last-as}
use Rattle.pol_moved.proofs.GrantedPolicy.{granted-accepted}
use Rattle.pol_make.proofs.GrantedSymbolTables.{front-granted, symbols-granted}
use Rattle.pol_make.proofs.GrantedParts.{rule_lists-granted, label_lists-granted}
use Rattle.pol_make.proofs.FittingPolicy.{made-fits}
use Rattle.pol_make.proofs.MadeReferences.{all-declared}
use Rattle.pol_make.proofs.MadeShape.{made-shaped}
use Rattle.pol_make.proofs.MadeLength.{made-takes}

-- ---- it is read

-- the number of type values that was read, and the version
type-count : (n : ℕ) (symbols : Symbols) → HasSymbols (made n) symbols → n + attribute_count n ≡ symbols.types.nprim
unfolding made made_nprims
type-count n symbols has = sym (ap (λ (t : BareTable TypeRec). t.nprim) has.types)

made-version : (n : ℕ) (front : Front) → HasFront (made n) front → 31 ≡ front.header.version
unfolding made
made-version n front has = sym (ap (λ (header : HeaderRec). header.version) has.header)

-- Part after part is read, and each reference of what was read is declared.
policy-granted : (n : ℕ) → Allowed n → GrantsLast policy_at (λ policy. undeclared policy ≡ None) (spell (made n))
unfolding policy_at spell
policy-granted n allowed =
    let many : 20 ≤ n = omega (arith, allowed.least) in
    let most = allowed.most in
    grants-last-as
    (grants-to_last _ (front-granted n) λ front has_front.
    let same : 31 ≡ front.header.version = made-version n front has_front in
    grants-to_last _ (subst (λ (version : ℕ). Grants (symbols_at version) (HasSymbols (made n)) (spell_symbols (made n))) same (symbols-granted n most)) λ symbols has_symbols.
    grants-to_last _ (subst (λ (version : ℕ). Grants (rule_lists_at version) (HasRules (made n)) (spell_rules (made n))) same (rule_lists-granted n many most)) λ rules has_rules.
    let labels-granted = subst (λ (types : ℕ). Grants (label_lists_at 31 types) (HasLabels (made n)) (spell_labels (made n))) (type-count n symbols has_symbols) (label_lists-granted n many most) in
    grants-to_last _ (subst (λ (version : ℕ). Grants (label_lists_at version symbols.types.nprim) (HasLabels (made n)) (spell_labels (made n))) same labels-granted) λ labels has_labels.
    grants-end END_END (record { front = front; symbols = symbols; rules = rules; labels = labels }) (all-declared n many (record { front = front; symbols = symbols; rules = rules; labels = labels }) has_symbols has_rules has_labels))
    (simp (append_assoc, append-nil))

-- ---- it is accepted

pub made-sound : (n : ℕ) → Allowed n → IsSound (made n)
unfolding unsound
made-sound n allowed =
    let many : 20 ≤ n = omega (arith, allowed.least) in
    record {
      fits = made-fits n many allowed.most;
      accepted = rw (made-shaped n many, le-leb (length (spell (made n))) MAX_POLICY_BYTES (made-takes n many allowed.most)) (granted-accepted (spell (made n)) (policy-granted n allowed));
    }
