-- A policy that is cut short is refused at the part within which it was cut.
use Rattle.std.proofs.Common.{◌≡◌, ℕ, ◌+◌, ◌-◌, ◌<◌, ◌≤◌, List, length, take, Some, None, Ok, Err, refl, sym, ap, subst, ◌∙◌, inl, inr, ◌⊎◌, arith}
use Rattle.std.proofs.lemmas.Bool.{cases_lt}
use Rattle.std.proofs.lemmas.List.{take_all}
use Rattle.pol_fields.specs.declared.Fault.{Fault}
use Rattle.pol_fields.specs.declared.Cause.TheVariants.{Short}
use Rattle.pol_cursor.specs.Outcome.{Outcome, fault}
use Rattle.pol_file.specs.declared.Parts.{Parts}
use Rattle.pol_file.specs.TypeRows.{type_rows_at}
use Rattle.pol_file.specs.PolicyParts.{front_at, rule_lists_at, label_lists_at, policy_at}
use Rattle.pol_file.specs.Acceptance.{judged, accept}
use Rattle.pol_write.specs.CutFiles.{IsCutShort, IsGoodUpTo, CutField}
use Rattle.pol_write.proofs.AcceptedPolicies.{IsRead, accepted_is_read}
use Rattle.pol_write.proofs.CutParts.{IsLocal, CutPart, Reaches, local-done, local-then, local-records_after, local-counted, local-placed, local-end}
use Rattle.pol_write.proofs.CutRecords.{header_local, bitmap_local}
use Rattle.pol_write.proofs.CutTables.{symbols_local, rule_table_local, conditionals_local, role_trans_local, role_allow_local, name_transitions_local, range_trans_local, contexts_local, genfs_local}

-- ---- its readers look at no byte behind their values

type_rows_local : (nprim : ℕ) → IsLocal (type_rows_at nprim)
unfolding type_rows_at
type_rows_local nprim = local-records_after _ _ (λ nprim. bitmap_local (Some nprim)) nprim nprim

front_local : IsLocal front_at
unfolding front_at
front_local =
    local-then header_local λ header.
    local-then (bitmap_local None) λ capabilities.
    local-then (bitmap_local None) λ permissive.
    local-done _

rule_lists_local : (version : ℕ) → IsLocal (rule_lists_at version)
unfolding rule_lists_at
rule_lists_local version =
    local-then (rule_table_local version) λ table.
    local-then (conditionals_local version) λ conditionals.
    local-then (local-counted (local-placed role_trans_local) _) λ role_trans.
    local-then (local-counted (local-placed role_allow_local) _) λ role_allows.
    local-then (name_transitions_local version) λ name_trans.
    local-done _

label_lists_local : (version types : ℕ) → IsLocal (label_lists_at version types)
unfolding label_lists_at
label_lists_local version types =
    local-then (contexts_local version) λ contexts.
    local-then (local-counted (local-placed genfs_local) _) λ genfs.
    local-then (local-counted (local-placed range_trans_local) _) λ range_trans.
    local-then (type_rows_local types) λ type_rows.
    local-done _

policy_local : IsLocal policy_at
unfolding policy_at
policy_local =
    local-then front_local λ front.
    local-then (symbols_local front.header.version) λ symbols.
    local-then (rule_lists_local front.header.version) λ rules.
    local-then (label_lists_local front.header.version symbols.types.nprim) λ labels.
    local-then (local-end _) λ ended.
    local-done _

-- ---- an accepted policy that is cut short

ok_is_no_err : (policy : Parts) (f : Fault) → Ok policy ≡ Err f → ⊥
ok_is_no_err policy f e = cc

module _ (bytes : List ℕ) (policy : Parts) (accepted : accept bytes ≡ Ok policy) where
  read : IsRead bytes policy
  read = accepted_is_read bytes policy accepted

  cut_part : (n : ℕ) → n < length bytes → CutPart policy_at bytes 0 read.next n
  cut_part n lt = (policy_local.read bytes 0 policy read.next read.read).cut n (omega arith) (omega (arith, read.whole, lt))

  module _ (n : ℕ) (lt : n < length bytes) where
    refused : (m : ℕ) → (cut_part n lt).start ≤ m → m < (cut_part n lt).ends → accept (take m bytes) ≡ Err (fault (cut_part n lt).start (cut_part n lt).field Short)
    unfolding accept
    refused m le below = ap judged ((cut_part n lt).within m le below)

    good_up_to : (m : ℕ) → (cut_part n lt).ends ≤ m → (m < length bytes) ⊎ (length bytes ≤ m) → IsGoodUpTo (cut_part n lt).ends (accept (take m bytes))
    unfolding accept
    good_up_to m le (inl below) =
        let ends = (cut_part n lt).ends in
        let other = cut_part m below in
        let short = other.within m other.begins other.lacks in
        let reached : ends ≤ other.start = subst (λ (o : Outcome Parts). Reaches ends o) short ((cut_part n lt).behind m le) in
        subst (λ (o : Outcome Parts). IsGoodUpTo ends (judged o)) (sym short) reached
    good_up_to m le (inr all) = subst (λ result. IsGoodUpTo (cut_part n lt).ends result) (sym (ap accept (take_all m bytes all) ∙ accepted)) tt

    -- the part is in the file, which would be refused otherwise
    part_in_file : (cut_part n lt).ends ≤ length bytes
    part_in_file = in_file (cases_lt (length bytes) (cut_part n lt).ends)
      where
        in_file : (length bytes < (cut_part n lt).ends) ⊎ ((cut_part n lt).ends ≤ length bytes) → (cut_part n lt).ends ≤ length bytes
        in_file (inl below) =
            let whole : take (length bytes) bytes ≡ bytes = take_all (length bytes) bytes (omega arith) in
            let short = refused (length bytes) (omega (arith, (cut_part n lt).begins, lt)) below in
            absurd (ok_is_no_err _ _ (sym accepted ∙ sym (ap accept whole) ∙ short))
        in_file (inr le) = le

pub cut_is_short : (bytes : List ℕ) (n : ℕ) (policy : Parts) → accept bytes ≡ Ok policy → n < length bytes → IsCutShort n (accept (take n bytes))
cut_is_short bytes n policy accepted lt =
    let part = cut_part bytes policy accepted n lt in
    subst (λ result. IsCutShort n result) (sym (refused bytes policy accepted n lt n part.begins part.lacks)) (refl, part.begins)

pub cut_in_field : (bytes : List ℕ) (n : ℕ) (policy : Parts) → accept bytes ≡ Ok policy → n < length bytes → CutField bytes n
cut_in_field bytes n policy accepted lt =
    let part = cut_part bytes policy accepted n lt in
    let width : part.start + (part.ends - part.start) ≡ part.ends = omega (arith, part.begins, part.lacks) in
    record {
      place = part.start;
      width = part.ends - part.start;
      field = part.field;
      begins = part.begins;
      lacks = omega (arith, width, part.lacks);
      stands = record {
        within = λ m le below. refused bytes policy accepted n lt m le (omega (arith, width, below));
        behind = λ m le.
            subst (λ (ends : ℕ). IsGoodUpTo ends (accept (take m bytes))) (sym width)
            (good_up_to bytes policy accepted n lt m (omega (arith, width, le)) (cases_lt m (length bytes)));
        ends = omega (arith, width, part_in_file bytes policy accepted n lt);
      };
    }
