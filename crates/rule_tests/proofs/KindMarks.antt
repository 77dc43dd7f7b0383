-- What specifies a kind that is asked is marked by its seven lowest bits.
use Rattle.std.proofs.Common.{◌≡◌, ⊎_elim, ℕ, ◌%◌, ◌<◌, ◌≤◌, Bool, true, false, List, refl, sym, ap, ◌∙◌, arith}
use Rattle.std.specs.Prelude.{◌==◌, if◌then◌else◌, slice_index_or}
use Rattle.std.proofs.lemmas.Bool.{cases_lt, ne_eqb, or_right, or_left}
use Rattle.std.proofs.lemmas.Grind.{and_numeral}
use Rattle.std.proofs.lemmas.List.FromFn.{get_or-map-range_with_len}
use Rattle.pol_avtab.specs.AvKeys.{kind_of}
use Rattle.pol_read.specs.declared.RuleKind.TheVariants.{AllowXperm, AuditallowXperm, DontauditXperm}
use Rattle.pol_read.specs.StoredRules.{rule_kind}
use Rattle.rule_tests.specs.AskedKinds.{is_kind_asked}
use Rattle.rule_tests.specs.Inner.AskedVectors.{extended_kinds, is_any_asked, is_low_asked, low_marks}

-- a number that is none of those of the other kinds is that of a kind with ioctl numbers
extended_asked : (kinds : List Bool) (a b : Bool) → is_kind_asked kinds (if a then AllowXperm else if b then AuditallowXperm else DontauditXperm) ≡ true → is_any_asked kinds extended_kinds ≡ true
extended_asked kinds true b e = or_left _ _ e
extended_asked kinds false true e = or_right _ _ (or_left _ _ e)
extended_asked kinds false false e = or_right _ _ (or_right _ _ (or_left _ _ e))

large_kind : (kind : ℕ) → 128 ≤ kind → rule_kind kind ≡ (if kind == 0x100 then AllowXperm else if kind == 0x200 then AuditallowXperm else DontauditXperm)
large_kind kind le =
    let other = λ (n : ℕ) (lt : n < 128). ne_eqb kind n (λ e. omega (arith, e, le, lt)) in
    rw (other 0x1 (omega arith), other 0x2 (omega arith), other 0x4 (omega arith), other 0x10 (omega arith), other 0x20 (omega arith), other 0x40 (omega arith)) refl

kind_low : (kinds : List Bool) (specified : ℕ) → is_kind_asked kinds (rule_kind (kind_of specified)) ≡ true → is_low_asked kinds (specified % 128) ≡ true
kind_low kinds specified asked =
    let kind = kind_of specified in
    let is : kind ≡ specified % 0x8000 = and_numeral specified 0x7FFE refl in
    ⊎_elim
    (λ (small : kind < 128).
    let low : specified % 128 ≡ kind = omega (arith, is, small) in
    or_right _ _ (ap (λ (n : ℕ). is_kind_asked kinds (rule_kind n)) low ∙ asked))
    (λ (large : 128 ≤ kind).
    or_left _ _ (extended_asked kinds (kind == 0x100) (kind == 0x200) (sym (ap (is_kind_asked kinds) (large_kind kind large)) ∙ asked)))
    (cases_lt kind 128)

pub kind_marked : (kinds : List Bool) (specified : ℕ) → is_kind_asked kinds (rule_kind (kind_of specified)) ≡ true → slice_index_or (low_marks kinds) (specified % 128) false ≡ true
kind_marked kinds specified asked = get_or-map-range_with_len (is_low_asked kinds) 0 128 (specified % 128) (specified % 128) false (omega arith) (omega arith) ∙ kind_low kinds specified asked
