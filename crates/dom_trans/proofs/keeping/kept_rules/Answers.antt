use Rattle.std.proofs.Common.{◌≡◌, ◌+◌, ℕ, Some, arith, length, sym, ap, subst, ◌∙◌}
use Rattle.std.specs.Prelude.{option_map, slice_get}
use Rattle.pol_file.specs.declared.Parts.{Parts}
use Rattle.pol_read.specs.StoredRules.{ends_of, stored_rules}
use Rattle.dom_trans.specs.declared.keeping.Wanted.{Wanted}
use Rattle.dom_trans.specs.Inner.Keeping.{wanted_in, is_asked_class, AreKept}
use Rattle.dom_trans.proofs.Keeps.{kept_past}
use Rattle.dom_trans.proofs.keeping.kept_rules.Goals as goal
use Rattle.dom_trans.proofs.keeping.kept_rules.Goals.{then-asks_class+in_ok-add_counted, else-asks_class}

pub loop-number-init : goal.loop-number-init
loop-number-init c = c.nothing_kept-kept.ensures c.args.rules.now (wanted_in c.args.rules.now.policy.symbols)

pub add_counted-requires-clause-kept : goal.add_counted-requires-clause-kept
add_counted-requires-clause-kept c = subst (λ (asked : Wanted). AreKept c.args.rules.now asked c.loop-number.number c.loop-number.kept) (sym (c.wanted_in-wanted.ensures ∙ ap wanted_in (c.symbols.ensures ∙ ap (λ (p : Parts). p.symbols) c.policy-policy.ensures))) c.loop-number.invariant

pub loop-number-preserved : goal.loop-number-preserved
loop-number-preserved c =
    let rules = c.args.rules.now in
    let wanted = wanted_in rules.policy.symbols in
    let number = c.loop-number.number in
    let kept = c.loop-number.kept in
    let is : c.wanted_in-wanted.result ≡ wanted = c.wanted_in-wanted.ensures ∙ ap wanted_in (c.symbols.ensures ∙ ap (λ (p : Parts). p.symbols) c.policy-policy.ensures) in
    elim c.if-asks_class.branch [
      | then-asks_class+in_ok-add_counted w ↦ subst (AreKept rules wanted (number + 1)) (sym w.kept-is) (subst (λ (asked : Wanted). AreKept rules asked (number + 1) w.add_counted.new.self) is w.in_ok-add_counted.ensures)
      | else-asks_class w ↦
          subst (AreKept rules wanted (number + 1)) (sym w.kept-is)
          (kept_past rules number c.rule_ends.result kept (subst (λ (p : Parts). option_map ends_of (slice_get (stored_rules p) number) ≡ Some c.rule_ends.result) c.policy-policy.ensures c.rule_ends.ensures.is) (ap (λ (asked : Wanted). is_asked_class asked c.rule_ends.result.class) (sym is) ∙ sym c.asks_class.ensures ∙ w.if-asks_class.false) c.loop-number.invariant)
    ]

pub returns-clause-kept : goal.returns-clause-kept
returns-clause-kept c =
    let rules = c.args.rules.now in
    let all : c.loop-number.number ≡ length (stored_rules rules.policy) = omega (arith, c.loop-number-test.false, c.loop-number.auto.number-end, c.rule_count-number-end.ensures.count, ap (λ (p : Parts). length (stored_rules p)) c.policy-policy.ensures) in
    subst (λ (n : ℕ). AreKept rules (wanted_in rules.policy.symbols) n c.loop-number.kept) all c.loop-number.invariant
