use Rattle.std.proofs.Common.{◌≡◌, true, false, [], ap, sym, ◌∙◌, arith}
use Rattle.value_groups.specs.Among.{is_among}
use Rattle.value_groups.specs.Inner.Marking.{MarkedValues, with_value}
use Rattle.pol_expand.specs.PlainTypes.{is_type_value}
use Rattle.pol_expand.proofs.Holders.{held_by_none, held_by_ends}
use Rattle.pol_expand.proofs.stored_ends.ends_holding.Goals as goal

pub returns-then-not-is_type-clause-each : goal.returns-then-not-is_type-clause-each
returns-then-not-is_type-clause-each g c value is places =
    let answer : c.is_type.result ≡ false = grind (arith, c.if-not-is_type.true) in
    let none : is_type_value c.args.policy.now c.args.node ≡ false = sym c.is_type.ensures ∙ answer in
    ap (λ (m : MarkedValues). is_among m.values value) c.in_ok-ends.ensures ∙ held_by_none c.args.policy.now (g.E.EndsInUse.has c.args.had.now) c.args.node value is places none

pub returns-clause-each : goal.returns-clause-each
returns-clause-each g c value is places =
    let answer : c.is_type.result ≡ true = grind (arith, c.if-not-is_type.false) in
    let type : is_type_value c.args.policy.now c.args.node ≡ true = sym c.is_type.ensures ∙ answer in
    let first : c.add.new.self.values ≡ with_value [] c.args.node =
    ap (λ (m : MarkedValues). m.values) c.in_ok-add.ensures.added ∙ ap (λ (m : MarkedValues). with_value m.values c.args.node) c.in_ok-ends.ensures in
    held_by_ends c.args.policy.now (g.E.EndsInUse.has c.args.had.now) c.args.node value c.add.new.self.values c.add_attributes.new.ends.values is places type first (c.in_ok-add_attributes.ensures.each value)

pub returns-clause-within : goal.returns-clause-within
returns-clause-within g c k d lt =
    let w = c.values.ensures.within k d lt in
    let grown = c.in_ok-add_attributes.ensures.count in
    let added = ap (λ (m : MarkedValues). m.count) c.in_ok-add.ensures.added in
    let begun = ap (λ (m : MarkedValues). m.count) c.in_ok-ends.ensures in
    omega (arith, w, grown, added, begun, c.type_count.ensures.count)
