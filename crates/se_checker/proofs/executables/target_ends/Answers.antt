use Rattle.std.proofs.Common.{◌≡◌, get_or, true, ap, ◌∙◌, arith}
use Rattle.std.proofs.lemmas.List.Elements.{All-get_or}
use Rattle.value_groups.specs.Inner.Marking.{MarkedValues}
use Rattle.pol_expand.specs.JoinedTypes.{is_between_types}
use Rattle.rules_between.proofs.ByOneEnd.{targets_more}
use Rattle.se_checker.proofs.GivenFiles.{target_at}
use Rattle.se_checker.proofs.executables.target_ends.Goals as goal

pub add-requires : goal.add-requires
add-requires c =
    let policy = c.args.policy.now in
    let i = c.loop-number.number-index in
    let between = All-get_or (λ number. is_between_types policy number ≡ true) c.args.numbers.now i 0 c.loop-number-test.true c.requires in
    let is = target_at c.is_accepted.ensures.accepted.0 policy (get_or c.args.numbers.now i 0) c.rule_ends.result c.is_accepted.ensures.accepted.1 between c.rule_ends.ensures.is in
    omega (arith, is.0.within.1, c.loop-number.invariant.0)

pub loop-number-preserved : goal.loop-number-preserved
loop-number-preserved c =
    let policy = c.args.policy.now in
    let numbers = c.args.numbers.now in
    let i = c.loop-number.number-index in
    let between = All-get_or (λ number. is_between_types policy number ≡ true) numbers i 0 c.loop-number-test.true c.requires in
    let is = target_at c.is_accepted.ensures.accepted.0 policy (get_or numbers i 0) c.rule_ends.result c.is_accepted.ensures.accepted.1 between c.rule_ends.ensures.is in (
      ap (λ (m : MarkedValues). m.count) c.in_ok-add.ensures.added ∙ c.loop-number.invariant.0,
      targets_more policy numbers i c.rule_ends.result.target c.loop-number.ends.values c.add.new.self.values c.loop-number-test.true c.loop-number.invariant.1 is.0 is.1 (ap (λ (m : MarkedValues). m.values) c.in_ok-add.ensures.added),
    )
