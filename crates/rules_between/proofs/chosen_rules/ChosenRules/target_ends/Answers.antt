use Rattle.std.proofs.Common.{◌<◌, ◌+◌, get_or, take, ap, sym, subst, ◌∙◌, length, arith}
use Rattle.std.specs.List.{Contains}
use Rattle.std.proofs.lemmas.List.Elements.{All-contains, All-get_or}
use Rattle.pol_read.specs.StoredRules.{stored_rules}
use Rattle.value_groups.specs.Inner.Marking.{MarkedValues}
use Rattle.rules_between.specs.ChosenRules.{ChosenRules}
use Rattle.rules_between.specs.Inner.RuleTables.{AreTargetsOf}
use Rattle.rules_between.proofs.ByOneEnd.{target_of, targets_more}
use Rattle.rules_between.proofs.Found.{are_rules}
use Rattle.rules_between.proofs.chosen_rules.ChosenRules.target_ends.Goals as goal

pub rule_ends-requires : goal.rule_ends-requires
rule_ends-requires c =
    let policy = c.self.inside.policy.now in
    let table = c.self.inside.table in
    let number = get_or c.args.numbers.now c.loop-number.number-index 0 in
    let there = subst (λ (r : ChosenRules). Contains r.rules number) (sym c.self.view_is) (All-get_or (Contains c.args.self.now.rules) c.args.numbers.now c.loop-number.number-index 0 c.loop-number-test.true c.requires) in
    All-contains (λ n. n < length (stored_rules policy)) table.rules.items number (are_rules policy table.rules.items table.sources.items table.targets.items c.self.invariant.1.ends) there

pub add-requires : goal.add-requires
add-requires c =
    let policy = c.self.inside.policy.now in
    let table = c.self.inside.table in
    let number = get_or c.args.numbers.now c.loop-number.number-index 0 in
    let there = subst (λ (r : ChosenRules). Contains r.rules number) (sym c.self.view_is) (All-get_or (Contains c.args.self.now.rules) c.args.numbers.now c.loop-number.number-index 0 c.loop-number-test.true c.requires) in
    let is = target_of policy table.rules.items table.sources.items table.targets.items number c.rule_ends.result c.self.invariant.1.ends there c.rule_ends.ensures.is in
    omega (arith, is.0.within.1, ap (λ (r : ChosenRules). r.policy.symbols.types.nprim) c.self.view_is, c.loop-number.invariant.0)

pub loop-number-preserved : goal.loop-number-preserved
loop-number-preserved c =
    let policy = c.self.inside.policy.now in
    let table = c.self.inside.table in
    let numbers = c.args.numbers.now in
    let i = c.loop-number.number-index in
    let number = get_or numbers i 0 in
    let there = subst (λ (r : ChosenRules). Contains r.rules number) (sym c.self.view_is) (All-get_or (Contains c.args.self.now.rules) numbers i 0 c.loop-number-test.true c.requires) in
    let is = target_of policy table.rules.items table.sources.items table.targets.items number c.rule_ends.result c.self.invariant.1.ends there c.rule_ends.ensures.is in
    let before = subst (λ (r : ChosenRules). AreTargetsOf r.policy (take i numbers) c.loop-number.ends.values) (sym c.self.view_is) c.loop-number.invariant.1 in (
      ap (λ (m : MarkedValues). m.count) c.in_ok-add.ensures.added ∙ c.loop-number.invariant.0,
      subst (λ (r : ChosenRules). AreTargetsOf r.policy (take (i + 1) numbers) c.add.new.self.values) c.self.view_is
          (targets_more policy numbers i c.rule_ends.result.target c.loop-number.ends.values c.add.new.self.values c.loop-number-test.true before is.0 is.1 (ap (λ (m : MarkedValues). m.values) c.in_ok-add.ensures.added)),
    )
