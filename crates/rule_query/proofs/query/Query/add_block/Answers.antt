use Rattle.std.proofs.Common.{◌≡◌, ◌∙◌, ◌+◌, [], drop, get_or, take, arith, refl}
use Rattle.std.proofs.lemmas.List.{drop_all}
use Rattle.rule_query.proofs.PassedRules.{gathered_passing, next_number, no_number}
use Rattle.rule_query.proofs.query.Query.add_block.Goals as goal

pub loop-number-init : goal.loop-number-init
loop-number-init c = record { left = record { from = c.args.from; met = c.requires.found; gathered = rw (rw c.table.ensures at c.gather-count.ensures.all) (gathered_passing c.args.policy.now c.args.self.now c.args.asked.now c.args.from c.args.to c.requires.asked c.requires.rising c.requires.within) }; limit = refl }

pub add_vector-requires : goal.add_vector-requires
add_vector-requires c =
    let numbers = take c.gather-count.result c.gather-count.new.numbers in
    let next = next_number c.args.policy.now c.args.self.now c.is_accepted.ensures.accepted.0 c.loop-number.found c.is_accepted.ensures.accepted.1 c.args.to c.requires.within numbers c.loop-number.number-index 0 c.loop-number-test.true c.loop-number.invariant.left in
    record { within = omega (arith, next.below, c.requires.within); found = next.met }

pub loop-number-preserved : goal.loop-number-preserved
loop-number-preserved c =
    let numbers = take c.gather-count.result c.gather-count.new.numbers in
    let number = get_or numbers c.loop-number.number-index 0 in
    let next = next_number c.args.policy.now c.args.self.now c.is_accepted.ensures.accepted.0 c.loop-number.found c.is_accepted.ensures.accepted.1 c.args.to c.requires.within numbers c.loop-number.number-index 0 c.loop-number-test.true c.loop-number.invariant.left in
    record { left = record { from = number + 1; met = c.in_ok-add_vector.ensures.found; gathered = next.gathered }; limit = c.in_ok-add_vector.ensures.limit ∙ c.loop-number.invariant.limit }

pub returns-clause-found : goal.returns-clause-found
returns-clause-found c =
    let numbers = take c.gather-count.result c.gather-count.new.numbers in
    let none : drop c.loop-number.number-index numbers ≡ [] = drop_all c.loop-number.number-index numbers (omega (arith, c.loop-number-test.false)) in
    no_number c.args.policy.now c.args.self.now c.is_accepted.ensures.accepted.0 c.loop-number.found c.is_accepted.ensures.accepted.1 c.args.to c.requires.within (rw none at c.loop-number.invariant.left)
