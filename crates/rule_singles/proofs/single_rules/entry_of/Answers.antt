use Rattle.rule_singles.proofs.Made.{entry_is}
use Rattle.rule_singles.proofs.Pools.{number_stays, sets_stay}
use Rattle.rule_singles.proofs.single_rules.entry_of.Goals as goal

pub returns-in_err-sources-clause-targets : goal.returns-in_err-sources-clause-targets
returns-in_err-sources-clause-targets c = sets_stay 1 c.args.policy.now c.args.targets.now.left c.args.pool.now c.number_of.new.pool c.args.targets.now.numbers.items c.number_of.ensures.grows c.requires.targets

pub number_of-requires-2-clause-right : goal.number_of-requires-2-clause-right
number_of-requires-2-clause-right c = sets_stay 1 c.args.policy.now c.args.targets.now.left c.args.pool.now c.number_of.new.pool c.args.targets.now.numbers.items c.number_of.ensures.grows c.requires.targets

pub returns-in_err-targets-clause-sources : goal.returns-in_err-targets-clause-sources
returns-in_err-targets-clause-sources c = sets_stay 1 c.args.policy.now c.number_of.new.self.left c.number_of.new.pool c.number_of-2.new.pool c.number_of.new.self.numbers.items c.number_of-2.ensures.grows c.number_of.ensures.right

pub returns-clause-sources : goal.returns-clause-sources
returns-clause-sources c = sets_stay 1 c.args.policy.now c.number_of.new.self.left c.number_of.new.pool c.number_of-2.new.pool c.number_of.new.self.numbers.items c.number_of-2.ensures.grows c.number_of.ensures.right

pub returns-clause-entry : goal.returns-clause-entry
returns-clause-entry c = λ criteria from to.
    entry_is c.args.policy.now criteria c.args.sources.now.left c.args.targets.now.left c.number_of-2.new.pool c.args.number c.in_ok-sources.sources c.in_ok-targets.targets c.rule_ends-ends.result from to c.rule_ends-ends.ensures.is c.rule_ends-ends.ensures.declared
    (number_stays 1 c.number_of.new.pool c.number_of-2.new.pool _ c.in_ok-sources.sources c.number_of-2.ensures.grows (rw c.source_table-table.ensures at c.in_ok-sources.ensures.number))
    (rw c.target_table-table.ensures at c.in_ok-targets.ensures.number)
