use Rattle.pol_expand.proofs.Holders.{expands_one, one_declared}
use Rattle.pol_expand.proofs.stored_ends.types_of.Goals as goal

pub expansion-requires : goal.expansion-requires
expansion-requires c = one_declared c.args.policy.now c.args.types.now c.args.ends.now c.requires.map c.requires.ends c.if-ends-eq1.true

pub returns-then-ends-eq1 : goal.returns-then-ends-eq1
returns-then-ends-eq1 c = expands_one c.args.policy.now c.args.types.now c.args.ends.now c.expansion.result c.requires.map c.requires.ends c.if-ends-eq1.true c.expansion.ensures.form c.expansion.ensures.bits
