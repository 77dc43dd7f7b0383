use Rattle.rule_singles.proofs.Pools.{put_grows, put_number}
use Rattle.rule_singles.proofs.keeping.keep.Goals as goal

pub returns-clause-grows : goal.returns-clause-grows
returns-clause-grows c = put_grows c.args.pool.now c.put.new.self c.args.set c.put.result c.put.ensures.number c.put.ensures.err

pub returns-clause-number : goal.returns-clause-number
returns-clause-number c = put_number c.args.pool.now c.put.new.self c.args.set c.put.result c.put.ensures.number
