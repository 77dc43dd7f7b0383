use Rattle.set_products.proofs.Counted.{count_is, count_few}
use Rattle.set_products.proofs.counted_sets.CountedSets.count_of.Goals as goal

pub returns-clause-bits : goal.returns-clause-bits
returns-clause-bits c = count_is c.self.inside.pool c.args.self.now c.self.inside.counts.items c.args.n c.index.result.now c.self.invariant c.self.view_is c.requires c.index.ensures

pub returns-clause-bound : goal.returns-clause-bound
returns-clause-bound c =
    let bits = count_is c.self.inside.pool c.args.self.now c.self.inside.counts.items c.args.n c.index.result.now c.self.invariant c.self.view_is c.requires c.index.ensures in
    count_few c.self.inside.pool c.args.self.now c.self.inside.counts.items c.args.n c.index.result.now c.self.invariant c.self.view_is c.requires bits
