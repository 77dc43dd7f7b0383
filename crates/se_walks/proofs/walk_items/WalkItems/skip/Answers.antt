use Rattle.std.proofs.Common.{arith}
use Rattle.se_walks.specs.Inner.Placed.{all_walks}
use Rattle.se_walks.specs.WalkTexts.{walk_item}
use Rattle.se_walks.proofs.WalkSteps.{passed-all}
use Rattle.se_walks.proofs.walk_items.WalkItems.skip.Goals as goal

pub returns-then-count-self-clause-left : goal.returns-then-count-self-clause-left
returns-then-count-self-clause-left g c =
    let now = c.args.self.now in
    passed-all (walk_item (g.T.EdgeTexts.words now.texts.now)) (all_walks now.walks) now.end now.number c.args.count now.more (omega (arith, c.if-count-self.true))
