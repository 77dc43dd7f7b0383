use Rattle.std.proofs.Common.{◌∙◌, arith, take}
use Rattle.se_walks.specs.Inner.Placed.{all_walks}
use Rattle.se_walks.specs.Inner.WalkItems.{walks_left}
use Rattle.se_walks.specs.WalkTexts.{walk_item}
use Rattle.se_walks.proofs.WalkSteps.{no-walks, passed-end, passed-next}
use Rattle.se_walks.proofs.walk_items.WalkItems.pass_each.Goals as goal

pub returns-then-not-self-clause-left : goal.returns-then-not-self-clause-left
returns-then-not-self-clause-left g c =
    let now = c.passed.self in
    passed-end (walks_left g.T.EdgeTexts.words c.args.self.now) (walks_left g.T.EdgeTexts.words now) c.passed._number c.args.count (omega arith) c.passed.invariant.left
    (no-walks (walk_item (g.T.EdgeTexts.words now.texts.now)) now.more now.number (take now.end (all_walks now.walks)) c.if-not-self.true)

pub passed-preserved : goal.passed-preserved
passed-preserved g c = record {
  left = passed-next (walks_left g.T.EdgeTexts.words c.args.self.now) (walks_left g.T.EdgeTexts.words c.passed.self) (walks_left g.T.EdgeTexts.words c.advance.new.self) _ c.passed._number c.passed.invariant.left c.advance.ensures.left;
  texts = c.advance.ensures.texts ∙ c.passed.invariant.texts;
  kept = c.advance.ensures.kept ∙ c.passed.invariant.kept;
}
