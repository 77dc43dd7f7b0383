use Rattle.std.proofs.Common.{refl, false, take}
use Rattle.se_walks.specs.Inner.Placed.{all_walks, next_walk}
use Rattle.se_walks.specs.WalkTexts.{walk_item}
use Rattle.se_walks.proofs.WalkSteps.{front-next, left-after, none-left, none-past}
use Rattle.se_walks.proofs.walk_items.WalkItems.advance.Goals as goal

pub returns-then-self-clause-left : goal.returns-then-self-clause-left
returns-then-self-clause-left g c =
    let all = all_walks c.args.self.now.walks in
    let walk = next_walk c.args.self.now.walks in
    let next = c.args.self.now.next c.requires in
    rw c.advance-self.ensures.all
    (left-after (walk_item (g.T.EdgeTexts.words c.args.self.now.texts.now)) (take c.args.self.now.end all) walk c.args.self.now.number c.args.self.now.more c.advance-self.result c.requires
    (front-next all c.args.self.now.end c.args.self.now.number walk next.there next.listed)
    (λ none. none-left all c.args.self.now.end walk (next_walk c.advance-self.new.self) c.args.self.now.number _ c.advance-self.result next.there refl c.advance-self.ensures.moves none))

pub returns-else-self-clause-left : goal.returns-else-self-clause-left
returns-else-self-clause-left g c =
    let all = all_walks c.args.self.now.walks in
    let walk = next_walk c.args.self.now.walks in
    let next = c.args.self.now.next c.requires in
    left-after (walk_item (g.T.EdgeTexts.words c.args.self.now.texts.now)) (take c.args.self.now.end all) walk c.args.self.now.number c.args.self.now.more false c.requires
    (front-next all c.args.self.now.end c.args.self.now.number walk next.there next.listed)
    (λ none. none-past all c.args.self.now.end _ c.if-self.false)
