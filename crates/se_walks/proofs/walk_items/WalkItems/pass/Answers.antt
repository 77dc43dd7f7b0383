use Rattle.std.proofs.Common.{◌≡◌, ◌+◌, ◌∙◌, ℕ, List, [], None, ap, drop, slice_get, subst, sym, take}
use Rattle.std.specs.Prelude.{if◌then◌else◌}
use Rattle.se_walks.specs.Inner.Placed.{all_walks}
use Rattle.se_walks.specs.Inner.WalkItems.{walks_left}
use Rattle.se_walks.specs.Numbered.{numbered}
use Rattle.se_walks.specs.WalkTexts.{walk_item}
use Rattle.se_walks.proofs.WalkSteps.{passed-far, passed-on}
use Rattle.se_walks.proofs.walk_items.WalkItems.pass.Goals as goal

pub returns-in-Some-clause-left : goal.returns-in-Some-clause-left
returns-in-Some-clause-left g c =
    let now = c.args.self.now in
    let f = walk_item (g.T.EdgeTexts.words now.texts.now) in
    let all : all_walks now.walks ≡ c.in-Shortest.walks.layers = ap all_walks c.in-Shortest.is in
    subst (λ (ws : List (List ℕ)). (if now.more then numbered f (now.number + c.args.count + 1) (drop (now.number + c.args.count) (take now.end ws)) else []) ≡ drop c.args.count (walks_left g.T.EdgeTexts.words now)) all
    (passed-on f (take now.end (all_walks now.walks)) now.number c.args.count now.more c.requires.more)

pub returns-in-None-clause-left : goal.returns-in-None-clause-left
returns-in-None-clause-left g c =
    let now = c.args.self.now in
    let none : slice_get (all_walks now.walks) (now.number + c.args.count) ≡ None =
    ap (λ (ws : List (List ℕ)). slice_get ws (now.number + c.args.count)) (ap all_walks c.in-Shortest.is) ∙ sym c.in_ok-walk-in-Shortest.ensures ∙ c.in-None.is in
    passed-far (walk_item (g.T.EdgeTexts.words now.texts.now)) (all_walks now.walks) now.end now.number c.args.count now.more c.requires.more none
