use Rattle.std.proofs.Common.{List, Option, arith, subst, sym, nat_lt}
use Rattle.kept_texts.specs.KeptTexts.{AreTexts}
use Rattle.kept_texts.specs.declared.kept.KeptText.{KeptText}
use Rattle.se_walks.specs.Inner.Placed.{all_walks}
use Rattle.se_walks.specs.Inner.WalkItems.{walks_left}
use Rattle.se_walks.specs.WalkTexts.{step_edge, walk_item}
use Rattle.se_walks.proofs.NumberedTexts.{part-is}
use Rattle.se_walks.proofs.writing.items_in.Goals as goal

pub returns-clause-text : goal.returns-clause-text
returns-clause-text g c =
    part-is (walk_item (g.T.EdgeTexts.words c.args.texts.now)) c.args.window.from c.args.window.limit (all_walks c.args.walks) (nat_lt 0 c.end-end.result) c.end-end.result (walks_left g.T.EdgeTexts.words c.skip.new.self)
    c.end-end.ensures (λ none. grind (arith, none)) c.in_ok-skip.ensures.left

pub returns-clause-kept : goal.returns-clause-kept
returns-clause-kept g c =
    let edge = step_edge (g.T.EdgeTexts.words c.skip.new.self.texts.now) in
    subst (λ (kept : List (Option KeptText)). AreTexts edge kept) (sym c.skip.ensures.kept) (c.in_ok-none.ensures edge)
