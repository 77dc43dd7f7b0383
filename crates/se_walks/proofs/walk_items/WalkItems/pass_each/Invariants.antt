use Rattle.std.proofs.Common.{◌≡◌, drop}
use Rattle.se_walks.specs.Inner.WalkItems.{walks_left}
use Rattle.se_walks.proofs.walk_items.WalkItems.pass_each.Given as goal

abbrev pub invariant-passed : goal.invariant-passed
invariant-passed g l = record {
  left : walks_left g.T.EdgeTexts.words l.self ≡ drop l._number (walks_left g.T.EdgeTexts.words l.initial.self);
  texts : l.self.texts.now ≡ l.initial.self.texts.now;
  kept : l.self.kept ≡ l.initial.self.kept;
}
