use Rattle.std.proofs.Common.{◌≡◌, ◌∙◌, Some, arith, sym}
use Rattle.se_search.proofs.SingleRows.{at_some, few_turns, row_pushed}
use Rattle.se_search.proofs.single_lines.SingleLinesPieces.push_piece.Goals as goal

pub returns-clause-piece : goal.returns-clause-piece
returns-clause-piece c =
    let lines = c.args.self.now in
    let is : lines.row ≡ Some c.in-Some.lines = sym c.take.ensures.value ∙ c.in-Some.is in
    let at = at_some lines.texts.now lines.places lines.passed lines.after lines.row c.in-Some.lines c.requires.at_row is in
    let pushed = row_pushed lines.texts.now lines.places lines.passed lines.end c.min-most.result c.in_ok-count.count lines.after c.in-Some.lines c.push_targets.new.targets c.args.buffer.now.items c.push_targets.new.buffer.items
    at.0 (omega (arith, c.min-most.ensures, c.if-self.false)) c.in_ok-count.ensures in
    record {
      piece = pushed.text;
      left = pushed.left;
      added = pushed.added;
      nearer = omega (arith, few_turns c.push_targets.new.targets, pushed.within, c.if-count-eq0.false, c.if-self.false);
    }

pub returns-clause-stands : goal.returns-clause-stands
returns-clause-stands c =
    let lines = c.args.self.now in
    let is : lines.row ≡ Some c.in-Some.lines = sym c.take.ensures.value ∙ c.in-Some.is in
    let at = at_some lines.texts.now lines.places lines.passed lines.after lines.row c.in-Some.lines c.requires.at_row is in
    let pushed = row_pushed lines.texts.now lines.places lines.passed lines.end c.min-most.result c.in_ok-count.count lines.after c.in-Some.lines c.push_targets.new.targets c.args.buffer.now.items c.push_targets.new.buffer.items
    at.0 (omega (arith, c.min-most.ensures, c.if-self.false)) c.in_ok-count.ensures in
    record { are_rules = c.requires.are_rules; within = pushed.within; fits = c.requires.fits; at_row = pushed.row }
