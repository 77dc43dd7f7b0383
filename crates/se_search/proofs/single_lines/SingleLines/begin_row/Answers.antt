use Rattle.std.proofs.Common.{arith, refl}
use Rattle.set_products.specs.Standing.{IsRowAt}
use Rattle.se_search.proofs.SingleRows.{no_turn, row_begun, row_rule, row_there}
use Rattle.se_search.proofs.single_lines.SingleLines.begin_row.Goals as goal

pub unreachable-requires : goal.unreachable-requires
unreachable-requires c =
    let lines = c.args.self.now in
    row_there lines.places lines.passed c.row.result (omega (arith, c.requires.can.more, c.requires.can.fits)) (c.row.ensures.gives lines.passed c.requires.can.stands) c.in_default.not-Some

pub frame_between-requires-clause-rule : goal.frame_between-requires-clause-rule
frame_between-requires-clause-rule c =
    let lines = c.args.self.now in
    let at : IsRowAt lines.places lines.passed c.in-Some.row c.in-Some.after = c.in-Some.ensures.gives lines.passed c.requires.can.stands in
    row_rule lines.texts.now lines.places lines.passed c.in-Some.row c.in-Some.after c.requires.can.are_rules at

pub returns : goal.returns
returns c =
    let lines = c.args.self.now in
    let at : IsRowAt lines.places lines.passed c.in-Some.row c.in-Some.after = c.in-Some.ensures.gives lines.passed c.requires.can.stands in
    record {
      stands = record {
        are_rules = c.requires.can.are_rules;
        within = omega (arith, c.requires.can.more);
        fits = c.requires.can.fits;
        at_row = row_begun lines.texts.now lines.places lines.passed c.in-Some.row c.in-Some.after c.in_ok-frame.frame at c.in_ok-frame.ensures.rule c.in_ok-frame.ensures.head;
      };
      same = refl;
      nearer = omega (arith, no_turn c.in-Some.row.targets at.some);
    }
