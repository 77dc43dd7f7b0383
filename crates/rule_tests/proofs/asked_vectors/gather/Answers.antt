use Rattle.std.proofs.Common.{◌<◌, ◌≤◌, ◌∙◌, Bool, true, false, ap, length, length-set, sym, arith}
use Rattle.std.specs.Int.{from_bool}
use Rattle.rule_tests.specs.Inner.AskedVectors.{standing_at, is_standing}
use Rattle.rule_tests.proofs.GatheredNumbers.{gathered_next}
use Rattle.rule_tests.proofs.asked_vectors.gather.Goals as goal

pub loop-number-preserved : goal.loop-number-preserved
unfolding standing_at
loop-number-preserved g c =
    let now = c.loop-number in
    let mark = c.has.result in
    let lt : now.count < length now.numbers = omega (arith, now.invariant.long, now.invariant.room, c.loop-number-test.true, c.requires.few) in
    let few : from_bool mark ≤ 1 = most mark in
    record {
      long = length-set now.numbers now.count now.number ∙ now.invariant.long;
      room = rw c.from-count.ensures (omega (arith, few, now.invariant.room));
      gathered = rw c.from-count.ensures
          (gathered_next (standing_at (g.M.Marks.is_marked c.args.marks.now) c.args.table.now) c.args.from now.number now.numbers now.count mark (omega (arith, now.invariant.room)) lt
          (c.has.ensures ∙ sym (ap (is_standing (g.M.Marks.is_marked c.args.marks.now)) c.view.ensures)) now.invariant.gathered);
    }
  where
    most : (b : Bool) → from_bool b ≤ 1
    most true = omega arith
    most false = omega arith
