use Rattle.std.proofs.Common.{◌<◌, ◌^◌, ◌/◌, arith}
use Rattle.pol_bitmap.proofs.Shifts.{least_shifted, lowest_set}
use Rattle.pol_bitmap.proofs.node.next_in.Goals as goal

pub overflow_add-result-2 : goal.overflow_add-result-2
overflow_add-result-2 c =
    let fits : c.args.node.map < 2 ^ 64 = omega arith in
    let left : 0 < c.args.node.map / 2 ^ c.saturating_sub-skipped.result = omega (arith, c.if-left-eq0.false) in
    omega (arith, (lowest_set c.args.node.map c.saturating_sub-skipped.result fits left).within)

pub returns-clause-some : goal.returns-clause-some
returns-clause-some c =
    let fits : c.args.node.map < 2 ^ 64 = omega arith in
    let left : 0 < c.args.node.map / 2 ^ c.saturating_sub-skipped.result = omega (arith, c.if-left-eq0.false) in
    rw c.saturating_sub-skipped.ensures (least_shifted c.args.node c.args.bit fits (rw c.saturating_sub-skipped.ensures at left))
