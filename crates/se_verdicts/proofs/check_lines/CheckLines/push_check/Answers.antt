use Rattle.std.proofs.Common.{◌≡◌, length, arith}
use Rattle.se_verdicts.proofs.LinesLeft.{line_begun}
use Rattle.se_verdicts.proofs.check_lines.CheckLines.push_check.Goals as goal

pub overflow_add-self : goal.overflow_add-self
overflow_add-self c = omega (arith, c.failed_by.ensures.most, c.requires.stands.failed, c.requires.some, c.requires.few)

pub overflow_add-self-2 : goal.overflow_add-self-2
overflow_add-self-2 c = omega (arith, c.requires.some, c.requires.few)

pub returns-clause-line : goal.returns-clause-line
returns-clause-line c =
    let long : c.len-count.result ≡ length c.in_ok-found.found.values.items = omega (arith, c.len-count.ensures, c.in_ok-found.found.values.ok) in
    line_begun c.args.self.now.checker.now c.args.self.now.found c.in_ok-found.found c.args.self.now.list.now c.args.self.now.next c.args.self.now.failed c.failed_by.result c.len-count.result c.check-check.result.now c.args.self.now.ended
    c.args.buffer.now.items c.push_check_line.new.buffer.items c.requires.none c.check-check.ensures c.in_ok-found.ensures long c.failed_by.ensures.exact c.in_ok-push_check_line.ensures
