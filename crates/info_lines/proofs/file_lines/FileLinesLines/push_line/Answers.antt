use Rattle.std.proofs.Common.{◌<◌, ◌-◌, arith}
use Rattle.std.specs.List.{range_with_len}
use Rattle.std.proofs.lemmas.List.Elements.{All-rest}
use Rattle.info_lines.proofs.FileOrder.{first_of}
use Rattle.info_lines.proofs.file_lines.FileLinesLines.push_line.Goals as goal

pub invariant_of-self : goal.invariant_of-self
invariant_of-self g c =
    let lines = c.self.inside in
    let some : lines.next < lines.end = omega (arith, c.if-self.true) in
    (All-rest (g.T.LineText.has lines.texts) lines.next _ (range_with_len lines.next (lines.end - lines.next)) (first_of lines.next lines.end some) c.self.invariant.0, omega (arith, some))
