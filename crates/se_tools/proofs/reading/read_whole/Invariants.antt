use Rattle.se_tools.proofs.Turns.{Turns}
use Rattle.se_tools.proofs.reading.read_whole.Given as goal

abbrev pub invariant-turns : goal.invariant-turns
invariant-turns g l = Turns (g.F.Files.world l.fn.files) (g.F.Files.world l.files) (g.F.Files.state l.initial.files) (g.F.Files.state l.files) l.slot l._turn l.bytes.items l.limit
