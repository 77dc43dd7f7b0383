use Rattle.std.proofs.Common.{take}
use Rattle.se_status.specs.Message.{part_text}
use Rattle.se_status.proofs.Puts.{PutsAll}
use Rattle.se_status.proofs.message.put_parts.Given as goal

abbrev pub invariant-loop-part : goal.invariant-loop-part
invariant-loop-part g l =
    PutsAll part_text (take l.part-index l.parts) (g.E.Sink.state l.initial.err) (g.E.Sink.state l.err) l.initial.line.bytes l.line.bytes
