use Rattle.std.proofs.Common.{take}
use Rattle.std.specs.List.{flat_map}
use Rattle.tree_pages.proofs.Sent.{IsSent}
use Rattle.tree_pages.proofs.paged.EachPaged.send.Given as goal

abbrev pub invariant-loop-record : goal.invariant-loop-record
invariant-loop-record g l = IsSent (g.S.Sink.state l.fn.out) (g.S.Sink.state l.out) l.fn.buffer.items l.buffer.items (flat_map g.W.Written.spelling (take l.record-index l.self.0.now))
