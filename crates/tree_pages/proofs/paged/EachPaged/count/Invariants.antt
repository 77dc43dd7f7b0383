use Rattle.std.proofs.Common.{◌≡◌, ◌+◌, ◌-◌, ◌^◌, length, take}
use Rattle.std.specs.Prelude.{min}
use Rattle.std.specs.List.{flat_map}
use Rattle.tree_pages.proofs.paged.EachPaged.count.Given as goal

abbrev pub invariant-loop-record : goal.invariant-loop-record
invariant-loop-record g l = l.total ≡ min (l.fn.start + length (flat_map g.W.Written.spelling (take l.record-index l.self.0.now))) (2 ^ 64 - 1)
