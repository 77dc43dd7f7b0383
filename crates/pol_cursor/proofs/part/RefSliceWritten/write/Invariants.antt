use Rattle.std.proofs.Common.{◌≡◌, ◌++◌, take}
use Rattle.std.specs.List.{flat_map}
use Rattle.pol_cursor.proofs.part.RefSliceWritten.write.Given as goal

-- the items before are written
abbrev pub invariant-loop-item : goal.invariant-loop-item
invariant-loop-item g l = l.out.items ≡ l.fn.out.items ++ flat_map g.W.Written.spelling (take l.item-index l.self.now)
