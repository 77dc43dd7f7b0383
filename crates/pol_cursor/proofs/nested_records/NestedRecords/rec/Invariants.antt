use Rattle.std.proofs.Common.{◌≡◌, map}
use Rattle.pol_cursor.specs.References.{values_of}
use Rattle.pol_cursor.proofs.nested_records.NestedRecords.rec.Given as goal

-- the records before are in the list
abbrev pub invariant-loop-view : goal.invariant-loop-view
invariant-loop-view g l = l.list.items ≡ values_of (map g.V.RecordView.shown l.yielded)
