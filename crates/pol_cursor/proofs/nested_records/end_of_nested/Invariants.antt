use Rattle.std.proofs.Common.{◌≡◌}
use Rattle.pol_cursor.specs.NestedRecords.{nested_end}
use Rattle.pol_cursor.proofs.nested_records.end_of_nested.Given as goal

abbrev pub invariant-loop : goal.invariant-loop
invariant-loop g l = l.end ≡ nested_end g.K.NestedRecord.ends l.bytes l.place l.counter
