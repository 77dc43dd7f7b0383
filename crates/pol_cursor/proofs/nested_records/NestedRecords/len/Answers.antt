use Rattle.std.proofs.Common.{sym}
use Rattle.pol_cursor.proofs.NestedLists.{length_nested_in}
use Rattle.pol_cursor.proofs.nested_records.NestedRecords.len.Goals as goal

pub returns : goal.returns
returns g c = rw (← c.self.view_is) (sym (length_nested_in g.K.Record.standing g.K.NestedRecord.ends c.self.inside.bytes.now c.self.inside.place c.self.inside.count))
