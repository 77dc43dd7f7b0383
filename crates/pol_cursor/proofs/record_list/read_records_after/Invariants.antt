use Rattle.std.proofs.Common.{◌≡◌, length}
use Rattle.pol_cursor.proofs.ContextLists.{GoingAfter}
use Rattle.pol_cursor.proofs.record_list.read_records_after.Given as goal

abbrev pub invariant-loop : goal.invariant-loop
invariant-loop g l = GoingAfter g.K.Record.standing g.K.Record.has g.K.ReadAfter.reads g.K.ReadAfter.after l.n l.fn.context l.fn.c l.bytes l.counter l.context l.c l.places.items × (length l.places.items ≡ l.counter)
