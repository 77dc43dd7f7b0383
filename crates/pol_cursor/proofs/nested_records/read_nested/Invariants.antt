use Rattle.pol_cursor.proofs.NestedLists.{PassingNested}
use Rattle.pol_cursor.proofs.nested_records.read_nested.Given as goal

abbrev pub invariant-loop : goal.invariant-loop
invariant-loop g l = PassingNested (g.K.NestedRecord.reads l.setting) g.K.Record.standing g.K.Record.has g.K.NestedRecord.ends l.n l.fn.c l.counter l.c
