use Rattle.std.proofs.Common.{◌≡◌, length}
use Rattle.pol_cursor.specs.References.{placed}
use Rattle.pol_cursor.proofs.Lists.{GoingAt, placed_in}
use Rattle.pol_cursor.proofs.record_list.read_records.Given as goal

abbrev pub invariant-loop : goal.invariant-loop
invariant-loop g l = GoingAt {S = Unit {0}} (placed_in g.K.Record.standing) g.K.Record.has (λ left context. placed g.K.ReadAlone.reads) (λ context x. context) l.n tt l.fn.c l.bytes l.counter tt l.c l.places.items × (length l.places.items ≡ l.counter)
