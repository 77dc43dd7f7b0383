use Rattle.std.proofs.Common.{◌≡◌}
use Rattle.std.specs.Prelude.{map}
use Rattle.pol_cursor.specs.References.{dangling_of}
use Rattle.pol_trans.specs.NameGroupRecord.{name_datum_reference}
use Rattle.pol_trans.proofs.name_group_view.dangling_default.Given as goal

-- the defaults before are declared
abbrev pub invariant-loop-datum : goal.invariant-loop-datum
invariant-loop-datum g l = dangling_of (g.N.Names.named l.names) (map name_datum_reference l.fn.run) ≡ dangling_of (g.N.Names.named l.names) (map name_datum_reference l.datum-iterator)
