use Rattle.std.proofs.Common.{refl}
use Rattle.pol_symbols.specs.PolicySymbols.{name_in}
use Rattle.info_lines.proofs.NameSets.{named_some, named_none}
use Rattle.info_lines.proofs.name_sets.declared_names.Goals as goal
use Rattle.info_lines.proofs.name_sets.declared_names.Goals.{in-Some+in_ok-push-in-Some, in-None}

pub loop-value-preserved : goal.loop-value-preserved
loop-value-preserved c =
    let name_of = name_in c.args.symbols.now c.args.table in
    let names = c.loop-value.names.items in
    let new = c.match-name_of.names.items in
    elim c.match-name_of.branch [
      | in-Some+in_ok-push-in-Some w ↦ named_some name_of c.args.values.now c.loop-value.value-index w.in-Some.name names new c.loop-value-test.true (rw w.in-Some.is at c.name_of.ensures) c.loop-value.invariant (rw w.names-is w.in_ok-push-in-Some.ensures.items)
      | in-None w ↦ named_none name_of c.args.values.now c.loop-value.value-index names new c.loop-value-test.true (rw w.in-None.is at c.name_of.ensures) c.loop-value.invariant (rw w.names-is refl)
    ]
