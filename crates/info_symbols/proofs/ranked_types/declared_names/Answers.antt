use Rattle.std.proofs.Common.{refl}
use Rattle.pol_fields.specs.declared.TableKind.TheVariants.{Types}
use Rattle.pol_symbols.specs.PolicySymbols.{name_in}
use Rattle.info_symbols.specs.declared.ranked_types.RankedType.{RankedType}
use Rattle.info_symbols.proofs.RankedTypes.{named_type, unnamed_type}
use Rattle.info_symbols.proofs.ranked_types.declared_names.Goals as goal
use Rattle.info_symbols.proofs.ranked_types.declared_names.Goals.{in-Some+in_ok-push-in-Some, in-None}

pub loop-t-preserved : goal.loop-t-preserved
loop-t-preserved c =
    let name_of = λ (t : RankedType). name_in c.args.symbols.now Types t.value in
    let types = c.args.types.now in
    let d : RankedType = record { rank = 0; value = 0 } in
    let names = c.loop-t.names.items in
    let new = c.match-name_of.names.items in
    elim c.match-name_of.branch [
      | in-Some+in_ok-push-in-Some w ↦ named_type name_of types c.loop-t.t-index d w.in-Some.name names new c.loop-t-test.true (rw w.in-Some.is at c.name_of.ensures) c.loop-t.invariant (rw w.names-is w.in_ok-push-in-Some.ensures.items)
      | in-None w ↦ unnamed_type name_of types c.loop-t.t-index d names new c.loop-t-test.true (rw w.in-None.is at c.name_of.ensures) c.loop-t.invariant (rw w.names-is refl)
    ]
