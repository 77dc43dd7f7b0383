use Rattle.std.proofs.Common.{arith}
use Rattle.info_lines.proofs.NameSets.{sorted_in_place}
use Rattle.info_lines.proofs.name_sets.names_of_values.Goals as goal

pub returns : goal.returns
returns c =
    let sorted = c.sort_by_name in
    rw (← sorted_in_place c.args.symbols.now c.args.table c.args.values.items c.deref_mut.result.now sorted.new.values c.deref.result.now c.args.values.len c.deref_mut.ensures.value (omega (arith, c.args.values.ok.0)) sorted.ensures.same sorted.ensures.rise c.deref.ensures.value)
    c.declared_names.ensures
