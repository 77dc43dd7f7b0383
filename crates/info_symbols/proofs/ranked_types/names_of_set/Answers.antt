use Rattle.std.proofs.Common.{arith}
use Rattle.pol_bitmap.specs.Nodes.{bits_of}
use Rattle.info_symbols.proofs.RankedTypes.{ranked_in_place}
use Rattle.info_symbols.proofs.ranked_types.names_of_set.Goals as goal

pub returns : goal.returns
returns c =
    let types = c.in_ok-types.types in
    let sorted = c.sort_by_rank in
    rw (← ranked_in_place c.args.symbols.now (bits_of c.args.set.now) types.items c.deref_mut.result.now sorted.new.types c.deref.result.now types.len c.in_ok-types.ensures c.deref_mut.ensures.value (omega (arith, types.ok.0)) sorted.ensures.same sorted.ensures.rise c.deref.ensures.value)
    c.declared_names.ensures
