use Rattle.std.proofs.Common.{ℕ, ◌<◌, ◌≤◌, ◌+◌, ◌-◌, ◌/◌, List, length, sym, ◌∙◌, arith}
use Rattle.pol_symtab.specs.Inner.Namings.{its_name, naming}
use Rattle.pol_symtab.specs.Inner.TableIndex.{names_of, IsNameOrder}
use Rattle.std.specs.declared.cmp.Ordering.TheVariants.{Less, Equal, Greater}
use Rattle.std.specs.Prelude.{map, slice_index}
use Rattle.std.proofs.lemmas.List.{length-map}
use Rattle.pol_symtab.specs.declared.symbol_names.SymbolName.{SymbolName}
use Rattle.pol_symtab.proofs.Namings.{compared_there}
use Rattle.pol_symtab.proofs.NameSearch.{between_all, between_up, between_down, number_within, search_found, search_missed}
use Rattle.pol_symtab.proofs.name_order.find_name.Goals as goal

-- the place in the middle
middle_in : (low high : ℕ) → low < high → (low ≤ low + (high - low) / 2) × (low + (high - low) / 2 < high)
middle_in low high lt = (omega arith, omega (arith, lt))

-- the number there is that of a name
there_in : (names : List SymbolName) (by_name : List ℕ) → IsNameOrder (names_of its_name (map naming names)) by_name → (name : List ℕ) (m : ℕ) → m < length by_name → slice_index by_name m < length names
there_in names by_name order name m lt = omega (arith, number_within its_name (map naming names) by_name order name m lt, length-map names naming)

pub loop-low-init : goal.loop-low-init
loop-low-init c = between_all (names_of its_name (map naming c.args.names.now)) c.args.by_name.now c.requires c.args.name.now

pub bounds-names-number : goal.bounds-names-number
bounds-names-number c =
    let m = c.loop-low.low + (c.loop-low.high - c.loop-low.low) / 2 in
    let lt = (middle_in c.loop-low.low c.loop-low.high c.loop-low-test.true).1 in
    there_in c.args.names.now c.args.by_name.now c.requires c.args.name.now m (omega (arith, lt, c.loop-low.invariant.ends))

pub loop-low-preserved-in-Less : goal.loop-low-preserved-in-Less
loop-low-preserved-in-Less c =
    let m = c.loop-low.low + (c.loop-low.high - c.loop-low.low) / 2 in
    between_up (names_of its_name (map naming c.args.names.now)) c.args.by_name.now c.requires c.args.name.now c.loop-low.low m c.loop-low.high c.loop-low.invariant
    (middle_in c.loop-low.low c.loop-low.high c.loop-low-test.true).1
    (compared_there c.args.names.now (slice_index c.args.by_name.now m) c.args.name.now Less (there_in c.args.names.now c.args.by_name.now c.requires c.args.name.now m (omega (arith, (middle_in c.loop-low.low c.loop-low.high c.loop-low-test.true).1, c.loop-low.invariant.ends))) (sym c.cmp.ensures ∙ c.in-Less.is))

pub returns-in-Equal : goal.returns-in-Equal
returns-in-Equal c =
    let m = c.loop-low.low + (c.loop-low.high - c.loop-low.low) / 2 in
    let lt = (middle_in c.loop-low.low c.loop-low.high c.loop-low-test.true).1 in
    sym (search_found its_name (map naming c.args.names.now) c.args.by_name.now c.requires c.args.name.now m (omega (arith, lt, c.loop-low.invariant.ends))
    (compared_there c.args.names.now (slice_index c.args.by_name.now m) c.args.name.now Equal (there_in c.args.names.now c.args.by_name.now c.requires c.args.name.now m (omega (arith, lt, c.loop-low.invariant.ends))) (sym c.cmp.ensures ∙ c.in-Equal.is)))

pub loop-low-preserved : goal.loop-low-preserved
loop-low-preserved c =
    let m = c.loop-low.low + (c.loop-low.high - c.loop-low.low) / 2 in
    let in' = middle_in c.loop-low.low c.loop-low.high c.loop-low-test.true in
    between_down (names_of its_name (map naming c.args.names.now)) c.args.by_name.now c.requires c.args.name.now c.loop-low.low m c.loop-low.high c.loop-low.invariant in'.0 in'.1
    (compared_there c.args.names.now (slice_index c.args.by_name.now m) c.args.name.now Greater (there_in c.args.names.now c.args.by_name.now c.requires c.args.name.now m (omega (arith, in'.1, c.loop-low.invariant.ends))) (sym c.cmp.ensures ∙ c.in-Greater.is))

pub returns : goal.returns
returns c = sym (search_missed its_name (map naming c.args.names.now) c.args.by_name.now c.requires c.args.name.now c.loop-low.low c.loop-low.high c.loop-low.invariant c.loop-low-test.false)
