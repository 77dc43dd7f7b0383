use Rattle.std.proofs.Common.{◌≡◌, ◌<◌, ◌-◌, true, [], length, sym, ◌∙◌, arith}
use Rattle.std.proofs.lemmas.List.{get_or_read}
use Rattle.pol_bitmap.specs.Nodes.{has_bit}
use Rattle.pol_expand.specs.Expansion.{row_of}
use Rattle.pol_expand.proofs.Gains.{has_row, gains_row}
use Rattle.pol_expand.proofs.building.add_type.Goals as goal

pub overflow_sub-value : goal.overflow_sub-value
overflow_sub-value c = (has_row c.args.rows.now c.args.types.now c.args.value c.requires.types (sym c.has_value.ensures ∙ c.if-has_value.true)).0

pub bounds-rows-value : goal.bounds-rows-value
bounds-rows-value c =
    let within = has_row c.args.rows.now c.args.types.now c.args.value c.requires.types (sym c.has_value.ensures ∙ c.if-has_value.true) in
    omega (arith, within.0, within.1)

pub returns-then-has_value : goal.returns-then-has_value
returns-then-has_value c =
    let rows = c.args.rows.now in
    let types = c.args.types.now in
    let value = c.args.value in
    let declared : has_bit types value ≡ true = sym c.has_value.ensures ∙ c.if-has_value.true in
    let within = has_row rows types value c.requires.types declared in
    let place : value - 1 < length rows = omega (arith, within.0, within.1) in
    let row : c.index-rows-value.result ≡ row_of rows value = get_or_read rows (value - 1) c.index-rows-value.result place c.index-rows-value.is [] in
    gains_row rows types value c.args.place c.index-rows-value.result c.args.words.now.items c.add_row.new.words.items declared row c.add_row.ensures
