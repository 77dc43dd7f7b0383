use Rattle.std.proofs.Common.{◌≡◌, ◌+◌, ◌∷◌, ◌++◌, [], sym, take, ap, ◌∙◌}
use Rattle.std.proofs.lemmas.List.{take_more}
use Rattle.pol_trans.specs.declared.name_trans_rec.NameTransRec.{NameTransRec}
use Rattle.pol_convert.specs.Grouped.{part_of_entry, same_part}
use Rattle.pol_convert.specs.Inner.Parts.{shown}
use Rattle.pol_convert.proofs.Parts.{key_agrees, more_in_rows, part_decides}
use Rattle.pol_convert.proofs.rows.rows_by_part.Goals as goal

pub loop-entry-preserved : goal.loop-entry-preserved
loop-entry-preserved c =
    let list = c.args.list.now in
    let i = c.loop-entry.entry-index in
    let entry = c.entry-item.result in
    let longer : take (i + 1) list ≡ take i list ++ entry ∷ [] = take_more list i entry c.loop-entry-test.true ∙ ap (λ (e : NameTransRec). take i list ++ e ∷ []) (sym c.entry-item.is) in
    rw longer
    (more_in_rows shown _ same_part key_agrees part_decides part_of_entry c.loop-entry.parts.keys c.insert_full.new.self.keys c.loop-entry.rows c.add.new.self (take i list) entry c.part_of.result c.in_ok-place.place c.part_of.ensures c.loop-entry.invariant
    c.in_ok-place.ensures.keys c.in_ok-place.ensures.index c.in_ok-add.ensures)
