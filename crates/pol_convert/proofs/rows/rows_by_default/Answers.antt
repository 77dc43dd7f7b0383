use Rattle.std.proofs.Common.{◌≡◌, ◌==◌, ◌+◌, ◌∷◌, ◌++◌, [], Bor, map, sym, take, ap, ◌∙◌}
use Rattle.std.proofs.lemmas.Bool.Decides.{Decides-eqb}
use Rattle.std.proofs.lemmas.List.{map_more}
use Rattle.pol_trans.specs.declared.name_trans_rec.NameTransRec.{NameTransRec}
use Rattle.pol_convert.proofs.GroupRows.{in_more_rows}
use Rattle.pol_convert.proofs.rows.rows_by_default.Goals as goal

pub loop-entry-preserved : goal.loop-entry-preserved
loop-entry-preserved c =
    let now = λ (entry : Bor NameTransRec). entry.now in
    let list = c.args.list.now in
    let i = c.loop-entry.entry-index in
    let entry = c.entry-item.result in
    let before = map now (take i list) in
    let longer : map now (take (i + 1) list) ≡ before ++ entry.now ∷ [] = map_more now list i entry c.loop-entry-test.true ∙ ap (λ (e : Bor NameTransRec). before ++ e.now ∷ []) (sym c.entry-item.is) in
    rw (longer, c.in_ok-place.ensures.keys, c.in_ok-add.ensures, c.in_ok-place.ensures.index)
    (in_more_rows ◌==◌ Decides-eqb (λ (e : NameTransRec). e.default) c.loop-entry.defaults.keys c.loop-entry.rows before entry.now c.loop-entry.invariant)
