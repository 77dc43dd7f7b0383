use Rattle.std.proofs.Common.{◌≡◌, ◌<◌, ◌++◌, ◌∷◌, [], ℕ, List, Vec, Bor, length, map, ap, sym, ◌∙◌, arith}
use Rattle.std.proofs.lemmas.List.{length-map, map_push}
use Rattle.pol_convert.specs.Inner.GroupRows.{with_row}
use Rattle.pol_trans.specs.declared.name_trans_rec.NameTransRec.{NameTransRec}
use Rattle.pol_convert.proofs.Parts.{row_gains_one, new_row}
use Rattle.pol_convert.proofs.rows.Rows.add.Goals as goal

pub returns-then-place-len : goal.returns-then-place-len
returns-then-place-len c =
    let now = λ (entry : Bor NameTransRec). entry.now in
    let rows = c.self.inside.rows.items in
    let row = c.index_mut.result.now in
    let within : c.args.place < length rows = omega (arith, c.if-place-len.true, c.len.ensures) in
    rw (← c.self.view_is) (row_gains_one (λ row. map now row.items) rows c.args.place row c.push.new.self c.args.entry.now within
    (ap (map now) c.in_ok-push.ensures.items ∙ map_push now row.items c.args.entry ∙ ap (λ row. map now row.items ++ c.args.entry.now ∷ []) c.index_mut.ensures.value))

pub returns : goal.returns
returns c =
    let now = λ (entry : Bor NameTransRec). entry.now in
    let rows = c.self.inside.rows.items in
    let seen = λ (row : Vec (Bor NameTransRec) _). map now row.items in
    let row = c.push-2.new.self in
    let long : c.args.place ≡ length (map seen rows) = omega (arith, c.if-place-len.false, c.len.ensures, c.requires, ap length c.self.view_is, length-map rows seen) in
    let alone : seen row ≡ c.args.entry.now ∷ [] = ap (map now) (c.in_ok-push-2.ensures.items ∙ ap (λ (es : List (Bor NameTransRec)). es ++ c.args.entry ∷ []) c.new-row.ensures.items) in
    rw (← c.self.view_is) (
    ap (map seen) c.in_ok-push-3.ensures.items ∙ map_push seen rows row ∙ ap (λ (r : List NameTransRec). map seen rows ++ r ∷ []) alone
    ∙ sym (ap (λ (n : ℕ). with_row n (map seen rows) c.args.entry.now) long ∙ new_row (map seen rows) c.args.entry.now)
    )
