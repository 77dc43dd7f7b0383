use Rattle.std.proofs.Common.{◌≡◌, ◌<◌, ◌≤◌, Bor, List, [], length, get_or, map, sym, ap, subst, ◌∙◌, arith}
use Rattle.std.proofs.lemmas.List.{get_or-map, length-map}
use Rattle.pol_trans.specs.declared.name_trans_rec.NameTransRec.{NameTransRec}
use Rattle.pol_convert.specs.Grouped.{group_of, grouped, CommonPart, part_of_entry, same_part}
use Rattle.pol_convert.specs.Inner.GroupRows.{AreInRows}
use Rattle.pol_convert.specs.Inner.Parts.{shown}
use Rattle.pol_convert.proofs.GroupRows.{rows_count}
use Rattle.pol_convert.proofs.MadeOfRows.{none_made, row_all, more_made, all_made}
use Rattle.pol_convert.proofs.Parts.{part_decides}
use Rattle.pol_convert.proofs.groups.group.Goals as goal

pub loop-place-init : goal.loop-place-init
loop-place-init c = rw c.in_ok-groups.ensures.items (none_made same_part part_of_entry group_of c.args.list.now (map shown c.as_slice-parts.result.now))

pub group_of-requires : goal.group_of-requires
group_of-requires c =
    let list = c.args.list.now in
    let parts = map shown c.as_slice-parts.result.now in
    let rows = c.in_ok-set.rows in
    let none : CommonPart = record { name = []; target = 0; class = 0 } in
    let h : AreInRows same_part part_of_entry parts rows list = subst (λ (keys : List CommonPart). AreInRows same_part part_of_entry keys rows list) (sym (ap (map shown) c.as_slice-parts.ensures.keys)) c.in_ok-set.ensures in
    let there : c.loop-place.place < length parts = omega (arith, c.loop-place-test.true, c.len-place-end.ensures, rows_count same_part part_decides part_of_entry parts rows list h) in
    rw c.row.ensures (row_all same_part part_of_entry group_of (λ (entry : NameTransRec). 1 ≤ entry.source) parts rows list c.loop-place.place none h there c.requires)

pub loop-place-preserved : goal.loop-place-preserved
loop-place-preserved c =
    let list = c.args.list.now in
    let keys = c.as_slice-parts.result.now in
    let parts = map shown keys in
    let rows = c.in_ok-set.rows in
    let group = c.in_ok-group_of.field-0 in
    let none : CommonPart = record { name = []; target = 0; class = 0 } in
    let h : AreInRows same_part part_of_entry parts rows list = subst (λ (keys : List CommonPart). AreInRows same_part part_of_entry keys rows list) (sym (ap (map shown) c.as_slice-parts.ensures.keys)) c.in_ok-set.ensures in
    let there : c.loop-place.place < length parts = omega (arith, c.loop-place-test.true, c.len-place-end.ensures, rows_count same_part part_decides part_of_entry parts rows list h) in
    let is : group ≡ group_of (get_or parts c.loop-place.place none) (get_or rows c.loop-place.place []) =
    c.in_ok-group_of.ensures
    ∙ ap (λ (part : CommonPart). group_of part (map (λ (entry : Bor NameTransRec). entry.now) c.row.result.now)) (sym (get_or-map shown keys c.loop-place.place _ none (omega (arith, there, length-map keys shown))))
    ∙ ap (group_of (get_or parts c.loop-place.place none)) c.row.ensures
    in
    rw c.in_ok-push.ensures.items (more_made same_part part_of_entry group_of parts rows list c.loop-place.place none c.loop-place.groups.items group h there is c.loop-place.invariant)

pub returns : goal.returns
unfolding grouped
returns c =
    let list = c.args.list.now in
    let parts = map shown c.as_slice-parts.result.now in
    let rows = c.in_ok-set.rows in
    let h : AreInRows same_part part_of_entry parts rows list = subst (λ (keys : List CommonPart). AreInRows same_part part_of_entry keys rows list) (sym (ap (map shown) c.as_slice-parts.ensures.keys)) c.in_ok-set.ensures in
    let whole : length parts ≤ c.loop-place.place = omega (arith, c.loop-place-test.false, c.len-place-end.ensures, rows_count same_part part_decides part_of_entry parts rows list h) in
    all_made same_part part_of_entry group_of parts rows list c.loop-place.place c.loop-place.groups.items h whole c.loop-place.invariant
