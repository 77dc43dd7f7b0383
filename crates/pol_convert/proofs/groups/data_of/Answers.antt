use Rattle.std.proofs.Common.{◌≡◌, ◌<◌, ◌≤◌, ◌==◌, ℕ, List, Bor, [], length, get_or, map, sym, subst, arith}
use Rattle.std.proofs.lemmas.Bool.Decides.{Decides-eqb}
use Rattle.pol_trans.specs.declared.name_trans_rec.NameTransRec.{NameTransRec}
use Rattle.pol_convert.specs.Grouped.{data_of, datum_of}
use Rattle.pol_convert.specs.Inner.GroupRows.{AreInRows}
use Rattle.pol_convert.proofs.GroupRows.{rows_count}
use Rattle.pol_convert.proofs.MadeOfRows.{none_made, row_all, more_made, all_made}
use Rattle.pol_convert.proofs.groups.data_of.Goals as goal

pub loop-place-init : goal.loop-place-init
loop-place-init c =
    let default_of = λ (entry : NameTransRec). entry.default in
    let entries = map (λ (entry : Bor NameTransRec). entry.now) c.args.entries.now in
    rw c.in_ok-datums.ensures.items (none_made ◌==◌ default_of datum_of entries c.as_slice-defaults.result.now)

pub datum_of-requires : goal.datum_of-requires
datum_of-requires c =
    let default_of = λ (entry : NameTransRec). entry.default in
    let entries = map (λ (entry : Bor NameTransRec). entry.now) c.args.entries.now in
    let defaults = c.as_slice-defaults.result.now in
    let rows = c.in_ok-set.rows in
    let h : AreInRows ◌==◌ default_of defaults rows entries = subst (λ (keys : List ℕ). AreInRows ◌==◌ default_of keys rows entries) (sym c.as_slice-defaults.ensures.keys) c.in_ok-set.ensures in
    let there : c.loop-place.place < length defaults = omega (arith, c.loop-place-test.true, c.len-place-end.ensures, rows_count ◌==◌ Decides-eqb default_of defaults rows entries h) in
    rw c.row.ensures (row_all ◌==◌ default_of datum_of (λ (entry : NameTransRec). 1 ≤ entry.source) defaults rows entries c.loop-place.place 0 h there c.requires)

pub loop-place-preserved : goal.loop-place-preserved
loop-place-preserved c =
    let default_of = λ (entry : NameTransRec). entry.default in
    let entries = map (λ (entry : Bor NameTransRec). entry.now) c.args.entries.now in
    let defaults = c.as_slice-defaults.result.now in
    let rows = c.in_ok-set.rows in
    let datum = c.in_ok-datum_of.field-0 in
    let h : AreInRows ◌==◌ default_of defaults rows entries = subst (λ (keys : List ℕ). AreInRows ◌==◌ default_of keys rows entries) (sym c.as_slice-defaults.ensures.keys) c.in_ok-set.ensures in
    let there : c.loop-place.place < length defaults = omega (arith, c.loop-place-test.true, c.len-place-end.ensures, rows_count ◌==◌ Decides-eqb default_of defaults rows entries h) in
    let row : get_or rows c.loop-place.place [] ≡ map _ c.row.result.now = sym c.row.ensures in
    let is : datum ≡ datum_of (get_or defaults c.loop-place.place 0) (get_or rows c.loop-place.place []) = rw row c.in_ok-datum_of.ensures in
    rw c.in_ok-push.ensures.items (more_made ◌==◌ default_of datum_of defaults rows entries c.loop-place.place 0 c.loop-place.datums.items datum h there is c.loop-place.invariant)

pub returns : goal.returns
unfolding data_of
returns c =
    let default_of = λ (entry : NameTransRec). entry.default in
    let entries = map (λ (entry : Bor NameTransRec). entry.now) c.args.entries.now in
    let defaults = c.as_slice-defaults.result.now in
    let rows = c.in_ok-set.rows in
    let h : AreInRows ◌==◌ default_of defaults rows entries = subst (λ (keys : List ℕ). AreInRows ◌==◌ default_of keys rows entries) (sym c.as_slice-defaults.ensures.keys) c.in_ok-set.ensures in
    let whole : length defaults ≤ c.loop-place.place = omega (arith, c.loop-place-test.false, c.len-place-end.ensures, rows_count ◌==◌ Decides-eqb default_of defaults rows entries h) in
    all_made ◌==◌ default_of datum_of defaults rows entries c.loop-place.place c.loop-place.datums.items h whole c.loop-place.invariant
