use Rattle.std.proofs.Common.{◌≡◌, refl}
use Rattle.std.proofs.lemmas.Result.{err_from_is_err_and}
use Rattle.pol_commons.specs.Permissions.{permissions_in}
use Rattle.pol_commons.proofs.ListedPermissions.{Listed-start, Listed-next, Listed-bad, Listed-end}
use Rattle.pol_commons.proofs.permission_list.read_permissions.Goals as goal

pub loop-i-init : goal.loop-i-init
loop-i-init c = Listed-start c.args.inherited.now c.args.n c.args.c.now

pub at-listed-requires : goal.at-listed-requires
at-listed-requires c = rw (c.bytes-bytes.ensures.all, c.place-place.ensures) c.loop-i.invariant.have

pub loop-i-preserved : goal.loop-i-preserved
loop-i-preserved c =
    let listed : c.at-listed.result ≡ permissions_in c.args.c.now.bytes c.args.c.now.place c.loop-i.i = rw (c.at-listed.ensures, c.bytes-bytes.ensures.all, c.place-place.ensures) in
    Listed-next c.args.inherited.now c.args.n c.args.c.now c.loop-i.i c.loop-i.c c.read_permission.new.c c.loop-i-test.true
    (rw (← listed, ← c.in_ok-read_permission.ensures.stands.1) c.in_ok-read_permission.ensures.exact) c.in_ok-read_permission.ensures.stands.0 c.in_ok-read_permission.ensures.next c.loop-i.invariant

pub returns-in_err-read_permission-clause-exact : goal.returns-in_err-read_permission-clause-exact
returns-in_err-read_permission-clause-exact c =
    let p = err_from_is_err_and c.from_residual.result c.from_residual.ensures.1 in
    let listed : c.at-listed.result ≡ permissions_in c.args.c.now.bytes c.args.c.now.place c.loop-i.i = rw (c.at-listed.ensures, c.bytes-bytes.ensures.all, c.place-place.ensures) in
    rw (p.1, p.2) (Listed-bad c.args.inherited.now c.args.n c.args.c.now c.loop-i.i c.loop-i.c c.in_err-read_permission.field-0.0 c.loop-i-test.true
    (rw (← listed) c.in_err-read_permission.ensures.exact) c.loop-i.invariant)

pub at-requires : goal.at-requires
at-requires c =
    let p = Listed-end c.args.inherited.now c.args.n c.args.c.now c.loop-i.i c.loop-i.c c.loop-i-test.false c.loop-i.auto.i-end c.loop-i.invariant in
    rw (c.bytes-bytes.ensures.all, c.place-place.ensures) p.have

pub returns : goal.returns
returns c =
    let p = Listed-end c.args.inherited.now c.args.n c.args.c.now c.loop-i.i c.loop-i.c c.loop-i-test.false c.loop-i.auto.i-end c.loop-i.invariant in
    rw (c.at.ensures, c.bytes-bytes.ensures.all, c.place-place.ensures) (record { exact = p.read; stand = (p.have, refl); next = p.ends })
