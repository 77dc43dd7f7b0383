use Rattle.std.proofs.lemmas.Result.{err_from_is_err_and}
use Rattle.std.proofs.lemmas.List.Folds.{flat_map-map}
use Rattle.se_info.specs.InfoAnswer.{wanted_text}
use Rattle.se_options.specs.InfoRequest.{wanted_view}
use Rattle.se_items.proofs.Wrotes.{sends-all, sends-stop}
use Rattle.se_info.proofs.info.write_listings.Goals as goal

pub returns-in_err-write_wanted : goal.returns-in_err-write_wanted
returns-in_err-write_wanted g c =
    let p = err_from_is_err_and c.from_residual.result c.from_residual.ensures.1 in
    rw (p.1, p.2, flat_map-map (wanted_text c.args.policy.now c.args.expand c.args.flat) wanted_view c.args.listings.now)
    (sends-stop (λ wanted. wanted_text c.args.policy.now c.args.expand c.args.flat (wanted_view wanted)) c.args.listings.now c.loop-wanted.wanted-index _ _ _ _ _ c.loop-wanted-test.true c.loop-wanted.invariant
    c.in_err-write_wanted.ensures)

pub returns : goal.returns
returns g c =
    rw (flat_map-map (wanted_text c.args.policy.now c.args.expand c.args.flat) wanted_view c.args.listings.now)
    (sends-all (λ wanted. wanted_text c.args.policy.now c.args.expand c.args.flat (wanted_view wanted)) c.args.listings.now c.loop-wanted.wanted-index _ _ _ c.loop-wanted-test.false c.loop-wanted.invariant)
