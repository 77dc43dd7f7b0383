use Rattle.pol_expand.proofs.Listing.{inversion_of, listed_is_expanded, sets_count}
use Rattle.pol_expand.proofs.inverse.Inverse.build.Goals as goal

pub invariant_of-result : goal.invariant_of-result
invariant_of-result c = rw (c.in_ok-share.ensures.same, c.in_ok-share-2.ensures.same)
    (inversion_of c.args.rows.now c.args.attributes.now c.args.types.now c.in_ok-sets.sets.items c.requires.few c.requires.attributes c.requires.types c.requires.apart c.in_ok-sets.ensures)

pub returns : goal.returns
returns c =
    let sets = c.in_ok-sets.ensures in
    let all = listed_is_expanded c.args.rows.now c.args.attributes.now c.args.types.now c.in_ok-sets.sets.items sets in
    let count = sets_count c.args.rows.now c.args.attributes.now c.args.types.now c.in_ok-sets.sets.items sets in
    rw (c.in_ok-share.ensures.same, c.in_ok-share-2.ensures.same)
    (λ i. record { expansions = all i; attributes = c.args.attributes.now; types = c.args.types.now; count = count i })
