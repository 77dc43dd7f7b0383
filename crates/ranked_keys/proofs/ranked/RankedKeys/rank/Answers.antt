use Rattle.std.proofs.Common.{◌≡◌, sym, ap, ◌∙◌, subst}
use Rattle.keyed_lists.specs.KeyOrder.{place_in}
use Rattle.keyed_lists.proofs.Rising.{Rises}
use Rattle.ranked_keys.proofs.Ranks.{found, unfound}
use Rattle.ranked_keys.proofs.ranked.RankedKeys.rank.Goals as goal

pub returns-in-Ok : goal.returns-in-Ok
returns-in-Ok g c =
    let rises : Rises g.K.Ord.cmp c.deref.result.now = subst (Rises g.K.Ord.cmp) (sym c.deref.ensures.value) c.self.invariant.rises in
    let seen : c.deref.result.now ≡ c.args.self.now = cc in
    sym (ap (λ keys. place_in g.K.Ord.cmp keys c.args.key.now) (sym seen)
    ∙ found g.K.Ord.cmp g.met.K.Ord.total c.args.key.now c.deref.result.now rises c.in-Ok.place c.in-Ok.ensures.bound c.in-Ok.ensures.ok)

pub returns-in-Err : goal.returns-in-Err
returns-in-Err g c =
    let rises : Rises g.K.Ord.cmp c.deref.result.now = subst (Rises g.K.Ord.cmp) (sym c.deref.ensures.value) c.self.invariant.rises in
    let seen : c.deref.result.now ≡ c.args.self.now = cc in
    sym (ap (λ keys. place_in g.K.Ord.cmp keys c.args.key.now) (sym seen)
    ∙ unfound g.K.Ord.cmp g.met.K.Ord.total c.args.key.now c.deref.result.now rises c.in-Err.field-0 c.in-Err.ensures.position)
