use Rattle.std.proofs.Common.{sym, subst}
use Rattle.keyed_lists.proofs.Rising.{Rises, in_order_rises}
use Rattle.ranked_keys.proofs.ranked.RankedKeys.new.Goals as goal

pub few_ranked-requires : goal.few_ranked-requires
few_ranked-requires g c = subst (Rises g.K.Ord.cmp) (sym c.in_ok-in_order.ensures) (in_order_rises g.K.Ord.cmp g.met.K.Ord.total c.args.keys.items)
