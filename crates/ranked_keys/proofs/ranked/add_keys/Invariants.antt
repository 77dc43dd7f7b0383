use Rattle.std.proofs.Common.{◌≡◌, vec_len}
use Rattle.ranked_keys.specs.Ranks.{with_keys}
use Rattle.ranked_keys.proofs.ranked.add_keys.Given as goal

abbrev pub invariant-keys : goal.invariant-keys
invariant-keys g l = with_keys g.K.Ord.cmp l.keys.items l.all.keys ≡ with_keys g.K.Ord.cmp l.fn.keys.items l.fn.all.keys

abbrev pub decreases-keys : goal.decreases-keys
decreases-keys g l = vec_len l.keys
