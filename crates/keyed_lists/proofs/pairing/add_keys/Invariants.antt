use Rattle.std.proofs.Common.{◌≡◌, vec_len}
use Rattle.keyed_lists.specs.Inner.Adding.{added}
use Rattle.keyed_lists.proofs.pairing.add_keys.Given as goal

abbrev pub invariant-keys : goal.invariant-keys
invariant-keys g l = added g.K.Ord.cmp l.side 0 l.keys.items l.places.entries ≡ added g.K.Ord.cmp l.fn.side 0 l.fn.keys.items l.fn.places.entries

abbrev pub decreases-keys : goal.decreases-keys
decreases-keys g l = vec_len l.keys
