use Rattle.std.proofs.Common.{sym, ap, ◌∙◌}
use Rattle.ranked_keys.specs.Ranks.{with_keys}
use Rattle.ranked_keys.proofs.Ranks.{added_popped}
use Rattle.ranked_keys.proofs.ranked.add_keys.Goals as goal

pub keys-preserved : goal.keys-preserved
keys-preserved g c =
    ap (with_keys g.K.Ord.cmp c.pop.new.self.items) c.in_ok-insert.ensures.keys
    ∙ sym (added_popped g.K.Ord.cmp c.pop.new.self.items c.keys.keys.items c.in-Some.key c.keys.all.keys c.in-Some.ensures.items)
    ∙ c.keys.invariant
