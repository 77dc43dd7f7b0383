use Rattle.pol_bitmap.proofs.KeptOnce.{kept_once, rise_once}
use Rattle.flow_search.proofs.flow_graph.make_distinct.Goals as goal

pub returns : goal.returns
returns c = record {
  rise = rise_once c.sort_unstable.new.self.items c.dedup.new.self.items c.sort_unstable.ensures.sorted c.dedup.ensures.filtered;
  each = kept_once c.args.numbers.now.items c.sort_unstable.new.self.items c.dedup.new.self.items c.sort_unstable.ensures.permutation c.dedup.ensures.filtered;
}
