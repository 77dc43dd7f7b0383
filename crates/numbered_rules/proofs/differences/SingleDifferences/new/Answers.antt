use Rattle.std.proofs.Common.{reverse, ◌∙◌}
use Rattle.numbered_rules.proofs.RowFacts.{all_rows}
use Rattle.numbered_rules.proofs.differences.SingleDifferences.new.Goals as goal

pub returns : goal.returns
returns c =
    all_rows c.args.counting c.args.pool.now c.in_ok-left.left.items c.args.first.items c.args.second.items c.in_ok-first.first.items c.in_ok-second.second.items
    c.deref.result.now c.deref-2.result.now c.deref-3.result.now c.deref-4.result.now c.deref-5.result.now c.deref-6.result.now c.deref-7.result.now c.empty.result (reverse c.in_ok-sources.sources.items)
    c.deref.ensures.value c.deref-2.ensures.value c.deref-3.ensures.value c.deref-4.ensures.value c.deref-5.ensures.value c.deref-6.ensures.value c.deref-7.ensures.value c.empty.ensures
    (c.in_ok-sources.ensures ∙ c.in_ok-sources_of.ensures) (c.in_ok-left.ensures.left c.args.pool.now) (c.in_ok-first.ensures.classes c.args.pool.now) (c.in_ok-second.ensures.classes c.args.pool.now)
