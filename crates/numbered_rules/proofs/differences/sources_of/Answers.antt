use Rattle.std.proofs.Common.{sym, ap, subst, ◌<◌, length, ◌∙◌}
use Rattle.std.specs.List.{All, flat_map}
use Rattle.std.specs.Ordering.{nat_cmp}
use Rattle.keyed_lists.specs.KeyOrder.{keys_in_order}
use Rattle.numbered_rules.specs.Forms.{bits_at}
use Rattle.numbered_rules.proofs.FormFacts.{sources_in_order, sources_within}
use Rattle.numbered_rules.proofs.differences.sources_of.Goals as goal

pub union_of-requires : goal.union_of-requires
union_of-requires c = subst (All (λ set. set < length c.args.pool.now)) (sym (c.deref.ensures.value ∙ c.in_ok-sets.ensures)) (sources_within c.args.pool.now c.args.forms.now c.requires)

pub returns : goal.returns
returns c =
    c.in_ok-union_of.ensures.bits ∙ ap (λ ns. keys_in_order nat_cmp (flat_map (bits_at c.args.pool.now) ns)) (c.deref.ensures.value ∙ c.in_ok-sets.ensures)
    ∙ sources_in_order c.args.pool.now c.args.forms.now
