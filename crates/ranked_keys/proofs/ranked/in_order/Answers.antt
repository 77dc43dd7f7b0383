use Rattle.std.proofs.Common.{◌≡◌, [], ap, ◌∙◌}
use Rattle.std.proofs.lemmas.Result.{IfOk-weaker}
use Rattle.keyed_lists.specs.KeyOrder.{keys_in_order}
use Rattle.ranked_keys.specs.Ranks.{with_keys}
use Rattle.ranked_keys.proofs.Ranks.{added_to_none}
use Rattle.ranked_keys.proofs.ranked.in_order.Goals as goal

pub returns : goal.returns
returns g c =
    let all : c.add_keys.new.all.keys ≡ with_keys g.K.Ord.cmp c.args.keys.items [] =
    c.in_ok-add_keys.ensures ∙ ap (with_keys g.K.Ord.cmp c.args.keys.items) c.new-all.ensures.empty in
    IfOk-weaker c.keys_of.result (λ keys. keys.items ≡ c.add_keys.new.all.keys) (λ keys. keys.items ≡ keys_in_order g.K.Ord.cmp c.args.keys.items)
    (λ keys is. is ∙ all ∙ added_to_none g.K.Ord.cmp c.args.keys.items) c.keys_of.ensures
