use Rattle.std.proofs.Common.{◌≡◌, [], map, ap, ◌∙◌}
use Rattle.std.proofs.lemmas.Result.{IfOk-weaker}
use Rattle.std.specs.Map.{values_of}
use Rattle.keyed_lists.specs.KeyOrder.{keys_of_both, places_of}
use Rattle.keyed_lists.specs.Inner.Adding.{added}
use Rattle.keyed_lists.specs.declared.pairing.Side.TheVariants.{First, Second}
use Rattle.keyed_lists.proofs.Paired.{paired}
use Rattle.keyed_lists.proofs.pairing.pair_up.Goals as goal

pub returns : goal.returns
returns g c =
    let second : c.add_keys.new.places.entries ≡ added g.K.Ord.cmp Second 0 c.args.second.items [] =
    c.in_ok-add_keys.ensures ∙ ap (λ es. added g.K.Ord.cmp Second 0 c.args.second.items es) c.new-places.ensures.empty in
    let both : c.add_keys-2.new.places.entries ≡ added g.K.Ord.cmp First 0 c.args.first.items (added g.K.Ord.cmp Second 0 c.args.second.items []) =
    c.in_ok-add_keys-2.ensures ∙ ap (λ es. added g.K.Ord.cmp First 0 c.args.first.items es) second in
    IfOk-weaker c.places_in.result (λ all. all.items ≡ values_of c.add_keys-2.new.places.entries) (λ all. all.items ≡ map (places_of g.K.Ord.cmp c.args.first.items c.args.second.items) (keys_of_both g.K.Ord.cmp c.args.first.items c.args.second.items))
    (λ places is. is ∙ ap values_of both ∙ paired g.K.Ord.cmp g.met.K.Ord.total c.args.first.items c.args.second.items) c.places_in.ensures
