use Rattle.std.proofs.Common.{◌≡◌, length, sym, ap, ◌∙◌, arith}
use Rattle.keyed_lists.specs.Inner.Adding.{added, with_place}
use Rattle.keyed_lists.proofs.AddedKeys.{added_popped, added_none}
use Rattle.keyed_lists.proofs.pairing.add_keys.Goals as goal

pub keys-preserved : goal.keys-preserved
keys-preserved g c =
    let place : c.len.result ≡ length c.pop.new.self.items = omega arith in
    ap (λ entries. added g.K.Ord.cmp c.args.side 0 c.pop.new.self.items entries)
    (c.in_ok-add_key.ensures ∙ ap (λ n. with_place g.K.Ord.cmp c.args.side n c.in-Some.key c.keys.places.entries) place)
    ∙ sym (added_popped g.K.Ord.cmp c.args.side c.pop.new.self.items c.keys.keys.items c.in-Some.key c.keys.places.entries c.in-Some.ensures.items)
    ∙ c.keys.invariant

pub returns : goal.returns
returns g c =
    let none : length c.keys.keys.items ≡ 0 = omega (arith, c.in_default.ensures.cases.0) in
    sym (added_none g.K.Ord.cmp c.args.side c.keys.keys.items c.keys.places.entries none) ∙ c.keys.invariant
