use Rattle.std.proofs.Common.{◌≡◌, inl, true, length, sym, ap, ◌∙◌, arith}
use Rattle.std.specs.List.{list_any}
use Rattle.pol_bitmap.specs.Nodes.{bits_of, has_bit}
use Rattle.pol_bitmap.proofs.BitLists.{bits-from_has_bit}
use Rattle.pol_expand.specs.Expansion.{expansion_of}
use Rattle.pol_expand.specs.Inner.Inverting.{Inversion}
use Rattle.pol_expand.proofs.Listing.{listed_at, attribute_listed}
use Rattle.pol_expand.proofs.Touching.{meets_is}
use Rattle.pol_expand.proofs.inverse.Inverse.touches.Goals as goal

pub place_of-requires : goal.place_of-requires
place_of-requires c =
    let is : has_bit c.self.inside.attributes c.args.value ≡ true = sym c.has_value.ensures ∙ c.if-has_value.true in
    let shown : has_bit c.args.self.now.attributes c.args.value ≡ true = ap (λ (m : Inversion). has_bit m.attributes c.args.value) (sym c.self.view_is) ∙ is in
    inl (bits-from_has_bit c.args.self.now.attributes c.args.value shown)

pub returns-then-has_value : goal.returns-then-has_value
returns-then-has_value c =
    let m = c.self.inside in
    let place = c.place_of.result in
    let count : length m.sets.items ≡ c.args.self.now.count = ap (λ (m : Inversion). m.count) c.self.view_is in
    let is : has_bit m.attributes c.args.value ≡ true = sym c.has_value.ensures ∙ c.if-has_value.true in
    let shown : has_bit c.args.self.now.attributes c.args.value ≡ true = ap (λ (m : Inversion). has_bit m.attributes c.args.value) (sym c.self.view_is) ∙ is in
    let bits = attribute_listed m.attributes m.sets.items c.args.value place c.index.result.now is c.place_of.ensures.place (omega (arith, c.place_of.ensures.within)) c.index.ensures in
    let all = listed_at m.attributes m.sets.items c.args.value (omega (arith, c.place_of.ensures.place)) (omega (arith, c.place_of.ensures.place, c.place_of.ensures.within)) in
    rw shown (meets_is c.meets.result (bits_of c.index.result.now) c.args.given.now c.meets.ensures
    ∙ ap (list_any (has_bit c.args.given.now)) (bits ∙ sym all ∙ ap (λ (m : Inversion). expansion_of m.expansions c.args.value) c.self.view_is))
