use Rattle.std.proofs.Common.{◌≡◌, List, ℕ, IfOk, true, false, sym, ap, subst, ◌∙◌, arith}
use Rattle.pol_bitmap.specs.Nodes.{bits_of, has_bit}
use Rattle.pol_expand.specs.Expansion.{expansion_of}
use Rattle.pol_expand.specs.Inner.Inverting.{Inversion}
use Rattle.pol_expand.proofs.Listing.{listed_at, attribute_listed, type_listed, shared_bits}
use Rattle.pol_expand.proofs.inverse.Inverse.set_of.Goals as goal

pub returns-then-has_value-clause-bits : goal.returns-then-has_value-clause-bits
returns-then-has_value-clause-bits c =
    let m = c.self.inside in
    let within = c.self.invariant.declared c.args.value (rw (← c.self.view_is) at c.requires) in
    let is : has_bit m.attributes c.args.value ≡ true = sym c.has_value.ensures ∙ c.if-has_value.true in
    let bits = attribute_listed m.attributes m.sets.items c.args.value c.place_of.result c.index.result.now is c.place_of.ensures.place (omega (arith, within.1, c.place_of.ensures.place)) c.index.ensures in
    let all = listed_at m.attributes m.sets.items c.args.value within.0 within.1 in
    shared_bits c.share.result c.index.result.now (expansion_of c.args.self.now.expansions c.args.value) c.share.ensures.same (bits ∙ sym all ∙ ap (λ (m : Inversion). expansion_of m.expansions c.args.value) c.self.view_is)

pub returns-else-has_value-clause-bits : goal.returns-else-has_value-clause-bits
returns-else-has_value-clause-bits c =
    let within = c.self.invariant.declared c.args.value (rw (← c.self.view_is) at c.requires) in
    let not : has_bit c.self.inside.attributes c.args.value ≡ false = sym c.has_value.ensures ∙ c.if-has_value.false in
    let all = listed_at c.self.inside.attributes c.self.inside.sets.items c.args.value within.0 within.1 in
    subst (λ (xs : List ℕ). IfOk c.from_rising.result (λ set. bits_of set ≡ xs)) (type_listed c.self.inside.attributes c.self.inside.sets.items c.args.value not ∙ sym all ∙ ap (λ (m : Inversion). expansion_of m.expansions c.args.value) c.self.view_is) c.from_rising.ensures.bits
