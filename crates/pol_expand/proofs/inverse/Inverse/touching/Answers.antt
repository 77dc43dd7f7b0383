use Rattle.std.proofs.Common.{◌↔◌, ℕ, List, IfOk, subst, sym}
use Rattle.std.specs.List.{Contains, filter}
use Rattle.pol_bitmap.specs.Nodes.{bits_of}
use Rattle.pol_expand.specs.Expansion.{IsTouching}
use Rattle.pol_expand.specs.Inner.Inverting.{Inversion, touches}
use Rattle.pol_expand.proofs.Touching.{touching_of}
use Rattle.pol_expand.proofs.inverse.Inverse.touching.Goals as goal

pub returns : goal.returns
returns c =
    let found : (value : ℕ) → Contains (bits_of c.in_ok-attributes.attributes) value ↔ Contains (filter (touches c.args.self.now.expansions c.args.self.now.attributes c.args.given.now) (bits_of c.args.self.now.attributes)) value =
    λ value. subst (λ (xs : List ℕ). Contains (bits_of c.in_ok-attributes.attributes) value ↔ Contains xs value) c.in_ok-values.ensures (c.in_ok-attributes.ensures.bits value) in
    let inside = subst (λ (m : Inversion). (value : ℕ) → Contains (bits_of c.in_ok-attributes.attributes) value ↔ Contains (filter (touches m.expansions m.attributes c.args.given.now) (bits_of m.attributes)) value) (sym c.self.view_is) found in
    subst (λ (m : Inversion). IfOk c.union.result (λ set. IsTouching m.expansions m.attributes m.types c.args.given.now (bits_of set))) c.self.view_is
    (touching_of c.self.inside.sets.items c.self.inside.attributes c.self.inside.types c.args.given.now c.in_ok-types.types c.in_ok-attributes.attributes c.union.result
    c.self.invariant c.in_ok-types.ensures.bits inside c.union.ensures.bits)
