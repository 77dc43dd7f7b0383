use Rattle.std.proofs.Common.{◌≡◌, length, ap, arith}
use Rattle.pol_expand.specs.Inner.Inverting.{Inversion}
use Rattle.pol_expand.proofs.inverse.Inverse.place_of.Goals as goal

pub overflow_sub-result : goal.overflow_sub-result
overflow_sub-result c = let within = c.self.invariant.declared c.args.value (rw (← c.self.view_is) at c.requires) in within.0

pub returns-clause-place : goal.returns-clause-place
returns-clause-place c = let within = c.self.invariant.declared c.args.value (rw (← c.self.view_is) at c.requires) in omega (arith, within.0)

pub returns-clause-within : goal.returns-clause-within
returns-clause-within c =
    let within = c.self.invariant.declared c.args.value (rw (← c.self.view_is) at c.requires) in
    let count : length c.self.inside.sets.items ≡ c.args.self.now.count = ap (λ (m : Inversion). m.count) c.self.view_is in
    omega (arith, within.0, within.1)
