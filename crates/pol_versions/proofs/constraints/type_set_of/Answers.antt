use Rattle.std.proofs.Common.{refl}
use Rattle.pol_versions.proofs.EmptySets.{no_bits}
use Rattle.pol_versions.proofs.constraints.type_set_of.Goals as goal

pub returns-in_ok-empty-in-None-2 : goal.returns-in_ok-empty-in-None-2
returns-in_ok-empty-in-None-2 c =
    let types = no_bits c.in_ok-empty-in-None.field-0 c.in_ok-empty-in-None.ensures.form c.in_ok-empty-in-None.ensures.bits in
    let negated = no_bits c.in_ok-empty-in-None-2.field-0 c.in_ok-empty-in-None-2.ensures.form c.in_ok-empty-in-None-2.ensures.bits in
    rw (c.in-None.is, types, negated) refl
