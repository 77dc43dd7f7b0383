use Rattle.std.proofs.Common.{◌≡◌, List, ap, subst, ◌∙◌}
use Rattle.std.specs.Prelude.{IfOk}
use Rattle.std.specs.List.{filter_map}
use Rattle.diff_constraints.specs.ConstraintDifferences.{Sole, constraints_alone}
use Rattle.diff_constraints.specs.Inner.SolePlaces.{sole_at}
use Rattle.diff_constraints.proofs.ConstraintsAlone.{alone_at_places}
use Rattle.diff_constraints.proofs.alone.constraints_alone.Goals as goal

pub returns : goal.returns
returns c =
    let first = c.args.first.now in
    let second = c.args.second.now in
    let same : filter_map (sole_at first second) c.deref.result.now ≡ constraints_alone first second = ap (filter_map (sole_at first second)) (c.deref.ensures.value ∙ c.in_ok-places.ensures) ∙ alone_at_places first second in
    subst (λ (all : List Sole). IfOk c.soles_at.result (λ soles. soles.items ≡ all)) same c.soles_at.ensures
