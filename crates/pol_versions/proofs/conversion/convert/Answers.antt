use Rattle.std.proofs.Common.{Option, Err, refl, sym, subst, ◌∙◌}
use Rattle.pol_unheld.specs.declared.Unheld.{Unheld}
use Rattle.pol_versions.specs.declared.errors.ConvertError.TheVariants.{CannotHold}
use Rattle.pol_versions.specs.Conversion.{converted, too_long, unless_lost, Converts}
use Rattle.pol_versions.proofs.conversion.convert.Goals as goal

pub returns-in-Some : goal.returns-in-Some
returns-in-Some c =
    let new = converted c.args.tree c.args.version in
    subst (λ (lost : Option Unheld). Converts (unless_lost lost (too_long new)) new (Err (CannotHold c.in-Some.part))) (sym c.in-Some.is ∙ c.lost_part.ensures) refl

pub returns-in-None : goal.returns-in-None
returns-in-None c =
    let new = converted c.args.tree c.args.version in
    subst (λ (lost : Option Unheld). Converts (unless_lost lost (too_long new)) new c.converted.result) (sym c.in-None.is ∙ c.lost_part.ensures) c.converted.ensures
