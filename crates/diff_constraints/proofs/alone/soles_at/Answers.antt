use Rattle.std.proofs.Common.{List, None, Some, [], ◌∷◌, ◌++◌, ◌∙◌, take, ap, sym}
use Rattle.std.specs.List.{filter_map}
use Rattle.std.proofs.lemmas.List.{append-nil}
use Rattle.diff_constraints.specs.ConstraintDifferences.{Sole}
use Rattle.diff_constraints.specs.Inner.SolePlaces.{sole_at}
use Rattle.diff_constraints.proofs.ConstraintsAlone.{kept_more}
use Rattle.diff_constraints.proofs.alone.soles_at.Goals.{in-Some+in_ok-push-in-Some, in-None}
use Rattle.diff_constraints.proofs.alone.soles_at.Goals as goal

pub loop-at-preserved : goal.loop-at-preserved
loop-at-preserved c =
    let f = sole_at c.args.first.now c.args.second.now in
    elim c.match-sole_at.branch [
      | in-Some+in_ok-push-in-Some w ↦
          ap (λ soles. soles.items) w.soles-is ∙ w.in_ok-push-in-Some.ensures.items ∙ ap (λ (soles : List Sole). soles ++ w.in-Some.sole ∷ []) c.loop-at.invariant
          ∙ kept_more f c.args.places.now c.loop-at.at-index _ (Some w.in-Some.sole) c.loop-at-test.true (sym w.in-Some.is ∙ c.sole_at.ensures)
      | in-None w ↦
          ap (λ soles. soles.items) w.soles-is ∙ c.loop-at.invariant ∙ sym (append-nil (filter_map f (take c.loop-at.at-index c.args.places.now)))
          ∙ kept_more f c.args.places.now c.loop-at.at-index _ None c.loop-at-test.true (sym w.in-None.is ∙ c.sole_at.ensures)
    ]
