use Rattle.std.proofs.Common.{◌∙◌, rules}
use Rattle.pol_tree.proofs.FittingConstraints.{item_fits}
use Rattle.pol_tree.proofs.Wrongs.{first_none, first_then, none_within}
use Rattle.pol_tree.proofs.fitting_constraints.ConstraintItemFitting.wrong_part.Goals as goal

pub returns-clause-shape : goal.returns-clause-shape
returns-clause-shape c =
    let item = c.args.self.now in
    c.first_wrong.ensures
    ∙ rw (
      c.wrong_presence.ensures,
      c.wrong_presence-2.ensures,
      c.has_type_set.ensures,
      c.wrong_within.ensures.shape ∙ none_within item.names,
      c.wrong_within-2.ensures.shape ∙ none_within item.type_set,
    ) (first_then _ _ _ (first_then _ _ _ (first_none _ ∙ first_none _)))

pub returns-clause-fits : goal.returns-clause-fits
returns-clause-fits c = item_fits c.args.version c.args.self.now (search rules) (search rules) (search rules) c.wrong_within.ensures.fits c.wrong_within-2.ensures.fits
