use Rattle.pol_tree.proofs.FittingContexts.{named_fits}
use Rattle.pol_tree.proofs.fitting_contexts.NamedRecFitting.wrong_part.Goals as goal

pub returns-clause-fits : goal.returns-clause-fits
returns-clause-fits c = named_fits c.args.self.now c.wrong_part.ensures.fits c.wrong_part-2.ensures.fits
