use Rattle.std.proofs.Common.{refl, ◌∙◌, rules}
use Rattle.pol_tree.specs.OptionalParts.{first_of}
use Rattle.pol_tree.proofs.FittingSymbols.{class_fits}
use Rattle.pol_tree.proofs.Wrongs.{none_in}
use Rattle.pol_tree.proofs.fitting_symbols.ClassRecFitting.wrong_part.Goals as goal

pub returns-clause-shape : goal.returns-clause-shape
unfolding first_of
returns-clause-shape c =
    c.first_wrong.ensures ∙ rw (c.wrong_in.ensures.shape ∙ none_in c.args.self.now.permissions, c.wrong_in-2.ensures.shape, c.wrong_in-3.ensures.shape) refl

pub returns-clause-fits : goal.returns-clause-fits
returns-clause-fits c =
    let defaults = c.look_at_defaults.ensures in
    class_fits c.args.version c.args.self.now (search rules) (search rules) defaults.user defaults.role defaults.range defaults.kind c.wrong_in.ensures.fits c.wrong_in-2.ensures.fits c.wrong_in-3.ensures.fits
