use Rattle.std.proofs.Common.{◌∙◌}
use Rattle.pol_tree.specs.OptionalParts.{first_of}
use Rattle.pol_tree.proofs.Wrongs.{first_alone}
use Rattle.pol_tree.proofs.fitting_symbols.UserRecFitting.wrong_part.Goals as goal

pub returns-clause-shape : goal.returns-clause-shape
unfolding first_of
returns-clause-shape c = c.first_wrong.ensures ∙ rw (c.wrong_part.ensures.shape, c.wrong_part-2.ensures.shape, c.wrong_part-3.ensures.shape) (first_alone _)
