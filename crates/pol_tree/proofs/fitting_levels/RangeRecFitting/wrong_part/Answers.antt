use Rattle.std.proofs.Common.{◌∙◌}
use Rattle.pol_tree.specs.OptionalParts.{first_of}
use Rattle.pol_tree.proofs.Wrongs.{first_alone, none_within}
use Rattle.pol_tree.proofs.fitting_levels.RangeRecFitting.wrong_part.Goals as goal

pub returns-clause-shape : goal.returns-clause-shape
unfolding first_of
returns-clause-shape c =
    c.first_wrong.ensures ∙ rw (c.wrong_part.ensures.shape, c.wrong_presence.ensures, c.wrong_within.ensures.shape ∙ none_within c.args.self.now.high) (first_alone _)
