use Rattle.pol_write.proofs.FoundTree.{sound_is_accepted}
use Rattle.pol_write.proofs.tree_laws.sound_trees_have_law.Goals as goal

pub returns : goal.returns
returns c = sound_is_accepted
