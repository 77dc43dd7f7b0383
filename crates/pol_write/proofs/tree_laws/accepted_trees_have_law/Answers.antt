use Rattle.pol_write.proofs.ShapedTree.{accepted_tree_is_shaped}
use Rattle.pol_write.proofs.SoundTree.{accepted_tree_is_sound}
use Rattle.pol_write.proofs.SpelledTree.{accepted_tree_is_spelled}
use Rattle.pol_write.proofs.tree_laws.accepted_trees_have_law.Goals as goal

pub returns-clause-sound : goal.returns-clause-sound
returns-clause-sound c = accepted_tree_is_sound

pub returns-clause-shape : goal.returns-clause-shape
returns-clause-shape c = accepted_tree_is_shaped

pub returns-clause-same : goal.returns-clause-same
returns-clause-same c = accepted_tree_is_spelled
