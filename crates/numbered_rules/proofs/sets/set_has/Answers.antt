use Rattle.pol_bitmap.specs.Nodes.{bits_of}
use Rattle.numbered_rules.proofs.SetFacts.{test_is}
use Rattle.numbered_rules.proofs.sets.set_has.Goals as goal

pub returns : goal.returns
returns c = test_is c.has.result (bits_of c.args.set.now) c.args.number c.has.ensures
