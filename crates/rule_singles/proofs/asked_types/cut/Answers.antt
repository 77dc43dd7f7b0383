use Rattle.std.proofs.Common.{List, subst}
use Rattle.pol_bitmap.specs.declared.Node.{Node}
use Rattle.pol_bitmap.specs.Nodes.{bits_of}
use Rattle.pol_bitmap.specs.Sets.{IsSet}
use Rattle.rule_singles.proofs.AskedSets.{cut_is, uncut_is}
use Rattle.rule_singles.proofs.asked_types.cut.Goals as goal

pub returns-in-Some : goal.returns-in-Some
returns-in-Some c =
    let P : List Node → Type 0 = λ nodes. IsSet nodes in
    cut_is c.args.set c.in-Some.left c.args.left.now c.common.result (subst P c.set.view_is c.set.invariant) c.in-Some.is c.common.ensures.form c.common.ensures.bits

pub returns-in-None : goal.returns-in-None
returns-in-None c = uncut_is (bits_of c.args.set) c.args.left.now c.in-None.is
