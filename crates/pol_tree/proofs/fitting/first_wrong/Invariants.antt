use Rattle.std.proofs.Common.{◌≡◌, drop}
use Rattle.pol_tree.specs.OptionalParts.{first_of}
use Rattle.pol_tree.proofs.fitting.first_wrong.Given as goal

-- none of the parts before is wrong
abbrev pub invariant-loop-part : goal.invariant-loop-part
invariant-loop-part l = first_of l.parts ≡ first_of (drop l.part-index l.parts)
