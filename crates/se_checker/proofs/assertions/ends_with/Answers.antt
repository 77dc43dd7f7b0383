use Rattle.std.proofs.Common.{◌+◌}
use Rattle.pol_bitmap.specs.Nodes.{bits_of}
use Rattle.se_checker.proofs.WantedTypes.{touching_below, touching_ends}
use Rattle.se_checker.proofs.assertions.ends_with.Goals as goal

pub add_set-requires : goal.add_set-requires
add_set-requires c =
    touching_below c.args.policy.now c.args.types.now c.args.wanted.now (bits_of c.in_ok-touching.touching) c.in_ok-ends.ends c.type_count.result c.requires c.in_ok-touching.ensures c.in_ok-ends.ensures c.type_count.ensures.count

pub returns : goal.returns
returns c =
    touching_ends c.args.policy.now c.args.types.now c.args.wanted.now (bits_of c.in_ok-touching.touching) c.in_ok-ends.ends (c.type_count.result + 1) c.add_set.new.self.values c.requires c.in_ok-touching.ensures c.in_ok-ends.ensures c.add_set.ensures.each
