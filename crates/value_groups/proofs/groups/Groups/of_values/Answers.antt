use Rattle.value_groups.proofs.Stretches.{groups_are, steps_of}
use Rattle.value_groups.proofs.groups.Groups.of_values.Goals as goal

pub invariant_of-result : goal.invariant_of-result
invariant_of-result c = steps_of c.args.values.now c.args.most c.in_ok-starts.starts.items c.in_ok-places.places.items c.in_ok-starts.ensures c.in_ok-places.ensures

pub returns : goal.returns
returns c = groups_are c.args.values.now c.args.most c.in_ok-starts.starts.items c.in_ok-places.places.items c.in_ok-starts.ensures c.in_ok-places.ensures
