use Rattle.std.proofs.Common.{refl}
use Rattle.se_options.specs.FlowRequest.{flow_options}
use Rattle.se_options.proofs.Parts.{first-rest}
use Rattle.se_options.proofs.flow_options.flow_options.Goals as goal

pub returns : goal.returns
unfolding flow_options
returns c =
    first-rest c.policy_option.ensures (first-rest c.valued.ensures (first-rest c.source_option.ensures (first-rest c.target_option.ensures (
    first-rest c.shortest_option.ensures (first-rest c.all_option.ensures (first-rest (rw (← c.weight_kind.ensures) c.valued-2.ensures) (first-rest c.reverse_option.ensures (
    first-rest c.states_option.ensures (first-rest (rw (← c.limit_kind.ensures) c.valued-3.ensures) (first-rest c.from_option.ensures refl))))))))))
