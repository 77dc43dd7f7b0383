use Rattle.std.proofs.Common.{ℕ, List, subst}
use Rattle.perm_map.specs.PermissionMap.{weights_of}
use Rattle.se_items.specs.Writing.{Sends}
use Rattle.se_options.specs.FlowRequest.{flow_view}
use Rattle.se_flow.proofs.Answered.{text-asked}
use Rattle.se_flow.proofs.flow.write_asked.Goals as goal

pub returns : goal.returns
returns g c =
    let asks = flow_view c.args.asks.now in
    subst (λ (text : List ℕ). Sends (g.S.Sink.state c.args.out.now) (g.S.Sink.state c.write_answer.new.out) text c.write_answer.result)
    (text-asked asks c.args.policy.now (weights_of c.args.map.now) c.in_ok-rules.rules c.in_ok-rules.ensures) c.write_answer.ensures
