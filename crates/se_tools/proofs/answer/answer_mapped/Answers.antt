use Rattle.se_flow.specs.FlowAnswer.{flow_answer}
use Rattle.se_outside.specs.declared.Slot.TheVariants.{Map}
use Rattle.se_options.specs.FlowRequest.{flow_view}
use Rattle.se_tools.proofs.Answered.{other-map}
use Rattle.se_tools.proofs.Settled.{file-unread, map-read}
use Rattle.se_tools.proofs.answer.answer_mapped.Goals as goal

pub answer_flow-requires : goal.answer_flow-requires
answer_flow-requires g c = rw c.deref.ensures.value c.in-Ok.ensures.reads.within

pub returns-in-Err : goal.returns-in-Err
returns-in-Err g c =
    rw c.unread_status.ensures
    (file-unread Map c.args.asks.now.map.text.now (flow_answer (flow_view c.args.asks.now) c.args.policy.now) _ _ _ _ c.in-Err.end other-map c.in-Err.ensures.reads)

pub returns-in-Ok : goal.returns-in-Ok
returns-in-Ok g c =
    map-read c.args.asks.now.map.text.now (flow_answer (flow_view c.args.asks.now) c.args.policy.now) _ _ _ _ _ c.in-Ok.bytes c.answer_flow.result c.in-Ok.ensures.reads
    (rw c.deref.ensures.value at c.answer_flow.ensures.answers) c.answer_flow.ensures.about
