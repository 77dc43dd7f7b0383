use Rattle.se_outside.specs.declared.Slot.TheVariants.{List as Checklist}
use Rattle.se_verdicts.specs.CheckAnswer.{check_answer}
use Rattle.se_tools.proofs.Answered.{other-list}
use Rattle.se_tools.proofs.Settled.{file-unread, list-read}
use Rattle.se_tools.proofs.answer.answer_listed.Goals as goal

pub answer_check-requires : goal.answer_check-requires
answer_check-requires g c = rw c.deref.ensures.value c.in-Ok.ensures.reads.within

pub returns-in-Err : goal.returns-in-Err
returns-in-Err g c =
    rw c.unread_status.ensures
    (file-unread Checklist c.args.asks.now.list.text.now (check_answer c.args.policy.now) _ _ _ _ c.in-Err.end other-list c.in-Err.ensures.reads)

pub returns-in-Ok : goal.returns-in-Ok
returns-in-Ok g c =
    list-read c.args.asks.now.list.text.now (check_answer c.args.policy.now) _ _ _ _ _ c.in-Ok.bytes c.answer_check.result c.in-Ok.ensures.reads
    (rw c.deref.ensures.value at c.answer_check.ensures.answers) c.answer_check.ensures.about
