use Rattle.se_options.specs.Request.{question_view}
use Rattle.se_tools.specs.Answers.{outside}
use Rattle.se_tools.proofs.Answered.{answers-unread, answers-within}
use Rattle.se_tools.proofs.answer.answer_about.Goals as goal

pub conclude-requires-clause-few : goal.conclude-requires-clause-few
conclude-requires-clause-few g c = rw c.deref.ensures.value c.in-Ok.ensures.reads.within

pub conclude-requires-clause-others : goal.conclude-requires-clause-others
conclude-requires-clause-others g c = λ slot other. rw (c.in-Ok.ensures.reads.others slot other) (c.requires slot)

pub returns-in-Err : goal.returns-in-Err
returns-in-Err g c =
    rw c.unread_status.ensures
    (answers-unread (question_view c.args.question) _ (outside (g.F.Files.state c.args.files.now) (g.P.Patterns.state c.args.patterns.now) (g.S.Sink.state c.args.out.now)) _ c.in-Err.end c.requires
    (rw (← c.policy-name.ensures) c.in-Err.ensures.reads))

pub returns-in-Ok : goal.returns-in-Ok
returns-in-Ok g c =
    answers-within (question_view c.args.question) _ (outside (g.F.Files.state c.args.files.now) (g.P.Patterns.state c.args.patterns.now) (g.S.Sink.state c.args.out.now)) _ _ c.in-Ok.bytes c.conclude.result
    (rw (← c.policy-name.ensures) c.in-Ok.ensures.reads) (rw (c.deref.ensures.value, c.in-Ok.ensures.world) at c.conclude.ensures)
