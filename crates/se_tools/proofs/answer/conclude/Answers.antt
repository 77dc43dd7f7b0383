use Rattle.pol_file.specs.Acceptance.{accept}
use Rattle.se_options.specs.Request.{question_view}
use Rattle.se_tools.specs.Answers.{outside}
use Rattle.se_tools.proofs.Settled.{memory-settles}
use Rattle.se_tools.proofs.answer.conclude.Goals as goal

pub returns-in-Err-Memory : goal.returns-in-Err-Memory
returns-in-Err-Memory g c =
    memory-settles (question_view c.args.question) (accept c.args.bytes.now) _ (outside (g.F.Files.state c.args.files.now) (g.P.Patterns.state c.args.patterns.now) (g.S.Sink.state c.args.out.now)) c.requires.others
