use Rattle.se_options.specs.Request.{request_of}
use Rattle.se_tools.specs.Answers.{outside}
use Rattle.se_tools.proofs.Answered.{answers-nothing}
use Rattle.se_tools.proofs.answer.answer.Goals as goal

pub returns-in-Err-Memory : goal.returns-in-Err-Memory
returns-in-Err-Memory g c =
    answers-nothing (request_of c.args.words.now) _ (outside (g.F.Files.state c.args.files.now) (g.P.Patterns.state c.args.patterns.now) (g.S.Sink.state c.args.out.now)) c.requires
