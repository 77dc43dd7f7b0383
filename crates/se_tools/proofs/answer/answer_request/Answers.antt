use Rattle.se_options.specs.MakeRequest.{make_view}
use Rattle.se_tools.proofs.Settled.{answers-made}
use Rattle.se_tools.proofs.answer.answer_request.Goals as goal

pub returns-in-Info : goal.returns-in-Info
returns-in-Info g c = rw c.in-Info.is c.answer_about.ensures

pub returns-in-Search : goal.returns-in-Search
returns-in-Search g c = rw c.in-Search.is c.answer_about-in-Search.ensures

pub returns-in-Dom : goal.returns-in-Dom
returns-in-Dom g c = rw c.in-Dom.is c.answer_about-in-Dom.ensures

pub returns-in-Flow : goal.returns-in-Flow
returns-in-Flow g c = rw c.in-Flow.is c.answer_about-in-Flow.ensures

pub returns-in-Convert : goal.returns-in-Convert
returns-in-Convert g c = rw c.in-Convert.is c.answer_about-in-Convert.ensures

pub returns-in-Check : goal.returns-in-Check
returns-in-Check g c = rw c.in-Check.is c.answer_about-in-Check.ensures

pub returns-in-Make : goal.returns-in-Make
returns-in-Make g c = rw c.in-Make.is (answers-made (make_view c.in-Make.asks) _ _ _ _ _ _ c.requires c.answer_make.ensures.answers c.answer_make.ensures.written)
