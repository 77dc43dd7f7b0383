use Rattle.se_make.proofs.making.answer_make.Goals as goal

pub returns-clause-answers : goal.returns-clause-answers
returns-clause-answers g c = c.status_written.ensures.concludes _ _ _ c.write_answer.ensures
