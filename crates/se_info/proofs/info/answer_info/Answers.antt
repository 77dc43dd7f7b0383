use Rattle.std.proofs.Common.{◌≡◌, ◌∙◌, None, sym}
use Rattle.se_options.specs.InfoRequest.{info_view}
use Rattle.se_info.specs.InfoAnswer.{first_unknown, info_answer}
use Rattle.se_info.proofs.info.answer_info.Goals as goal

pub returns-in-None-clause-answers : goal.returns-in-None-clause-answers
unfolding info_answer
returns-in-None-clause-answers g c =
    let asks = info_view c.args.asks.now in
    let none : first_unknown c.args.policy.now asks.expand asks.listings ≡ None = sym (rw c.deref.ensures.value at (c.first_unknown.ensures asks.expand)) ∙ c.in-None.is in
    rw none (c.status_written.ensures.concludes _ _ _ c.write_answer.ensures)
