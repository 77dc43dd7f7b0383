use Rattle.std.proofs.Common.{◌∙◌, sym}
use Rattle.dom_trans.specs.Transitions.{is_transition}
use Rattle.se_options.specs.DomRequest.{dom_view}
use Rattle.se_walks.proofs.AskedTypes.{none-unknown}
use Rattle.se_walks.proofs.GraphAnswered.{graph_written}
use Rattle.se_dom.specs.DomAnswer.{dom_answer, dom_graph, dom_rules}
use Rattle.se_dom.specs.DomTexts.{dom_words}
use Rattle.se_dom.proofs.dom.answer_dom.Goals as goal

pub returns-in-None-clause-answers : goal.returns-in-None-clause-answers
unfolding dom_answer
returns-in-None-clause-answers g c =
    let asks = dom_view c.args.asks.now in
    let policy = c.args.policy.now in
    let rules = dom_rules asks policy in
    graph_written (dom_words rules) (is_transition rules) (dom_graph asks) policy _ _ _
    (none-unknown policy asks.source asks.target asks.states c.args.asks.now.excluded.items c.deref.result.now c.deref.ensures.value (sym c.first_unknown.ensures ∙ c.in-None.is))
    (c.status_written.ensures.concludes _ _ _ c.write_answer.ensures)
