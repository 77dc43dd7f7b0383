use Rattle.std.proofs.Common.{◌∙◌, sym}
use Rattle.dom_trans.specs.Transitions.{is_transition}
use Rattle.se_options.specs.DomRequest.{dom_view}
use Rattle.se_walks.proofs.AskedTypes.{between_sent, no_ends_sent}
use Rattle.se_dom.specs.DomAnswer.{dom_graph, dom_rules}
use Rattle.se_dom.specs.DomTexts.{dom_words}
use Rattle.se_dom.proofs.dom.write_answer.Goals as goal

pub returns-in-Some : goal.returns-in-Some
returns-in-Some g c =
    let policy = c.args.policy.now in
    let rules = dom_rules (dom_view c.args.asks.now) policy in
    between_sent (dom_words rules) (is_transition rules) (dom_graph (dom_view c.args.asks.now)) policy c.in-Some.ends _ _ _ (sym c.ends_named.ensures.ends ∙ c.in-Some.is) c.write_between.ensures

pub returns-in-None : goal.returns-in-None
returns-in-None g c =
    let policy = c.args.policy.now in
    let rules = dom_rules (dom_view c.args.asks.now) policy in
    no_ends_sent (dom_words rules) (is_transition rules) (dom_graph (dom_view c.args.asks.now)) policy _ _ (sym c.ends_named.ensures.ends ∙ c.in-None.is)
