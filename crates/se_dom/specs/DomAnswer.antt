-- The answer of sedta about a policy that was accepted: it is asked about the graph of transitions between types.
use Rattle.pol_file.specs.declared.Parts.{Parts}
use Rattle.counted_rules.specs.CountedRules.{Counted}
use Rattle.dom_trans.specs.Transitions.{is_transition}
use Rattle.se_status.specs.Conclusion.{Answer}
use Rattle.se_walks.specs.GraphAnswer.{GraphAsks, graph_answer, rules_in}
use Rattle.se_options.specs.DomRequest.{DomAsks}
use Rattle.se_dom.specs.DomTexts.{dom_words}

-- what is asked of the graph. Types that are excluded are no ends of a transition; entry types may be excluded.
abbrev pub dom_graph : DomAsks → GraphAsks
dom_graph asks = record {
  source = asks.source;
  target = asks.target;
  all = asks.all;
  reverse = asks.reverse;
  states = asks.states;
  excluded = asks.excluded;
  from = asks.from;
  limit = asks.limit;
}

-- the rules that count: all of them, or those that are enabled where states of booleans are stated
abbrev pub dom_rules : DomAsks → Parts → Counted
dom_rules asks policy = rules_in (dom_graph asks) policy

-- the transitions of the source, or the walks of transitions to the target, by the rules that count, unless a word names none
unfoldable pub dom_answer : DomAsks → Parts → Answer
dom_answer asks policy =
    let rules = dom_rules asks policy in
    graph_answer (dom_words rules) (is_transition rules) (dom_graph asks) policy
