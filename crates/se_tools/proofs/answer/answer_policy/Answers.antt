use Rattle.se_options.specs.CheckRequest.{check_view}
use Rattle.se_options.specs.ConvertRequest.{convert_view}
use Rattle.se_options.specs.DomRequest.{dom_view}
use Rattle.se_options.specs.FlowRequest.{flow_view}
use Rattle.se_options.specs.InfoRequest.{info_view}
use Rattle.se_options.specs.SearchRequest.{search_view}
use Rattle.se_tools.proofs.Settled.{check-settles, convert-settles, dom-settles, flow-settles, info-settles, search-settles}
use Rattle.se_tools.proofs.answer.answer_policy.Goals as goal

pub returns-in-Info : goal.returns-in-Info
returns-in-Info g c = rw c.in-Info.is (info-settles (info_view c.in-Info.asks.now) c.args.policy.now _ _ _ _ _ _ c.answer_info.ensures.answers c.answer_info.ensures.plain)

pub returns-in-Search : goal.returns-in-Search
returns-in-Search g c =
    rw c.in-Search.is (search-settles (search_view c.in-Search.asks.now) c.args.policy.now _ _ _ _ _ _ _ c.answer_search.ensures.answers c.answer_search.ensures.about c.answer_search.ensures.patterns)

pub returns-in-Dom : goal.returns-in-Dom
returns-in-Dom g c = rw c.in-Dom.is (dom-settles (dom_view c.in-Dom.asks.now) c.args.policy.now _ _ _ _ _ _ c.answer_dom.ensures.answers c.answer_dom.ensures.plain)

pub returns-in-Flow : goal.returns-in-Flow
returns-in-Flow g c = rw c.in-Flow.is (flow-settles (flow_view c.in-Flow.asks.now) c.args.policy.now _ _ _ _ _ _ _ c.answer_mapped.ensures)

pub returns-in-Convert : goal.returns-in-Convert
returns-in-Convert g c =
    rw c.in-Convert.is (convert-settles (convert_view c.in-Convert.asks.now) c.args.policy.now _ _ _ _ _ _ c.answer_convert.ensures.answers c.answer_convert.ensures.conversion)

pub returns-in-Check : goal.returns-in-Check
returns-in-Check g c = rw c.in-Check.is (check-settles (check_view c.in-Check.asks.now) c.args.policy.now _ _ _ _ _ _ _ c.answer_listed.ensures)
