use Rattle.std.proofs.Common.{◌≡◌, ◌∙◌, ℕ, List, ap, subst}
use Rattle.std.specs.List.{concat}
use Rattle.pol_file.specs.declared.Parts.{Parts}
use Rattle.flow_search.specs.FlowEdges.{FlowSearch, flow_count}
use Rattle.se_items.specs.Writing.{Sends}
use Rattle.se_options.specs.FlowRequest.{flow_view}
use Rattle.se_walks.proofs.AskedTypes.{excluded-are}
use Rattle.se_walks.proofs.Paged.{paged}
use Rattle.se_flow.proofs.Edges.{items-are}
use Rattle.se_flow.proofs.flow.write_between.Goals as goal

pub returns : goal.returns
returns g c =
    let asks = flow_view c.args.asks.now in
    let rules = c.args.rules in
    let graph = c.in_ok-graph.graph in
    let nodes : flow_count graph ≡ rules.policy.symbols.types.nprim = ap (λ (search : FlowSearch). search.rules.policy.symbols.types.nprim) c.in_ok-graph.ensures in
    let P : List (List ℕ) → Type 0 =
    λ items. Sends (g.S.Sink.state c.args.out.now) (g.S.Sink.state c.write_items.new.out)
    (concat items) c.write_items.result in
    subst P
    (paged c.window.result asks.from asks.limit c.window.ensures
    (items-are asks rules c.args.map.now c.in_ok-excluded.excluded graph c.args.ends c.args.asks.now.at_least_one
    (excluded-are c.symbols.result.now rules.policy.symbols c.args.asks.now.excluded.items c.deref.result.now c.in_ok-excluded.excluded (c.symbols.ensures ∙ ap (λ (policy : Parts). policy.symbols) c.policy-policy.ensures) c.deref.ensures.value c.in_ok-excluded.ensures) c.in_ok-graph.ensures))
    (c.write_items.ensures rules.policy nodes)
