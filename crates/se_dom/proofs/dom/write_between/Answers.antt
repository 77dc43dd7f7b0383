use Rattle.std.proofs.Common.{◌∙◌, List, ℕ, ap, subst, sym}
use Rattle.std.specs.List.{concat}
use Rattle.std.proofs.lemmas.Result.{err_from_is_err_and}
use Rattle.pol_file.specs.declared.Parts.{Parts}
use Rattle.pol_expand.specs.PolicyMap.{IsPolicyMap}
use Rattle.counted_rules.specs.CountedRules.{Counted}
use Rattle.dom_trans.specs.DomainEdges.{Domains}
use Rattle.se_items.specs.Writing.{Sends}
use Rattle.se_items.proofs.Wrotes.{nothing_sent}
use Rattle.se_options.specs.DomRequest.{dom_view}
use Rattle.se_walks.specs.GraphItems.{AreWithin}
use Rattle.se_walks.proofs.AskedTypes.{excluded-are}
use Rattle.se_walks.proofs.Paged.{paged}
use Rattle.se_dom.specs.DomAnswer.{dom_rules}
use Rattle.se_walks.proofs.AskedRules.{policy-asked}
use Rattle.se_dom.proofs.Edges.{items-are}
use Rattle.se_dom.proofs.dom.write_between.Goals as goal

pub returns-in_err-types : goal.returns-in_err-types
returns-in_err-types g c =
    let p = err_from_is_err_and c.from_residual-in_err-types.result c.from_residual-in_err-types.ensures.1 in
    rw (p.1, p.2) (nothing_sent (g.S.Sink.state c.args.out.now) _)

pub new_under-requires : goal.new_under-requires
new_under-requires g c =
    let asks = dom_view c.args.asks.now in
    let same = ap (λ (rules : Counted). rules.policy) c.in_ok-counted.ensures ∙ policy-asked c.args.policy.now asks.states in
    subst (λ (p : Parts). IsPolicyMap p c.in_ok-types.types) (sym same) c.in_ok-types.ensures.map

pub write_items-requires : goal.write_items-requires
write_items-requires g c =
    let asks = dom_view c.args.asks.now in
    let same = ap (λ (domains : Domains). domains.rules.policy) c.in_ok-graph.ensures ∙ ap (λ (rules : Counted). rules.policy) c.in_ok-counted.ensures ∙ policy-asked c.args.policy.now asks.states in
    subst (λ (p : Parts). AreWithin p.symbols.types.nprim c.args.ends) (sym same) c.requires

pub returns : goal.returns
returns g c =
    let asks = dom_view c.args.asks.now in
    let policy = c.args.policy.now in
    let rules = dom_rules asks policy in
    let excluded = c.in_ok-excluded.excluded in
    let by : Counted → Domains = λ counted. record { rules = counted; excluded = excluded; reverse = asks.reverse } in
    let is = c.in_ok-graph.ensures ∙ ap by c.in_ok-counted.ensures in
    let same = ap (λ (domains : Domains). domains.rules.policy.symbols.types.nprim) is ∙ ap (λ (p : Parts). p.symbols.types.nprim) (policy-asked policy asks.states) in
    let P : List (List ℕ) → Type 0 =
    λ items. Sends (g.S.Sink.state c.args.out.now) (g.S.Sink.state c.write_items.new.out) (concat items) c.write_items.result in
    subst P
    (paged c.window.result asks.from asks.limit c.window.ensures
    (items-are asks policy rules excluded c.in_ok-graph.graph c.args.ends
    (excluded-are c.symbols.result.now policy.symbols c.args.asks.now.excluded.items c.deref.result.now excluded c.symbols.ensures c.deref.ensures.value c.in_ok-excluded.ensures) is))
    (c.write_items.ensures policy same)
