use Rattle.std.proofs.Common.{◌≡◌, ◌∙◌, ℕ, List, ap, map, subst, sym}
use Rattle.pol_file.specs.declared.Parts.{Parts}
use Rattle.rule_order.specs.ListedOrder.{AreRules}
use Rattle.se_items.specs.Paging.{end_of, page}
use Rattle.se_items.specs.Writing.{Sends}
use Rattle.se_items.specs.declared.Window.{Window}
use Rattle.se_options.specs.SearchRequest.{search_view}
use Rattle.se_search.specs.Inner.RuleLines.{lines_left}
use Rattle.se_search.specs.SearchAnswer.{found_rules, rule_line}
use Rattle.se_search.proofs.FoundRules.{found-page, page-are-rules, text-found}
use Rattle.se_search.proofs.search.write_rules.Goals as goal

pub new-lines-requires : goal.new-lines-requires
new-lines-requires g c =
    let asks = search_view c.args.asks.now in
    let are : c.of.result.now ≡ page asks.from asks.limit (found_rules asks c.args.policy.now) =
    found-page asks c.args.policy.now c.deref.result.now c.of.result.now c.end.result
    (c.of.ensures.items ∙ ap (λ (w : Window). page w.from w.limit c.deref.result.now) c.window-window.ensures)
    (c.deref.ensures.value ∙ c.in_ok-numbers.ensures asks.criteria c.requires)
    (c.end.ensures ∙ ap (λ (w : Window). end_of w.from w.limit) c.window-window.ensures) in
    let P : Parts → Type 0 = λ policy. AreRules policy c.of.result.now in
    subst P (sym c.in_ok-texts.ensures) (page-are-rules c.args.policy.now asks.criteria asks.from asks.limit c.of.result.now are)

pub returns : goal.returns
returns g c =
    let asks = search_view c.args.asks.now in
    let are : c.of.result.now ≡ page asks.from asks.limit (found_rules asks c.args.policy.now) =
    found-page asks c.args.policy.now c.deref.result.now c.of.result.now c.end.result
    (c.of.ensures.items ∙ ap (λ (w : Window). page w.from w.limit c.deref.result.now) c.window-window.ensures)
    (c.deref.ensures.value ∙ c.in_ok-numbers.ensures asks.criteria c.requires)
    (c.end.ensures ∙ ap (λ (w : Window). end_of w.from w.limit) c.window-window.ensures) in
    let is : lines_left c.new-lines.result ≡ map (rule_line c.args.policy.now) c.of.result.now = c.new-lines.ensures ∙ ap (λ (policy : Parts). map (rule_line policy) c.of.result.now) c.in_ok-texts.ensures in
    let P : List ℕ → Type 0 = λ text. Sends (g.S.Sink.state c.args.out.now) (g.S.Sink.state c.write_pieces.new.out) text c.write_pieces.result in
    subst P (text-found asks c.args.policy.now (lines_left c.new-lines.result) c.of.result.now is are) c.write_pieces.ensures
