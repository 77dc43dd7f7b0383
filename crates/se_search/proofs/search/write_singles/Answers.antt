use Rattle.std.proofs.Common.{◌≡◌, ◌∙◌, ℕ, List, ap, map, refl, subst, sym}
use Rattle.pol_file.specs.declared.Parts.{Parts}
use Rattle.set_products.specs.Members.{Product, members}
use Rattle.rule_singles.specs.FoundSingles.{ends_of_rule}
use Rattle.se_items.specs.Paging.{page}
use Rattle.se_items.specs.Writing.{Sends}
use Rattle.se_items.specs.declared.Window.{Window}
use Rattle.se_options.specs.SearchRequest.{search_view}
use Rattle.se_search.specs.SearchAnswer.{found_rules, single_line}
use Rattle.se_search.specs.Inner.SingleLines.{AreOfRules, lines_left}
use Rattle.se_search.proofs.FoundRules.{found-are-rules}
use Rattle.se_search.proofs.SingleItems.{listed_are_of_rules, singles-found}
use Rattle.se_search.proofs.search.write_singles.Goals as goal

pub new-lines-requires : goal.new-lines-requires
new-lines-requires g c =
    let policy = c.args.policy.now in
    let criteria = c.args.asks.now.criteria in
    let numbers = found_rules (search_view c.args.asks.now) policy in
    let P : Parts → Type 0 = λ policy. AreOfRules policy c.places.result in
    let Q : List Product → Type 0 = λ products. AreOfRules policy products in
    subst P (sym c.in_ok-texts.ensures) (subst Q (sym (c.places.ensures ∙ c.in_ok-rules.ensures)) (listed_are_of_rules policy criteria numbers (found-are-rules policy criteria numbers refl)))

pub returns : goal.returns
returns g c =
    let policy = c.args.policy.now in
    let asks = search_view c.args.asks.now in
    let is : lines_left c.new-lines.result ≡ page asks.from asks.limit (map (single_line policy) (members c.places.result)) =
    c.new-lines.ensures.lines ∙ ap (λ (w : Window). page w.from w.limit (map (single_line c.in_ok-texts.texts) (members c.places.result))) c.window.ensures ∙ ap (λ (policy : Parts). page asks.from asks.limit (map (single_line policy) (members c.places.result))) c.in_ok-texts.ensures in
    let are : c.places.result ≡ map (ends_of_rule policy asks.criteria) (found_rules asks policy) = c.places.ensures ∙ c.in_ok-rules.ensures in
    let P : List ℕ → Type 0 =
    λ text. Sends (g.S.Sink.state c.args.out.now) (g.S.Sink.state c.write_pieces.new.out) text c.write_pieces.result in
    subst P (singles-found asks policy (lines_left c.new-lines.result) c.places.result (found_rules asks policy) is are refl) c.write_pieces.ensures
