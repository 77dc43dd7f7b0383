use Rattle.std.proofs.Common.{◌≡◌, ℕ, ◌≤◌, List, IfOk, ap, sym, subst, ◌∙◌, length, arith}
use Rattle.std.specs.Prelude.{◌==◌, vec_len}
use Rattle.std.specs.List.{filter}
use Rattle.pol_bitmap.specs.declared.Node.{Node}
use Rattle.pol_bitmap.specs.Nodes.{bits_of}
use Rattle.pol_file.specs.declared.Parts.{Parts}
use Rattle.counted_rules.specs.CountedRules.{Counted}
use Rattle.rules_between.specs.ChosenRules.{ChosenRules, common_sources}
use Rattle.pol_expand.proofs.TypesOutside.{type_within}
use Rattle.rules_between.proofs.Shared.{nil_of}
use Rattle.rule_grants.specs.Grants.{granting_rules}
use Rattle.rule_grants.specs.Names.{file, execute}
use Rattle.dom_trans.specs.DefaultRules.{default_rules, has_default}
use Rattle.dom_trans.specs.Inner.RuleLists.{HaveTypeEnds, rules_to}
use Rattle.dom_trans.proofs.Defaults.{some_have_ends}
use Rattle.dom_trans.proofs.FoundSources.{none_starting}
use Rattle.dom_trans.proofs.dom_rules.DomRules.starting.Goals as goal

pub rules_to-requires-clause-least : goal.rules_to-requires-clause-least
rules_to-requires-clause-least c = (type_within c.args.self.now.policy c.args.b c.requires).0

pub rules_to-requires-clause-most : goal.rules_to-requires-clause-most
rules_to-requires-clause-most c =
    subst (λ (r : ChosenRules). c.args.b ≤ r.policy.symbols.types.nprim) (sym c.self.invariant.2) (subst (λ (r : Counted). c.args.b ≤ r.policy.symbols.types.nprim) (sym c.self.view_is) (type_within c.args.self.now.policy c.args.b c.requires).1)

pub returns-then-is_empty : goal.returns-then-is_empty
returns-then-is_empty c =
    let rules = c.args.self.now in
    let numbers = c.in_ok-numbers.numbers in
    let long : vec_len numbers ≡ length numbers.items = omega (arith, numbers.ok.0) in
    let none = nil_of numbers.items (sym (ap (λ (n : ℕ). n == 0) long) ∙ sym c.is_empty.ensures ∙ c.if-is_empty.true) in
    let is = c.in_ok-numbers.ensures ∙ ap (λ (r : ChosenRules). filter (has_default r.policy c.args.b) r.rules) c.self.invariant.2 ∙ ap (λ (r : Counted). rules_to r c.args.b) c.self.view_is in
    subst (λ (xs : List ℕ). IfOk c.empty.result (λ (set : List Node). bits_of set ≡ xs)) (none_starting rules.policy (rules_to rules c.args.b) (granting_rules rules file execute) (bits_of c.args.points.now) (sym is ∙ none)) c.empty.ensures.bits

pub build-requires-clause-rules : goal.build-requires-clause-rules
build-requires-clause-rules c =
    let rules = c.self.inside.rules in
    let numbers = c.in_ok-numbers.numbers.items in
    let is = c.in_ok-numbers.ensures ∙ ap (λ (r : ChosenRules). filter (has_default r.policy c.args.b) r.rules) c.self.invariant.2 in
    let ends = some_have_ends rules.policy (has_default rules.policy c.args.b) (default_rules rules) numbers c.self.invariant.3 is in
    (subst (λ (p : Parts). HaveTypeEnds p numbers) (ap (λ (r : Counted). r.policy) c.self.view_is ∙ sym c.policy.ensures) ends).types

pub build-requires-clause-few : goal.build-requires-clause-few
build-requires-clause-few c =
    let rules = c.self.inside.rules in
    let is = c.in_ok-numbers.ensures ∙ ap (λ (r : ChosenRules). filter (has_default r.policy c.args.b) r.rules) c.self.invariant.2 in
    (some_have_ends rules.policy (has_default rules.policy c.args.b) (default_rules rules) c.in_ok-numbers.numbers.items c.self.invariant.3 is).few

pub common_sources-requires : goal.common_sources-requires
common_sources-requires c = ap (λ (r : ChosenRules). r.policy) c.list.ensures ∙ sym (ap (λ (r : ChosenRules). r.policy) c.in_ok-rules.ensures ∙ c.policy.ensures)

pub returns : goal.returns
returns c =
    let rules = c.args.self.now in
    let b = c.args.b in
    let points = bits_of c.args.points.now in
    let numbers = c.in_ok-numbers.numbers.items in
    let list = c.list.result.now in
    let is = c.in_ok-numbers.ensures ∙ ap (λ (r : ChosenRules). filter (has_default r.policy b) r.rules) c.self.invariant.2 ∙ ap (λ (r : Counted). rules_to r b) c.self.view_is in
    subst (λ (xs : List ℕ). IfOk c.common_sources.result (λ (set : List Node). bits_of set ≡ xs))
    (ap (λ (r : ChosenRules). common_sources r.policy r.rules list.rules points) c.in_ok-rules.ensures
    ∙ ap (λ (p : Parts). common_sources p numbers list.rules points) c.policy.ensures
    ∙ ap (λ (chosen : List ℕ). common_sources rules.policy chosen list.rules points) is
    ∙ ap (λ (r : ChosenRules). common_sources rules.policy (rules_to rules b) r.rules points) c.list.ensures) c.common_sources.ensures
