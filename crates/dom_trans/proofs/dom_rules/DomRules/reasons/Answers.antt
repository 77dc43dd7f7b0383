use Rattle.std.proofs.Common.{◌≡◌, ℕ, [], cond, length, map, ap, sym, ◌∙◌, arith}
use Rattle.std.specs.Prelude.{◌==◌, not, vec_len}
use Rattle.rules_between.specs.ChosenRules.{ChosenRules, rules_between}
use Rattle.dom_trans.specs.Transitions.{is_standard}
use Rattle.dom_trans.specs.ReasonLists.{entry_reason}
use Rattle.dom_trans.proofs.Listed.{entries_listed, reasons_are}
use Rattle.dom_trans.proofs.dom_rules.DomRules.reasons.Goals as goal

pub returns : goal.returns
returns c =
    let rules = c.args.self.now in
    let standard = not c.is_empty-standard.result in
    let dynamic = c.in_ok-dynamic.dynamic in
    let long : vec_len c.in_ok-entries.entries ≡ length c.in_ok-entries.entries.items = omega (arith, c.in_ok-entries.entries.ok.0) in
    let same : standard ≡ is_standard rules c.args.a c.args.b = ap not c.is_empty-standard.ensures ∙ ap (λ (n : ℕ). not (n == 0)) long ∙ sym c.in_ok-entries.ensures.some in
    reasons_are rules c.args.a c.args.b standard dynamic _ _ _ _ _ same c.in_ok-dynamic.ensures
    (c.in_ok-between_where.ensures ∙ ap (λ (ends : ChosenRules). cond standard (rules_between ends.policy ends.rules c.args.a c.args.b) []) c.list.ensures)
    (c.in_ok-between_where-2.ensures ∙ ap (λ (ends : ChosenRules). cond standard (rules_between ends.policy ends.rules c.args.a c.args.a) []) c.list-2.ensures)
    (c.in_ok-entry_reasons.ensures ∙ ap (map (entry_reason rules c.args.a c.args.b)) c.deref.ensures.value ∙ entries_listed rules c.args.a c.args.b standard c.in_ok-entries.entries.items same c.in_ok-entries.ensures.found)
    (c.in_ok-between_where-3.ensures ∙ ap (λ (ends : ChosenRules). cond dynamic (rules_between ends.policy ends.rules c.args.a c.args.b) []) c.list-3.ensures)
    (c.in_ok-between_where-4.ensures ∙ ap (λ (ends : ChosenRules). cond dynamic (rules_between ends.policy ends.rules c.args.a c.args.a) []) c.list-4.ensures)
