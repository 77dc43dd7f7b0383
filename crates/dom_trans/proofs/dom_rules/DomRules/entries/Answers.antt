use Rattle.std.proofs.Common.{◌≡◌, ℕ, List, IfOk, sym, subst, ◌∙◌}
use Rattle.dom_trans.proofs.FoundEntries.{entries_by_default, entries_by_request}
use Rattle.dom_trans.proofs.dom_rules.DomRules.entries.Goals as goal

pub returns-then-branch : goal.returns-then-branch
returns-then-branch c =
    subst (λ (xs : List ℕ). IfOk c.values_in.result (λ found. found.items ≡ xs)) (c.in_ok-points.ensures ∙ entries_by_request c.args.self.now c.args.a c.args.b (sym c.in_ok-may_ask.ensures ∙ c.if-branch.true)) c.values_in.ensures

pub returns : goal.returns
returns c =
    subst (λ (xs : List ℕ). IfOk c.values_in-2.result (λ found. found.items ≡ xs)) (c.in_ok-entries.ensures ∙ entries_by_default c.args.self.now c.args.a c.args.b (sym c.in_ok-may_ask.ensures ∙ c.if-branch.false)) c.values_in-2.ensures
