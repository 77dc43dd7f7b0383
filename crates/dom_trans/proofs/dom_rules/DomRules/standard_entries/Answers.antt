use Rattle.std.proofs.Common.{◌≡◌, Bool, ℕ, List, [], length, ap, sym, ◌∙◌}
use Rattle.std.specs.Prelude.{◌==◌, not, if◌then◌else◌}
use Rattle.std.proofs.lemmas.Result.{IfOk-weaker}
use Rattle.dom_trans.specs.Transitions.{entries, is_standard}
use Rattle.dom_trans.proofs.FoundEntries.{allowed_type, standard_allowed, standard_refused}
use Rattle.dom_trans.proofs.dom_rules.DomRules.standard_entries.Goals as goal

pub entries-requires : goal.entries-requires
entries-requires c = allowed_type c.args.self.now c.args.a c.args.b (sym c.in_ok-is_allowed.ensures ∙ c.if-branch.true)

pub returns-then-branch-clause-found : goal.returns-then-branch-clause-found
returns-then-branch-clause-found c =
    let rules = c.args.self.now in
    IfOk-weaker c.entries.result (λ found. found.items ≡ entries rules c.args.a c.args.b) (λ found. found.items ≡ (if is_standard rules c.args.a c.args.b then entries rules c.args.a c.args.b else []))
    (λ found is. (standard_allowed rules c.args.a c.args.b found.items (sym c.in_ok-is_allowed.ensures ∙ c.if-branch.true) is).0) c.entries.ensures

pub returns-then-branch-clause-some : goal.returns-then-branch-clause-some
returns-then-branch-clause-some c =
    let rules = c.args.self.now in
    IfOk-weaker c.entries.result (λ found. found.items ≡ entries rules c.args.a c.args.b) (λ found. is_standard rules c.args.a c.args.b ≡ not (length found.items == 0))
    (λ found is. (standard_allowed rules c.args.a c.args.b found.items (sym c.in_ok-is_allowed.ensures ∙ c.if-branch.true) is).1) c.entries.ensures

pub returns-else-branch-clause-found : goal.returns-else-branch-clause-found
returns-else-branch-clause-found c =
    let rules = c.args.self.now in
    let refused = standard_refused rules c.args.a c.args.b (sym c.in_ok-is_allowed.ensures ∙ c.if-branch.false) in
    c.new.ensures.items ∙ ap (λ (t : Bool). if t then entries rules c.args.a c.args.b else []) refused

pub returns-else-branch-clause-some : goal.returns-else-branch-clause-some
returns-else-branch-clause-some c =
    let refused = standard_refused c.args.self.now c.args.a c.args.b (sym c.in_ok-is_allowed.ensures ∙ c.if-branch.false) in
    sym refused ∙ sym (ap (λ (xs : List ℕ). not (length xs == 0)) c.new.ensures.items)
