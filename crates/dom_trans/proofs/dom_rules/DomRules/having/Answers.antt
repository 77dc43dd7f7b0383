use Rattle.std.proofs.Common.{◌≡◌, ℕ, List, IfOk, append-nil, ap, sym, subst, ◌∙◌, ◌++◌}
use Rattle.std.specs.List.{filter}
use Rattle.std.specs.List.Sorted.{IsStrictlyIncreasing}
use Rattle.std.proofs.lemmas.List.Kept.{IsStrictlyIncreasing-filter}
use Rattle.pol_bitmap.specs.declared.Node.{Node}
use Rattle.pol_bitmap.specs.Nodes.{bits_of}
use Rattle.pol_expand.specs.JoinedTypes.{any_joins}
use Rattle.dom_trans.specs.Inner.RuleLists.{rules_of}
use Rattle.dom_trans.proofs.dom_rules.DomRules.having.Goals as goal

pub from_rising-requires : goal.from_rising-requires
from_rising-requires c =
    let rules = c.args.self.now in
    let given = λ (a : ℕ). any_joins rules.policy (rules_of rules c.args.grant) a a in
    let found : c.loop-a.found.items ≡ filter given (bits_of c.args.types.now) = sym (append-nil c.loop-a.found.items) ∙ sym (ap (λ (xs : List ℕ). c.loop-a.found.items ++ filter given xs) c.in-None.ensures.steps.0) ∙ c.loop-a.invariant in
    subst IsStrictlyIncreasing (sym (c.deref.ensures.value ∙ found)) (IsStrictlyIncreasing-filter given (bits_of c.args.types.now) c.requires)

pub returns : goal.returns
returns c =
    let rules = c.args.self.now in
    let given = λ (a : ℕ). any_joins rules.policy (rules_of rules c.args.grant) a a in
    let found : c.loop-a.found.items ≡ filter given (bits_of c.args.types.now) = sym (append-nil c.loop-a.found.items) ∙ sym (ap (λ (xs : List ℕ). c.loop-a.found.items ++ filter given xs) c.in-None.ensures.steps.0) ∙ c.loop-a.invariant in
    subst (λ (xs : List ℕ). IfOk c.from_rising.result (λ (set : List Node). bits_of set ≡ xs)) (c.deref.ensures.value ∙ found) c.from_rising.ensures.bits
