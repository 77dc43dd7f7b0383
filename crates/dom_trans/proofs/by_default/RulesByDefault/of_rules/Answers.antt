use Rattle.std.proofs.Common.{◌≡◌, ℕ, ◌≤◌, List, length, map, ap, sym, subst, ◌∙◌, arith}
use Rattle.std.specs.List.{All}
use Rattle.std.proofs.lemmas.List.{length-map}
use Rattle.value_groups.specs.Inner.Grouping.{AreGroupsOf}
use Rattle.dom_trans.specs.Inner.ByDefault.{default_value}
use Rattle.dom_trans.proofs.Grouped.{values_within}
use Rattle.dom_trans.proofs.by_default.RulesByDefault.of_rules.Goals as goal

pub of_values-requires-clause-few : goal.of_values-requires-clause-few
of_values-requires-clause-few c =
    let value = default_value c.args.policy.now in
    let is : c.deref-2.result.now ≡ map value c.args.numbers.items = c.deref-2.ensures.value ∙ c.in_ok-defaults.ensures ∙ ap (map value) c.deref.ensures.value in
    omega (arith, c.requires.few, length-map c.args.numbers.items value, ap (length {A = ℕ}) is)

pub of_values-requires-clause-within : goal.of_values-requires-clause-within
of_values-requires-clause-within c =
    let value = default_value c.args.policy.now in
    let is : c.deref-2.result.now ≡ map value c.args.numbers.items = c.deref-2.ensures.value ∙ c.in_ok-defaults.ensures ∙ ap (map value) c.deref.ensures.value in
    subst (λ (most : ℕ). All (λ v. v ≤ most) c.deref-2.result.now) (sym c.type_count.ensures.count) (subst (All (λ v. v ≤ c.args.policy.now.symbols.types.nprim)) (sym is) (values_within c.args.policy.now c.args.numbers.items))

pub invariant_of-result : goal.invariant_of-result
invariant_of-result c =
    let value = default_value c.args.policy.now in
    let is : c.deref-2.result.now ≡ map value c.args.numbers.items = c.deref-2.ensures.value ∙ c.in_ok-defaults.ensures ∙ ap (map value) c.deref.ensures.value in
    subst (λ (most : ℕ). AreGroupsOf most (map value c.args.numbers.items) c.in_ok-groups.groups) c.type_count.ensures.count (subst (λ (xs : List ℕ). AreGroupsOf c.type_count.result xs c.in_ok-groups.groups) is c.in_ok-groups.ensures)
