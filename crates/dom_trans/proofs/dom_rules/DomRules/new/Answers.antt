use Rattle.std.proofs.Common.{ap, sym, subst, ◌∙◌}
use Rattle.pol_file.specs.declared.Parts.{Parts}
use Rattle.rule_order.specs.ListedOrder.{AreRules}
use Rattle.dom_trans.specs.DefaultRules.{sets_default}
use Rattle.dom_trans.specs.Inner.Keeping.{wanted_in}
use Rattle.dom_trans.specs.Inner.RuleLists.{HaveTypeEnds, chosen}
use Rattle.dom_trans.proofs.Defaults.{defaults_are_rules}
use Rattle.dom_trans.proofs.Keeps.{kept_all, kept_ends, defaults_types}
use Rattle.dom_trans.proofs.dom_rules.DomRules.new.Goals as goal

pub of_rules-requires-clause-rules : goal.of_rules-requires-clause-rules
of_rules-requires-clause-rules c =
    let rules = c.args.rules in
    let is = kept_all rules (sets_default (wanted_in rules.policy.symbols).process) c.in_ok-kept.kept.defaults.rules.items c.in_ok-kept.ensures.kept.defaults.numbers in
    subst (λ (p : Parts). AreRules p c.in_ok-numbers.numbers.items) (sym c.policy.ensures) (subst (AreRules rules.policy) (sym (c.in_ok-numbers.ensures ∙ c.deref.ensures.value ∙ is)) (defaults_are_rules rules))

pub of_rules-requires-clause-few : goal.of_rules-requires-clause-few
of_rules-requires-clause-few c =
    let rules = c.args.rules in
    let test = (wanted_in rules.policy.symbols).process in
    let ends = kept_ends rules (sets_default test) c.in_ok-kept.kept.defaults.rules.items (defaults_types test) c.in_ok-kept.ensures.few c.in_ok-kept.ensures.kept.defaults.numbers in
    (subst (HaveTypeEnds rules.policy) (sym (c.in_ok-numbers.ensures ∙ c.deref.ensures.value)) ends).few

pub invariant_of-result : goal.invariant_of-result
invariant_of-result c =
    let rules = c.args.rules in
    let test = (wanted_in rules.policy.symbols).process in
    let numbers = c.in_ok-kept.kept.defaults.rules.items in
    let are = c.in_ok-kept.ensures.kept.defaults.numbers in
    let is = kept_all rules (sets_default test) numbers are in
    let ends = kept_ends rules (sets_default test) numbers (defaults_types test) c.in_ok-kept.ensures.few are in
    let defaults = c.in_ok-defaults.ensures ∙ ap (λ (p : Parts). chosen p c.in_ok-numbers.numbers.items) c.policy.ensures ∙ ap (chosen rules.policy) (c.in_ok-numbers.ensures ∙ c.deref.ensures.value ∙ is) in
    (c.in_ok-lists.ensures, c.requires, defaults, subst (HaveTypeEnds rules.policy) is ends)
