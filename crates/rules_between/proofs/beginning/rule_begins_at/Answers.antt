use Rattle.std.proofs.Common.{◌≡◌, ℕ, Option, Some, None, slice_get, sym, ap, ◌∙◌}
use Rattle.std.specs.Prelude.{option_map}
use Rattle.std.proofs.lemmas.Option.{none-some}
use Rattle.pol_file.specs.declared.Parts.{Parts}
use Rattle.pol_read.specs.declared.RuleEnds.{RuleEnds}
use Rattle.pol_read.specs.StoredRules.{StoredRule, ends_of, stored_rules}
use Rattle.rules_between.specs.ChosenRules.{begins_at}
use Rattle.pol_expand.specs.JoinedTypes.{holds_type, passes}
use Rattle.rules_between.proofs.beginning.rule_begins_at.Goals as goal

by_source : (policy : Parts) (source number : ℕ) (ends : RuleEnds) → option_map ends_of (slice_get (stored_rules policy) number) ≡ Some ends → holds_type policy ends.source source ≡ begins_at policy source number
unfolding begins_at
by_source policy source number ends is = go (slice_get (stored_rules policy) number) is
  where
    go : (o : Option StoredRule) → option_map ends_of o ≡ Some ends → holds_type policy ends.source source ≡ passes (λ (rule : StoredRule). holds_type policy rule.source source) o
    go None e = absurd (none-some ends e)
    go (Some rule) e =
        let given : rule.source ≡ ends.source = cc e in
        ap (λ (x : ℕ). holds_type policy x source) (sym given)

pub returns : goal.returns
returns c = c.holds_type.ensures ∙ by_source c.args.policy.now c.args.source c.args.number c.rule_ends.result c.rule_ends.ensures.is
