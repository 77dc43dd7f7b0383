-- The transitions by the enabled rules of a policy are those of the policy that has no other rules.
use Rattle.std.proofs.Common.{◌≡◌, ℕ, Bool, refl, sym, ap, ◌∙◌}
use Rattle.std.proofs.Math.Path.{fun_ext}
use Rattle.std.specs.Prelude.{◌&&◌, ◌||◌, slice_get}
use Rattle.std.specs.List.{filter, list_any, range_with_len}
use Rattle.pol_fields.specs.declared.TableKind.TheVariants.{Classes}
use Rattle.pol_symbols.specs.PolicySymbols.{value_in}
use Rattle.pol_file.specs.declared.Parts.{Parts}
use Rattle.pol_read.specs.StoredRules.{StoredRule, stored_rules}
use Rattle.rule_order.specs.ListedOrder.{is_listed_before}
use Rattle.pol_expand.specs.JoinedTypes.{holds_type, is_rule_from_to, joins, rule_passes}
use Rattle.pol_expand.specs.PolicyMap.{expand}
use Rattle.bool_state.specs.BooleanStates.{Booleans}
use Rattle.counted_rules.specs.CountedRules.{Counted, all_rules, rules_under}
use Rattle.counted_rules.specs.EnabledPolicy.{enabled_policy}
use Rattle.rule_grants.specs.Names.{process, file, transition, dyntransition, setexec, setcurrent, execute, entrypoint}
use Rattle.rule_grants.proofs.ByRules.{any_among, any_enabled, both_pass, granted_alike}
use Rattle.dom_trans.specs.DefaultRules.{default_rules, has_default, part_has_default, sets_default}
use Rattle.dom_trans.specs.Transitions.{entries, is_default, is_entry, is_dynamic, is_standard, is_transition}
use Rattle.dom_trans.proofs.Defaults.{any_ordered}

and_alike : (a b c d : Bool) → a ≡ c → b ≡ d → (a && b) ≡ (c && d)
and_alike a b c d e f = ap (λ (t : Bool). t && b) e ∙ ap (λ (t : Bool). c && t) f

or_alike : (a b c d : Bool) → a ≡ c → b ≡ d → (a || b) ≡ (c || d)
or_alike a b c d e f = ap (λ (t : Bool). t || b) e ∙ ap (λ (t : Bool). c || t) f

-- a rule from the one type to the entry type has the other as its default
abbrev starts : Parts → ℕ → ℕ → ℕ → StoredRule → Bool
starts policy a b entry rule = is_rule_from_to policy a entry rule && part_has_default b rule.part

-- the default domain, by the rules in any order
default_by_any : (rules : Counted) (a b entry : ℕ) → is_default rules a b entry ≡ list_any (rule_passes rules.policy (starts rules.policy a b entry)) (default_rules rules)
unfolding joins has_default
default_by_any rules a b entry =
    let policy = rules.policy in
    any_ordered (has_default policy b) (is_listed_before policy) (filter (joins policy a entry) (default_rules rules))
    ∙ any_among (joins policy a entry) (has_default policy b) (default_rules rules)
    ∙ ap (λ (test : ℕ → Bool). list_any test (default_rules rules)) (fun_ext (λ number. both_pass (is_rule_from_to policy a entry) (λ (rule : StoredRule). part_has_default b rule.part) (slice_get (stored_rules policy) number)))

module _ (policy : Parts) (on : Booleans) (a b : ℕ) where
  default_alike : (entry : ℕ) → is_default (rules_under policy on) a b entry ≡ is_default (all_rules (enabled_policy policy on)) a b entry
  unfolding holds_type expand
  default_alike entry =
      default_by_any (rules_under policy on) a b entry
      ∙ any_enabled policy on (sets_default (value_in policy.symbols Classes process)) (starts policy a b entry)
      ∙ sym (default_by_any (all_rules (enabled_policy policy on)) a b entry)

  entry_alike : (entry : ℕ) → is_entry (rules_under policy on) a b entry ≡ is_entry (all_rules (enabled_policy policy on)) a b entry
  unfolding is_entry
  entry_alike entry =
      and_alike _ _ _ _ (and_alike _ _ _ _ (granted_alike policy on b entry file entrypoint) (granted_alike policy on a entry file execute))
      (or_alike _ _ _ _ (granted_alike policy on a a process setexec) (default_alike entry))

  standard_alike : is_standard (rules_under policy on) a b ≡ is_standard (all_rules (enabled_policy policy on)) a b
  unfolding is_standard
  standard_alike =
      and_alike _ _ _ _ (and_alike _ _ _ _ refl (granted_alike policy on a b process transition))
      (ap (λ (test : ℕ → Bool). list_any test (range_with_len 1 policy.symbols.types.nprim)) (fun_ext entry_alike))

  dynamic_alike : is_dynamic (rules_under policy on) a b ≡ is_dynamic (all_rules (enabled_policy policy on)) a b
  unfolding is_dynamic
  dynamic_alike = and_alike _ _ _ _ (and_alike _ _ _ _ refl (granted_alike policy on a b process dyntransition)) (granted_alike policy on a a process setcurrent)

  pub transitions_alike : is_transition (rules_under policy on) a b ≡ is_transition (all_rules (enabled_policy policy on)) a b
  transitions_alike = or_alike _ _ _ _ standard_alike dynamic_alike

  pub entries_alike : entries (rules_under policy on) a b ≡ entries (all_rules (enabled_policy policy on)) a b
  entries_alike = ap (λ (test : ℕ → Bool). filter test (range_with_len 1 policy.symbols.types.nprim)) (fun_ext entry_alike)
