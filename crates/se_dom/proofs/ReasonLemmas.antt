-- The reasons of a transition are rules.
use Rattle.std.proofs.Common.{◌<◌, ℕ, Bool, true, false, List, [], ◌∷◌, length, map}
use Rattle.std.specs.Prelude.{if◌then◌else◌}
use Rattle.std.specs.List.{All, filter, range_with_len}
use Rattle.std.proofs.lemmas.List.Elements.{All-nil, All-cons, All-filter}
use Rattle.pol_file.specs.declared.Parts.{Parts}
use Rattle.pol_read.specs.StoredRules.{StoredRule, stored_rules}
use Rattle.rule_order.specs.ListedOrder.{AreRules}
use Rattle.rule_order.proofs.OrderedRules.{all-rules, ordered-rules}
use Rattle.pol_expand.specs.JoinedTypes.{joins, rule_passes}
use Rattle.rules_between.specs.ChosenRules.{rules_between}
use Rattle.counted_rules.specs.CountedRules.{Counted}
use Rattle.rule_grants.specs.Grants.{counts_and, gives, granting_rules, permission_named, rules_that}
use Rattle.rule_grants.specs.Names.{process, file, transition, dyntransition, setexec, setcurrent, execute, entrypoint}
use Rattle.dom_trans.specs.DefaultRules.{default_rules, has_default}
use Rattle.dom_trans.specs.ReasonLists.{entry_reason, grants_between, reasons_between}
use Rattle.dom_trans.specs.Transitions.{defaults_between, entries, is_dynamic, is_standard}
use Rattle.se_dom.specs.Inner.ReasonRules.{AreEntryRules, AreReasonRules}

that-rules : (rules : Counted) (test : StoredRule → Bool) → AreRules rules.policy (rules_that rules test)
unfolding rules_that
that-rules rules test =
    All-filter (rule_passes rules.policy (counts_and rules test)) (λ number. number < length (stored_rules rules.policy)) (range_with_len 0 (length (stored_rules rules.policy))) (all-rules rules.policy)

between-rules : (policy : Parts) (rules : List ℕ) (a b : ℕ) → AreRules policy rules → AreRules policy (rules_between policy rules a b)
between-rules policy rules a b h = ordered-rules policy (filter (joins policy a b) rules) (All-filter (joins policy a b) (λ number. number < length (stored_rules policy)) rules h)

grants-rules : (rules : Counted) (a b : ℕ) (class name : List ℕ) → AreRules rules.policy (grants_between rules a b class name)
grants-rules rules a b class name = between-rules rules.policy (granting_rules rules class name) a b (that-rules rules (gives (permission_named rules.policy.symbols class name)))

defaults-rules : (rules : Counted) (a b entry : ℕ) → AreRules rules.policy (default_rules rules) → AreRules rules.policy (defaults_between rules a b entry)
defaults-rules rules a b entry h =
    All-filter (has_default rules.policy b) (λ number. number < length (stored_rules rules.policy)) (rules_between rules.policy (default_rules rules) a entry) (between-rules rules.policy (default_rules rules) a entry h)

either : {A : Type 0} (P : A → Type 0) (b : Bool) (xs : List A) → All P xs → All P (if b then xs else [])
either P true xs h = h
either P false xs h = All-nil P

entry-rules : (rules : Counted) (a b entry : ℕ) → AreRules rules.policy (default_rules rules) → AreEntryRules rules.policy (entry_reason rules a b entry)
unfolding entry_reason
entry-rules rules a b entry h = record {
  entrypoint = grants-rules rules b entry file entrypoint;
  execute = grants-rules rules a entry file execute;
  default = defaults-rules rules a b entry h;
}

entries-rules : (rules : Counted) (a b : ℕ) (types : List ℕ) → AreRules rules.policy (default_rules rules) → All (AreEntryRules rules.policy) (map (entry_reason rules a b) types)
entries-rules rules a b [] h = All-nil (AreEntryRules rules.policy)
entries-rules rules a b (type ∷ types) h = All-cons (AreEntryRules rules.policy) (entry_reason rules a b type) (map (entry_reason rules a b) types) (entry-rules rules a b type h) (entries-rules rules a b types h)

pub reason-rules : (rules : Counted) (a b : ℕ) → AreReasonRules rules.policy (reasons_between rules a b)
unfolding reasons_between
reason-rules rules a b =
    let P : ℕ → Type 0 = λ number. number < length (stored_rules rules.policy) in
    record {
      transition = either P (is_standard rules a b) _ (grants-rules rules a b process transition);
      setexec = either P (is_standard rules a b) _ (grants-rules rules a a process setexec);
      entries = either (AreEntryRules rules.policy) (is_standard rules a b) _ (entries-rules rules a b (entries rules a b) (that-rules rules _));
      dyntransition = either P (is_dynamic rules a b) _ (grants-rules rules a b process dyntransition);
      setcurrent = either P (is_dynamic rules a b) _ (grants-rules rules a a process setcurrent);
    }
