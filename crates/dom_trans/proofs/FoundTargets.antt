-- The types that a type may change to, found by sets of rules.
use Rattle.std.proofs.Common.{◌≡◌, ℕ, ◌+◌, ◌<◌, ◌≤◌, Bool, true, false, List, sym, subst, ◌∙◌, inl, inr, arith}
use Rattle.std.specs.Prelude.{◌==◌, ◌&&◌, ◌||◌, not, ◌↔◌}
use Rattle.std.specs.List.{Contains, filter, list_any, range_with_len}
use Rattle.std.proofs.lemmas.List.Elements.{All-filter, All-same, All-weaker}
use Rattle.std.proofs.lemmas.Bool.{and_parts, and_from, or_cases, or_left, or_right, false≢true}
use Rattle.pol_bitmap.specs.declared.Node.{Node}
use Rattle.pol_bitmap.specs.Nodes.{bits_of}
use Rattle.pol_bitmap.specs.Sets.{IsUnion, IsCommon}
use Rattle.pol_bitmap.proofs.Elements.{kept, keeps, contains_range, range_holds}
use Rattle.pol_file.specs.declared.Parts.{Parts}
use Rattle.value_groups.specs.Among.{is_among}
use Rattle.counted_rules.specs.CountedRules.{Counted}
use Rattle.rules_between.specs.ChosenRules.{AreRulesFrom, ends_at, sources_to_any}
use Rattle.pol_expand.specs.JoinedTypes.{any_joins, targets_from}
use Rattle.pol_expand.specs.PlainTypes.{are_two_types, is_type_value}
use Rattle.value_groups.proofs.Anys.{any_gives, any_from, among_contains, contains_among}
use Rattle.rules_between.proofs.ByOneEnd.{from_each}
use Rattle.rule_grants.specs.Grants.{granting_rules, grants}
use Rattle.rule_grants.specs.Names.{process, file, transition, dyntransition, setexec, setcurrent, execute, entrypoint}
use Rattle.dom_trans.specs.DefaultRules.{default_rules, has_default}
use Rattle.dom_trans.specs.Transitions.{is_default, is_entry, is_standard, is_dynamic}
use Rattle.pol_expand.proofs.TypesOutside.{two_within}
use Rattle.dom_trans.specs.Inner.RuleLists.{IsSourceOf}
use Rattle.dom_trans.specs.Inner.Targets.{AreEntered, AreTargets, AreTypeValues, enters_by, has_entry, starts_at_point}
use Rattle.dom_trans.proofs.Defaults.{default_rule, in_targets_from, rule_default}
use Rattle.dom_trans.proofs.FoundEntries.{entry_default, entry_from, entry_parts}
use Rattle.dom_trans.proofs.Ways.{dynamic_by_grant, dynamic_refused}

-- ---- by sets of targets

-- a type is among the targets of a type exactly where the rules join the one to the other
in_targets : (policy : Parts) (rules : List ℕ) (a b : ℕ) (targets : List ℕ) → targets ≡ targets_from policy rules a → are_two_types policy a b ≡ true → Contains targets b ↔ (any_joins policy rules a b ≡ true)
unfolding targets_from
in_targets policy rules a b targets is two =
    let nodes = two_within policy a b two in
    let range = range_with_len 1 policy.symbols.types.nprim in (
      λ there. (kept (any_joins policy rules a) range b (subst (λ (xs : List ℕ). Contains xs b) is there)).1,
      λ e. subst (λ (xs : List ℕ). Contains xs b) (sym is) (keeps (any_joins policy rules a) range b (contains_range 1 policy.symbols.types.nprim b nodes.2 (omega (arith, nodes.3))) e),
    )

-- by executing a file
standard_in : (rules : Counted) (a b : ℕ) (entered allowed both : List ℕ) → are_two_types rules.policy a b ≡ true → AreEntered rules a entered → allowed ≡ targets_from rules.policy (granting_rules rules process transition) a → IsCommon allowed entered both
    → Contains both b ↔ (is_standard rules a b ≡ true)
unfolding is_standard
standard_in rules a b entered allowed both two are is common =
    let granted = in_targets rules.policy (granting_rules rules process transition) a b allowed is two in (
      λ there.
          let parts = (common.each b).0 there in
          and_from (are_two_types rules.policy a b && grants rules a b process transition) (has_entry rules a b) (and_from (are_two_types rules.policy a b) (grants rules a b process transition) two (granted.0 parts.0)) ((are.each b two).0 parts.1),
      λ e.
          let outer = and_parts (are_two_types rules.policy a b && grants rules a b process transition) (has_entry rules a b) e in
          let inner = and_parts (are_two_types rules.policy a b) (grants rules a b process transition) outer.0 in
          (common.each b).1 (granted.1 inner.1, (are.each b two).1 outer.1),
    )

-- where the type may not change its own domain
pub targets_standard : (rules : Counted) (a : ℕ) (entered allowed both : List ℕ) → AreEntered rules a entered → allowed ≡ targets_from rules.policy (granting_rules rules process transition) a → IsCommon allowed entered both
    → grants rules a a process setcurrent ≡ false → AreTargets rules a both
targets_standard rules a entered allowed both are is common never = record {
  each = λ b two.
      let standard = standard_in rules a b entered allowed both two are is common in (
        λ there. or_left (is_standard rules a b) (is_dynamic rules a b) (standard.0 there),
        λ e. elim (or_cases (is_standard rules a b) (is_dynamic rules a b) e) [
          | inl s ↦ standard.1 s
          | inr d ↦ absurd (false≢true (dynamic_refused rules a b never ∙ d))
        ],
      );
}

-- and where it may
pub targets_both : (rules : Counted) (a : ℕ) (entered allowed both dynamic all : List ℕ) → AreEntered rules a entered → allowed ≡ targets_from rules.policy (granting_rules rules process transition) a → IsCommon allowed entered both
    → grants rules a a process setcurrent ≡ true → dynamic ≡ targets_from rules.policy (granting_rules rules process dyntransition) a → IsUnion both dynamic all → AreTargets rules a all
targets_both rules a entered allowed both dynamic all are is common changes turns union = record {
  each = λ b two.
      let standard = standard_in rules a b entered allowed both two are is common in
      let granted = in_targets rules.policy (granting_rules rules process dyntransition) a b dynamic turns two in
      let same = dynamic_by_grant rules a b two changes in (
        λ there. elim ((union.each b).0 there) [
          | inl s ↦ or_left (is_standard rules a b) (is_dynamic rules a b) (standard.0 s)
          | inr d ↦ or_right (is_standard rules a b) (is_dynamic rules a b) (sym same ∙ granted.0 d)
        ],
        λ e. elim (or_cases (is_standard rules a b) (is_dynamic rules a b) e) [
          | inl s ↦ (union.each b).1 (inl (standard.1 s))
          | inr d ↦ (union.each b).1 (inr (granted.1 (same ∙ d)))
        ],
      );
}

-- ---- entries

-- where a type asks for another domain, each type counts with an entry point that it may execute
pub entered_by_request : (rules : Counted) (a : ℕ) (executable : List Node) (sets changes : Bool) (types : List ℕ) → IsSourceOf rules a executable sets changes → sets ≡ true
    → types ≡ sources_to_any rules.policy (granting_rules rules file entrypoint) (bits_of executable) → AreEntered rules a types
unfolding sources_to_any targets_from is_entry
entered_by_request rules a executable sets changes types source asks is = record {
  each = λ b two.
      let nodes = two_within rules.policy a b two in
      let range = range_with_len 1 rules.policy.symbols.types.nprim in
      let pointing = granting_rules rules file entrypoint in
      let points = λ (s : ℕ). list_any (any_joins rules.policy pointing s) (bits_of executable) in
      let may = any_joins rules.policy (granting_rules rules file execute) a in
      let there_b = contains_range 1 rules.policy.symbols.types.nprim b nodes.2 (omega (arith, nodes.3)) in
      let granted : grants rules a a process setexec ≡ true = sym source.asks ∙ asks in (
        λ there.
            let f = any_gives (any_joins rules.policy pointing b) (bits_of executable) (kept points range b (subst (λ (xs : List ℕ). Contains xs b) is there)).1 in
            let e = kept may range f.0 (subst (λ (xs : List ℕ). Contains xs f.0) source.executes f.1) in
            any_from (is_entry rules a b) range f.0 e.0
            (and_from (grants rules b f.0 file entrypoint && grants rules a f.0 file execute) (grants rules a a process setexec || is_default rules a b f.0)
            (and_from (grants rules b f.0 file entrypoint) (grants rules a f.0 file execute) f.2 e.1) (or_left (grants rules a a process setexec) (is_default rules a b f.0) granted)),
        λ e.
            let f = any_gives (is_entry rules a b) range e in
            let outer = and_parts (grants rules b f.0 file entrypoint && grants rules a f.0 file execute) (grants rules a a process setexec || is_default rules a b f.0) f.2 in
            let inner = and_parts (grants rules b f.0 file entrypoint) (grants rules a f.0 file execute) outer.0 in
            let in_set : Contains (bits_of executable) f.0 = subst (λ (xs : List ℕ). Contains xs f.0) (sym source.executes) (keeps may range f.0 f.1 inner.1) in
            subst (λ (xs : List ℕ). Contains xs b) (sym is) (keeps points range b there_b (any_from (any_joins rules.policy pointing b) (bits_of executable) f.0 in_set inner.0)),
      );
}

-- where it does not, each type counts that is the default of a rule, and has an entry point from which that starts
pub entered_by_defaults : (rules : Counted) (a : ℕ) (executable : List Node) (sets changes : Bool) (numbers types : List ℕ) → IsSourceOf rules a executable sets changes → sets ≡ false
    → AreRulesFrom rules.policy (default_rules rules) a numbers → ((b : ℕ) → is_among types b ≡ list_any (enters_by rules (bits_of executable) b) numbers) → AreEntered rules a types
entered_by_defaults rules a executable sets changes numbers types source never from are = record {
  each = λ b two.
      let range = range_with_len 1 rules.policy.symbols.types.nprim in
      let is_type = (and_parts (is_type_value rules.policy a) (is_type_value rules.policy b) (and_parts (is_type_value rules.policy a && is_type_value rules.policy b) (not (a == b)) two).0).1 in
      let at_point = λ (number entry : ℕ). ends_at rules.policy entry number && grants rules b entry file entrypoint in (
        λ there.
            let f = any_gives (enters_by rules (bits_of executable) b) numbers (sym (are b) ∙ contains_among types b there) in
            let outer = and_parts (is_type_value rules.policy b && has_default rules.policy b f.0) (starts_at_point rules (bits_of executable) b f.0) f.2 in
            let default = (and_parts (is_type_value rules.policy b) (has_default rules.policy b f.0) outer.0).1 in
            let e = any_gives (at_point f.0) (bits_of executable) outer.1 in
            let ends = and_parts (ends_at rules.policy e.0 f.0) (grants rules b e.0 file entrypoint) e.2 in
            let rule = (from_each rules.policy (default_rules rules) a numbers f.0 from).0 f.1 in
            let may = (in_targets_from rules.policy (granting_rules rules file execute) a e.0 (bits_of executable) source.executes).0 e.1 in
            any_from (is_entry rules a b) range e.0 may.0
            (entry_from rules a b e.0 ends.1 may.1
            (or_right (grants rules a a process setexec) (is_default rules a b e.0) (rule_default rules a b e.0 (record { number = f.0; is = rule.0; begins = rule.1; ends = ends.0; default = default })))),
        λ h.
            let f = any_gives (is_entry rules a b) range h in
            let entry = f.0 in
            let parts = entry_parts rules a b entry f.2 in
            let s = default_rule rules a b entry (entry_default rules a b entry (sym source.asks ∙ never) parts.2) in
            let may = (in_targets_from rules.policy (granting_rules rules file execute) a entry (bits_of executable) source.executes).1 (f.1, parts.1) in
            among_contains types b
            (are b
            ∙ any_from (enters_by rules (bits_of executable) b) numbers s.number ((from_each rules.policy (default_rules rules) a numbers s.number from).1 (s.is, s.begins))
            (and_from (is_type_value rules.policy b && has_default rules.policy b s.number) (starts_at_point rules (bits_of executable) b s.number) (and_from (is_type_value rules.policy b) (has_default rules.policy b s.number) is_type s.default)
            (any_from (at_point s.number) (bits_of executable) entry may (and_from (ends_at rules.policy entry s.number) (grants rules b entry file entrypoint) s.ends parts.0)))),
      );
}

-- what a type may execute has values of types
pub executes_types : (policy : Parts) (rules : List ℕ) (a : ℕ) (types : List ℕ) → types ≡ targets_from policy rules a → AreTypeValues policy types
unfolding targets_from
executes_types policy rules a types is =
    All-same (λ (value : ℕ). (1 ≤ value) × (value ≤ policy.symbols.types.nprim)) types (filter (any_joins policy rules a) range) is
    (All-filter (any_joins policy rules a) (λ (value : ℕ). (1 ≤ value) × (value ≤ policy.symbols.types.nprim)) range
    (All-weaker (λ (value : ℕ). (1 ≤ value) × (value < 1 + policy.symbols.types.nprim)) (λ (value : ℕ). (1 ≤ value) × (value ≤ policy.symbols.types.nprim)) (λ value w. (w.0, omega (arith, w.1))) range (range_holds 1 policy.symbols.types.nprim)))
  where
    range : List ℕ
    range = range_with_len 1 policy.symbols.types.nprim
