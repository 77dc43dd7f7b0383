-- The types that may change to a type, found by sets of rules.
use Rattle.std.proofs.Common.{◌≡◌, ℕ, Bool, true, false, List, [], ◌∷◌, get_or, refl, sym, ap, subst, ◌∙◌, inl, inr, arith}
use Rattle.std.specs.Prelude.{◌==◌, ◌&&◌, ◌||◌, ◌↔◌, ◌⊎◌, not}
use Rattle.std.specs.List.{Contains, filter, list_any, range_with_len}
use Rattle.std.proofs.lemmas.Bool.{and_parts, and_from, or_cases, or_left, or_right, false≢true}
use Rattle.pol_bitmap.specs.Sets.{IsUnion, IsCommon}
use Rattle.pol_bitmap.proofs.Elements.{kept, keeps, contains_range}
use Rattle.pol_file.specs.declared.Parts.{Parts}
use Rattle.pol_expand.specs.JoinedTypes.{any_joins, targets_from, sources_to}
use Rattle.counted_rules.specs.CountedRules.{Counted}
use Rattle.rules_between.specs.ChosenRules.{common_sources, sources_to_any}
use Rattle.value_groups.proofs.Anys.{any_gives, any_from, filter_agree}
use Rattle.value_groups.proofs.Filters.{filter_never}
use Rattle.rule_grants.specs.Grants.{granting_rules, grants}
use Rattle.rule_grants.specs.Names.{process, file, transition, dyntransition, setexec, setcurrent, execute, entrypoint}
use Rattle.dom_trans.specs.Transitions.{is_default, is_entry, is_standard, is_dynamic}
use Rattle.pol_expand.specs.PlainTypes.{are_two_types, is_type_value}
use Rattle.pol_expand.proofs.TypesOutside.{two_within}
use Rattle.dom_trans.specs.Inner.Targets.{AreEntering, AreSources, has_entry}
use Rattle.dom_trans.specs.Inner.RuleLists.{rules_to}
use Rattle.dom_trans.proofs.Defaults.{default_by_rules, in_targets_from, rules_by_default}
use Rattle.dom_trans.proofs.FoundEntries.{entry_from, entry_parts}

-- ---- by sets of sources

-- a type is among the sources of a type exactly where the rules join it to that one
in_sources : (policy : Parts) (rules : List ℕ) (a b : ℕ) (sources : List ℕ) → sources ≡ sources_to policy rules b → are_two_types policy a b ≡ true → Contains sources a ↔ (any_joins policy rules a b ≡ true)
unfolding sources_to
in_sources policy rules a b sources is two =
    let nodes = two_within policy a b two in
    let range = range_with_len 1 policy.symbols.types.nprim in
    let joined = λ (source : ℕ). any_joins policy rules source b in (
      λ there. (kept joined range a (subst (λ (xs : List ℕ). Contains xs a) is there)).1,
      λ e. subst (λ (xs : List ℕ). Contains xs a) (sym is) (keeps joined range a (contains_range 1 policy.symbols.types.nprim a nodes.0 (omega (arith, nodes.1))) e),
    )

-- likewise for the sources of one of some types
in_sources_of_any : (policy : Parts) (rules : List ℕ) (a b : ℕ) (targets sources : List ℕ) → sources ≡ sources_to_any policy rules targets → are_two_types policy a b ≡ true → Contains sources a ↔ (list_any (any_joins policy rules a) targets ≡ true)
unfolding sources_to_any
in_sources_of_any policy rules a b targets sources is two =
    let nodes = two_within policy a b two in
    let range = range_with_len 1 policy.symbols.types.nprim in
    let joined = λ (source : ℕ). list_any (any_joins policy rules source) targets in (
      λ there. (kept joined range a (subst (λ (xs : List ℕ). Contains xs a) is there)).1,
      λ e. subst (λ (xs : List ℕ). Contains xs a) (sym is) (keeps joined range a (contains_range 1 policy.symbols.types.nprim a nodes.0 (omega (arith, nodes.1))) e),
    )

-- a type that may execute an entry point, and asks for the domain, has an entry
entry_by_request : (rules : Counted) (a b : ℕ) (points : List ℕ) → points ≡ targets_from rules.policy (granting_rules rules file entrypoint) b → list_any (any_joins rules.policy (granting_rules rules file execute) a) points ≡ true
    → grants rules a a process setexec ≡ true → has_entry rules a b ≡ true
entry_by_request rules a b points are executes asks =
    let f = any_gives (any_joins rules.policy (granting_rules rules file execute) a) points executes in
    let point = (in_targets_from rules.policy (granting_rules rules file entrypoint) b f.0 points are).0 f.1 in
    any_from (is_entry rules a b) (range_with_len 1 rules.policy.symbols.types.nprim) f.0 point.0 (entry_from rules a b f.0 point.1 f.2 (or_left (grants rules a a process setexec) (is_default rules a b f.0) asks))

-- and so has one that may execute an entry point from which it starts the domain by default
abbrev pub starts_from : Counted → ℕ → ℕ → ℕ → Bool
starts_from rules b a entry = any_joins rules.policy (rules_to rules b) a entry && any_joins rules.policy (granting_rules rules file execute) a entry

entry_by_default : (rules : Counted) (a b : ℕ) (points starting : List ℕ) → points ≡ targets_from rules.policy (granting_rules rules file entrypoint) b → starting ≡ common_sources rules.policy (rules_to rules b) (granting_rules rules file execute) points
    → Contains starting a → has_entry rules a b ≡ true
unfolding common_sources
entry_by_default rules a b points starting are is there =
    let range = range_with_len 1 rules.policy.symbols.types.nprim in
    let k = kept (λ source. list_any (starts_from rules b source) points) range a (subst (λ (xs : List ℕ). Contains xs a) is there) in
    let f = any_gives (starts_from rules b a) points k.1 in
    let both = and_parts (any_joins rules.policy (rules_to rules b) a f.0) (any_joins rules.policy (granting_rules rules file execute) a f.0) f.2 in
    let point = (in_targets_from rules.policy (granting_rules rules file entrypoint) b f.0 points are).0 f.1 in
    any_from (is_entry rules a b) range f.0 point.0 (entry_from rules a b f.0 point.1 both.1 (or_right (grants rules a a process setexec) (is_default rules a b f.0) (default_by_rules rules a b f.0 both.0)))

-- there is no other entry
asks_or_starts : (rules : Counted) (a b : ℕ) (points starting : List ℕ) → are_two_types rules.policy a b ≡ true → points ≡ targets_from rules.policy (granting_rules rules file entrypoint) b
    → starting ≡ common_sources rules.policy (rules_to rules b) (granting_rules rules file execute) points → has_entry rules a b ≡ true → (grants rules a a process setexec ≡ true) ⊎ Contains starting a
unfolding common_sources
asks_or_starts rules a b points starting two are is e =
    let range = range_with_len 1 rules.policy.symbols.types.nprim in
    let nodes = two_within rules.policy a b two in
    let f = any_gives (is_entry rules a b) range e in
    let parts = entry_parts rules a b f.0 f.2 in
    elim (or_cases (grants rules a a process setexec) (is_default rules a b f.0) parts.2) [
      | inl asks ↦ inl asks
      | inr default ↦
          let point = (in_targets_from rules.policy (granting_rules rules file entrypoint) b f.0 points are).1 (f.1, parts.0) in
          let both = and_from (any_joins rules.policy (rules_to rules b) a f.0) (any_joins rules.policy (granting_rules rules file execute) a f.0) (rules_by_default rules a b f.0 default) parts.1 in
          inr (subst (λ (xs : List ℕ). Contains xs a) (sym is) (keeps (λ source. list_any (starts_from rules b source) points) range a (contains_range 1 rules.policy.symbols.types.nprim a nodes.0 (omega (arith, nodes.1))) (any_from (starts_from rules b a) points f.0 point both)))
    ]

-- an entry is an entry point that the type may execute
entry_executes : (rules : Counted) (a b : ℕ) (points : List ℕ) → points ≡ targets_from rules.policy (granting_rules rules file entrypoint) b → has_entry rules a b ≡ true → list_any (any_joins rules.policy (granting_rules rules file execute) a) points ≡ true
unfolding targets_from is_entry
entry_executes rules a b points are e =
    let range = range_with_len 1 rules.policy.symbols.types.nprim in
    let f = any_gives (is_entry rules a b) range e in
    let entry = f.0 in
    let outer = and_parts (grants rules b entry file entrypoint && grants rules a entry file execute) (grants rules a a process setexec || is_default rules a b entry) f.2 in
    let inner = and_parts (grants rules b entry file entrypoint) (grants rules a entry file execute) outer.0 in
    any_from (any_joins rules.policy (granting_rules rules file execute) a) points entry (subst (λ (xs : List ℕ). Contains xs entry) (sym are) (keeps (any_joins rules.policy (granting_rules rules file entrypoint) b) range entry f.1 inner.0)) inner.1

-- by executing a file
pub entering_are : (rules : Counted) (b : ℕ) (points executing allowed among asking starting default found : List ℕ) → points ≡ targets_from rules.policy (granting_rules rules file entrypoint) b
    → executing ≡ sources_to_any rules.policy (granting_rules rules file execute) points → allowed ≡ sources_to rules.policy (granting_rules rules process transition) b → IsCommon allowed executing among
    → asking ≡ filter (λ a. grants rules a a process setexec) among → starting ≡ common_sources rules.policy (rules_to rules b) (granting_rules rules file execute) points → IsCommon among starting default → IsUnion asking default found → AreEntering rules b found
unfolding is_standard
entering_are rules b points executing allowed among asking starting default found are execute_is allowed_is common asking_is starting_is by_default union = record {
  each = λ a two.
      let granted = in_sources rules.policy (granting_rules rules process transition) a b allowed allowed_is two in
      let executes = in_sources_of_any rules.policy (granting_rules rules file execute) a b points executing execute_is two in
      let asks = λ (source : ℕ). grants rules source source process setexec in
      let standard = λ (there : Contains among a) (entry : has_entry rules a b ≡ true). and_from (are_two_types rules.policy a b && grants rules a b process transition) (has_entry rules a b)
      (and_from (are_two_types rules.policy a b) (grants rules a b process transition) two (granted.0 ((common.each a).0 there).0)) entry in (
        λ there. elim ((union.each a).0 there) [
          | inl asking_a ↦
              let h = kept asks among a (subst (λ (xs : List ℕ). Contains xs a) asking_is asking_a) in
              standard h.0 (entry_by_request rules a b points are (executes.0 ((common.each a).0 h.0).1) h.1)
          | inr default_a ↦
              let h = (by_default.each a).0 default_a in
              standard h.0 (entry_by_default rules a b points starting are starting_is h.1)
        ],
        λ e.
            let outer = and_parts (are_two_types rules.policy a b && grants rules a b process transition) (has_entry rules a b) e in
            let inner = and_parts (are_two_types rules.policy a b) (grants rules a b process transition) outer.0 in
            let there = (common.each a).1 (granted.1 inner.1, executes.1 (entry_executes rules a b points are outer.1)) in
            (union.each a).1 (elim (asks_or_starts rules a b points starting two are starting_is outer.1) [
              | inl asking_a ↦ inl (subst (λ (xs : List ℕ). Contains xs a) (sym asking_is) (keeps asks among a there asking_a))
              | inr starting_a ↦ inr ((by_default.each a).1 (there, starting_a))
            ]),
      );
}

-- none starts it where no rule sets it as the default
pub none_starting : (policy : Parts) (rules others points : List ℕ) → rules ≡ [] → [] ≡ common_sources policy rules others points
unfolding common_sources
none_starting policy rules others points none =
    let range = range_with_len 1 policy.symbols.types.nprim in
    sym
    (filter_agree (λ source. list_any (λ target. any_joins policy rules source target && any_joins policy others source target) points) (λ source. false) range
    (λ k d lt. ap (λ (rs : List ℕ). list_any (λ target. any_joins policy rs (get_or range k d) target && any_joins policy others (get_or range k d) target) points) none ∙ any_never points)
    ∙ filter_never range)
  where
    any_never : (xs : List ℕ) → list_any (λ x. false) xs ≡ false
    any_never [] = refl
    any_never (x ∷ xs) = any_never xs

-- no type is entered by a value that is none
pub none_entering : (rules : Counted) (b : ℕ) (found : List ℕ) → is_type_value rules.policy b ≡ false → AreEntering rules b found
none_entering rules b found none = record {
  each = λ a two. absurd (false≢true (sym none ∙ (and_parts (is_type_value rules.policy a) (is_type_value rules.policy b) (and_parts (is_type_value rules.policy a && is_type_value rules.policy b) (not (a == b)) two).0).1));
}

-- and without one
turning_in : (rules : Counted) (a b : ℕ) (turning : List ℕ) → turning ≡ filter (λ source. grants rules source source process setcurrent) (sources_to rules.policy (granting_rules rules process dyntransition) b) → are_two_types rules.policy a b ≡ true
    → Contains turning a ↔ (is_dynamic rules a b ≡ true)
unfolding is_dynamic
turning_in rules a b turning is two =
    let changes = λ (source : ℕ). grants rules source source process setcurrent in
    let all = sources_to rules.policy (granting_rules rules process dyntransition) b in
    let granted = in_sources rules.policy (granting_rules rules process dyntransition) a b all refl two in (
      λ there.
          let h = kept changes all a (subst (λ (xs : List ℕ). Contains xs a) is there) in
          and_from (are_two_types rules.policy a b && grants rules a b process dyntransition) (grants rules a a process setcurrent) (and_from (are_two_types rules.policy a b) (grants rules a b process dyntransition) two (granted.0 h.0)) h.1,
      λ e.
          let outer = and_parts (are_two_types rules.policy a b && grants rules a b process dyntransition) (grants rules a a process setcurrent) e in
          let inner = and_parts (are_two_types rules.policy a b) (grants rules a b process dyntransition) outer.0 in
          subst (λ (xs : List ℕ). Contains xs a) (sym is) (keeps changes all a (granted.1 inner.1) outer.1),
    )

pub sources_are : (rules : Counted) (b : ℕ) (entering turning all : List ℕ) → AreEntering rules b entering → turning ≡ filter (λ source. grants rules source source process setcurrent) (sources_to rules.policy (granting_rules rules process dyntransition) b)
    → IsUnion entering turning all → AreSources rules b all
sources_are rules b entering turning all are turns union = record {
  each = λ a two.
      let dynamic = turning_in rules a b turning turns two in (
        λ there. elim ((union.each a).0 there) [
          | inl s ↦ or_left (is_standard rules a b) (is_dynamic rules a b) ((are.each a two).0 s)
          | inr d ↦ or_right (is_standard rules a b) (is_dynamic rules a b) (dynamic.0 d)
        ],
        λ e. elim (or_cases (is_standard rules a b) (is_dynamic rules a b) e) [
          | inl s ↦ (union.each a).1 (inl ((are.each a two).1 s))
          | inr d ↦ (union.each a).1 (inr (dynamic.1 d))
        ],
      );
}
