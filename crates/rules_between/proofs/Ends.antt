-- The ends of rules whose ends are types or attributes.
use Rattle.std.proofs.Common.{◌≡◌, ℕ, ◌+◌, ◌<◌, true, List, [], ◌∷◌, ◌++◌, Some, length, slice_get, refl, sym, ap, ◌∙◌, inl, inr, arith}
use Rattle.std.specs.Prelude.{◌==◌, ◌||◌, ◌%◌, slice_index}
use Rattle.std.proofs.lemmas.Bool.{cases_eq, eq-eqb, and_from}
use Rattle.std.proofs.lemmas.List.{length_push, get_or_push, get_or_append_left}
use Rattle.std.proofs.lemmas.List.Elements.{All-push}
use Rattle.pol_file.specs.declared.Parts.{Parts}
use Rattle.pol_file.specs.TypeValues.{HasTypeValues}
use Rattle.pol_read.specs.StoredRules.{StoredRule, stored_rules}
use Rattle.pol_read.specs.DeclaredRules.{IsDeclaredRule}
use Rattle.pol_expand.specs.JoinedTypes.{passes, rule_passes, has_type_ends}
use Rattle.pol_expand.specs.Inner.StoredEnds.{IsEnd}
use Rattle.pol_expand.proofs.DeclaredEnds.{source_is_end, target_is_end}
use Rattle.rules_between.specs.Inner.RuleTables.{AreEndsOf, has_ends}

pub its_ends : (policy : Parts) (number : ℕ) (rule : StoredRule) → slice_get (stored_rules policy) number ≡ Some rule → rule_passes policy (has_ends rule.source rule.target) number ≡ true
its_ends policy number rule at = ap (passes (has_ends rule.source rule.target)) at ∙ and_from (rule.source == rule.source) (rule.target == rule.target) (eq-eqb rule.source rule.source refl) (eq-eqb rule.target rule.target refl)

-- ---- the ends of rules, place by place

pub ends_more : (policy : Parts) (rules sources targets : List ℕ) (number source target : ℕ) → AreEndsOf policy rules sources targets → rule_passes policy (has_ends source target) number ≡ true → IsEnd policy source → IsEnd policy target
    → AreEndsOf policy (rules ++ number ∷ []) (sources ++ source ∷ []) (targets ++ target ∷ [])
ends_more policy rules sources targets number source target are passed is_source is_target = record {
  sources_long = length_push sources source ∙ ap (λ (n : ℕ). n + 1) are.sources_long ∙ sym (length_push rules number);
  targets_long = length_push targets target ∙ ap (λ (n : ℕ). n + 1) are.targets_long ∙ sym (length_push rules number);
  each = λ place lt. elim (cases_eq place (length rules)) [
    | inl e ↦
        let a : slice_index (sources ++ source ∷ []) place ≡ source = get_or_push sources source 0 place (are.sources_long ∙ sym e) in
        let b : slice_index (targets ++ target ∷ []) place ≡ target = get_or_push targets target 0 place (are.targets_long ∙ sym e) in
        let n : slice_index (rules ++ number ∷ []) place ≡ number = get_or_push rules number 0 place (sym e) in
        rw (a, b, n) passed
    | inr other ↦
        let within : place < length rules = omega (arith, lt, length_push rules number, other) in
        let a : slice_index (sources ++ source ∷ []) place ≡ slice_index sources place = get_or_append_left sources (source ∷ []) 0 place (omega (arith, within, are.sources_long)) in
        let b : slice_index (targets ++ target ∷ []) place ≡ slice_index targets place = get_or_append_left targets (target ∷ []) 0 place (omega (arith, within, are.targets_long)) in
        let n : slice_index (rules ++ number ∷ []) place ≡ slice_index rules place = get_or_append_left rules (number ∷ []) 0 place within in
        rw (a, b, n) (are.each place within)
  ];
  sources_are = All-push (IsEnd policy) sources source are.sources_are is_source;
  targets_are = All-push (IsEnd policy) targets target are.targets_are is_target;
}

-- one rule more, with its ends
pub gathered_more : (policy : Parts) (rules sources targets new_rules new_sources new_targets : List ℕ) (number : ℕ) (rule : StoredRule) → HasTypeValues policy → AreEndsOf policy rules sources targets → slice_get (stored_rules policy) number ≡ Some rule
    → IsDeclaredRule policy rule → has_type_ends rule.kind ≡ true → new_rules ≡ rules ++ number ∷ [] → new_sources ≡ sources ++ rule.source ∷ [] → new_targets ≡ targets ++ rule.target ∷ [] → AreEndsOf policy new_rules new_sources new_targets
gathered_more policy rules sources targets new_rules new_sources new_targets number rule has are at declared types r s t =
    rw (r, s, t) (ends_more policy rules sources targets number rule.source rule.target are (its_ends policy number rule at) (source_is_end policy rule has types declared) (target_is_end policy rule has types declared))
