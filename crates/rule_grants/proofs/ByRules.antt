-- Whether some of the rules that count and pass a test passes another, rule by rule, and so for the policy that has only enabled rules.
use Rattle.std.proofs.Common.{◌≡◌, ℕ, ◌+◌, zero, suc, Bool, true, false, cond, Option, Some, None, List, [], ◌∷◌, length, slice_get, refl, sym, ap, ◌∙◌, arith}
use Rattle.std.proofs.Math.Path.{fun_ext}
use Rattle.std.specs.Prelude.{◌&&◌, ◌||◌}
use Rattle.std.specs.List.{filter, list_any, range_with_len}
use Rattle.pol_file.specs.declared.Parts.{Parts}
use Rattle.pol_read.specs.StoredRules.{StoredRule, stored_rules}
use Rattle.pol_expand.specs.JoinedTypes.{holds_type, is_rule_from_to, joins, passes, rule_passes}
use Rattle.pol_expand.specs.PolicyMap.{expand}
use Rattle.bool_state.specs.BooleanStates.{Booleans}
use Rattle.counted_rules.specs.CountedRules.{Counted, all_rules, counts, rules_under}
use Rattle.counted_rules.specs.EnabledPolicy.{enabled_policy}
use Rattle.counted_rules.proofs.OnlyEnabled.{enabled_rules}
use Rattle.rule_grants.specs.Grants.{counts_and, gives, grants, permission_named, rules_that}

-- ---- lists

pub any_among : {X : Type 0} (p q : X → Bool) (xs : List X) → list_any q (filter p xs) ≡ list_any (λ x. p x && q x) xs
any_among p q [] = refl
any_among p q (x ∷ xs) = go (p x) (any_among p q xs)
  where
    go : (t : Bool) → list_any q (filter p xs) ≡ list_any (λ y. p y && q y) xs → list_any q (cond t (x ∷ filter p xs) (filter p xs)) ≡ ((t && q x) || list_any (λ y. p y && q y) xs)
    go true e = ap (λ (b : Bool). q x || b) e
    go false e = e

all_stay : {X : Type 0} (xs : List X) → filter (λ x. true) xs ≡ xs
all_stay [] = refl
all_stay (x ∷ xs) = ap (λ (l : List _). x ∷ l) (all_stay xs)

shifted : (p : ℕ → Bool) (m n : ℕ) → list_any p (range_with_len (m + 1) n) ≡ list_any (λ k. p (suc k)) (range_with_len m n)
shifted p m zero = refl
shifted p m (suc n) =
    let next : m + 1 ≡ suc m = omega arith in
    ap (λ (k : ℕ). p k || list_any p (range_with_len (m + 1 + 1) n)) next ∙ ap (λ (b : Bool). p (suc m) || b) (shifted p (m + 1) n)

-- by the places of rules, and by the rules
by_places : (p : StoredRule → Bool) (rules : List StoredRule) → list_any (λ k. passes p (slice_get rules k)) (range_with_len 0 (length rules)) ≡ list_any p rules
by_places p [] = refl
by_places p (rule ∷ rules) = ap (λ (b : Bool). p rule || b) (shifted (λ k. passes p (slice_get (rule ∷ rules) k)) 0 (length rules) ∙ by_places p rules)

-- ---- rules that count

pub both_pass : (p q : StoredRule → Bool) (found : Option StoredRule) → (passes p found && passes q found) ≡ passes (λ rule. p rule && q rule) found
both_pass p q None = refl
both_pass p q (Some rule) = refl

and_assoc : (a b c : Bool) → ((a && b) && c) ≡ (a && (b && c))
and_assoc true b c = refl
and_assoc false b c = refl

pub any_counted : (rules : Counted) (test more : StoredRule → Bool) → list_any (rule_passes rules.policy more) (rules_that rules test) ≡ list_any (λ rule. test rule && more rule) (filter (counts rules) (stored_rules rules.policy))
unfolding rules_that
any_counted rules test more =
    let stored = stored_rules rules.policy in
    let range = range_with_len 0 (length stored) in
    any_among (rule_passes rules.policy (counts_and rules test)) (rule_passes rules.policy more) range
    ∙ ap (λ (p : ℕ → Bool). list_any p range) (fun_ext (λ k. both_pass (counts_and rules test) more (slice_get stored k)))
    ∙ by_places (λ rule. counts_and rules test rule && more rule) stored
    ∙ ap (λ (p : StoredRule → Bool). list_any p stored) (fun_ext (λ rule. and_assoc (counts rules rule) (test rule) (more rule)))
    ∙ sym (any_among (counts rules) (λ rule. test rule && more rule) stored)

-- ---- enabled rules, and the policy that has no others

pub any_enabled : (policy : Parts) (on : Booleans) (test more : StoredRule → Bool)
    → list_any (rule_passes policy more) (rules_that (rules_under policy on) test) ≡ list_any (rule_passes (enabled_policy policy on) more) (rules_that (all_rules (enabled_policy policy on)) test)
any_enabled policy on test more =
    any_counted (rules_under policy on) test more
    ∙ ap (list_any (λ (rule : StoredRule). test rule && more rule)) (enabled_rules policy on ∙ sym (all_stay (stored_rules (enabled_policy policy on))))
    ∙ sym (any_counted (all_rules (enabled_policy policy on)) test more)

pub granted_alike : (policy : Parts) (on : Booleans) (source target : ℕ) (class name : List ℕ) → grants (rules_under policy on) source target class name ≡ grants (all_rules (enabled_policy policy on)) source target class name
unfolding joins holds_type expand
granted_alike policy on source target class name = any_enabled policy on (gives (permission_named policy.symbols class name)) (is_rule_from_to policy source target)
