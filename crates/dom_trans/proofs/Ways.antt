-- The way without executing a file, and the steps, test by test.
use Rattle.std.proofs.Common.{◌≡◌, ℕ, Bool, true, false, refl, sym, ap, ◌∙◌}
use Rattle.std.specs.Prelude.{◌&&◌, ◌||◌, not}
use Rattle.std.proofs.lemmas.Bool.{and_left, and_right, false≢true, true≢false}
use Rattle.pol_bitmap.specs.Nodes.{has_bit}
use Rattle.counted_rules.specs.CountedRules.{Counted}
use Rattle.pol_expand.specs.PlainTypes.{are_two_types}
use Rattle.rule_grants.specs.Grants.{grants}
use Rattle.rule_grants.specs.Names.{process, dyntransition, setcurrent}
use Rattle.dom_trans.specs.Transitions.{is_dynamic, is_transition}
use Rattle.dom_trans.specs.DomainEdges.{Domains, is_step}

and_true : (x y : Bool) → y ≡ true → (x && y) ≡ x
and_true true y e = e
and_true false y e = refl

module _ (rules : Counted) (a b : ℕ) where
  -- without one
  pub dynamic_of_others : are_two_types rules.policy a b ≡ false → false ≡ is_dynamic rules a b
  unfolding is_dynamic
  dynamic_of_others e = sym (and_left (are_two_types rules.policy a b && grants rules a b process dyntransition) (grants rules a a process setcurrent) (and_left (are_two_types rules.policy a b) (grants rules a b process dyntransition) e))

  pub dynamic_refused : grants rules a a process setcurrent ≡ false → false ≡ is_dynamic rules a b
  unfolding is_dynamic
  dynamic_refused e = sym (and_right (are_two_types rules.policy a b && grants rules a b process dyntransition) (grants rules a a process setcurrent) e)

  pub dynamic_by_grant : are_two_types rules.policy a b ≡ true → grants rules a a process setcurrent ≡ true → grants rules a b process dyntransition ≡ is_dynamic rules a b
  unfolding is_dynamic
  dynamic_by_grant two changes =
      sym (and_true (are_two_types rules.policy a b && grants rules a b process dyntransition) (grants rules a a process setcurrent) changes ∙ ap (λ (t : Bool). t && grants rules a b process dyntransition) two)

-- ---- steps

shut : (t x y : Bool) → (x || y) ≡ true → (t && not x && not y) ≡ false
shut false x y e = refl
shut true true y e = refl
shut true false true e = refl
shut true false false e = absurd (false≢true e)

clear : (t x y : Bool) → (x || y) ≡ false → (t && not x && not y) ≡ t
clear t true y e = absurd (true≢false e)
clear t false true e = absurd (true≢false e)
clear true false false e = refl
clear false false false e = refl

pub step_excluded : (domains : Domains) (a b : ℕ) → (has_bit domains.excluded a || has_bit domains.excluded b) ≡ true → false ≡ is_step domains a b
unfolding is_step
step_excluded domains a b e = sym (shut (is_transition domains.rules a b) (has_bit domains.excluded a) (has_bit domains.excluded b) e)

pub step_by_transition : (domains : Domains) (a b : ℕ) → (has_bit domains.excluded a || has_bit domains.excluded b) ≡ false → is_transition domains.rules a b ≡ is_step domains a b
unfolding is_step
step_by_transition domains a b e = sym (clear (is_transition domains.rules a b) (has_bit domains.excluded a) (has_bit domains.excluded b) e)
