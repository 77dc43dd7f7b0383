-- An edge joins nodes, since transitions are from types to types.
use Rattle.std.specs.Prelude.{◌≡◌, ℕ, ◌≤◌, true, not, ◌&&◌}
use Rattle.std.specs.List.{list_any, range_with_len}
use Rattle.std.proofs.Common.{inl, inr}
use Rattle.std.proofs.lemmas.Bool.{and_parts, or_cases}
use Rattle.pol_bitmap.specs.Nodes.{has_bit}
use Rattle.pol_expand.specs.PlainTypes.{are_two_types}
use Rattle.pol_expand.proofs.TypesOutside.{two_within}
use Rattle.walk_enum.proofs.TurnedEdges.{turned_between}
use Rattle.counted_rules.specs.CountedRules.{Counted}
use Rattle.rule_grants.specs.Grants.{grants}
use Rattle.rule_grants.specs.Names.{process, transition, dyntransition, setcurrent}
use Rattle.dom_trans.specs.Transitions.{is_entry, is_standard, is_dynamic, is_transition}
use Rattle.dom_trans.specs.DomainEdges.{Domains, domain_count, is_step, domain_edge}

-- a transition is between two types
pub transition_types : (rules : Counted) (a b : ℕ) → is_transition rules a b ≡ true → are_two_types rules.policy a b ≡ true
unfolding is_standard is_dynamic
transition_types rules a b e = elim (or_cases (is_standard rules a b) (is_dynamic rules a b) e) [
  | inl standard ↦
      (and_parts (are_two_types rules.policy a b) (grants rules a b process transition) (and_parts (are_two_types rules.policy a b && grants rules a b process transition) (list_any (is_entry rules a b) (range_with_len 1 rules.policy.symbols.types.nprim)) standard).0).0
  | inr dynamic ↦
      (and_parts (are_two_types rules.policy a b) (grants rules a b process dyntransition) (and_parts (are_two_types rules.policy a b && grants rules a b process dyntransition) (grants rules a a process setcurrent) dynamic).0).0
]

-- a step joins nodes
step_joins : (domains : Domains) (a b : ℕ) → is_step domains a b ≡ true → (1 ≤ a) × (a ≤ domain_count domains) × (1 ≤ b) × (b ≤ domain_count domains)
unfolding is_step
step_joins domains a b e =
    let inner = and_parts (is_transition domains.rules a b) (not (has_bit domains.excluded a)) (and_parts (is_transition domains.rules a b && not (has_bit domains.excluded a)) (not (has_bit domains.excluded b)) e).0 in
    two_within domains.rules.policy a b (transition_types domains.rules a b inner.0)

pub edges_join : (domains : Domains) (a b : ℕ) → domain_edge domains a b ≡ true → (1 ≤ a) × (a ≤ domain_count domains) × (1 ≤ b) × (b ≤ domain_count domains)
edges_join domains = turned_between (domain_count domains) (is_step domains) (step_joins domains) domains.reverse
