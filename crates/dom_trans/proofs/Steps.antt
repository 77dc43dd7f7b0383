-- The steps of the graph.
use Rattle.std.proofs.Common.{◌≡◌, ℕ, Bool, true, false, List, [], ◌∷◌, Result, Ok, Err, IfOk, ◌↔◌, refl, sym, subst, ◌∙◌}
use Rattle.std.specs.Prelude.{◌==◌, ◌&&◌, ◌||◌, not, if◌then◌else◌}
use Rattle.std.specs.List.{Contains}
use Rattle.std.specs.List.Sorted.{IsStrictlyIncreasing}
use Rattle.std.proofs.lemmas.Bool.{and_parts, and_from, false≢true, eqb-true, eq-eqb}
use Rattle.pol_bitmap.specs.declared.Node.{Node}
use Rattle.pol_bitmap.specs.Nodes.{bits_of, has_bit}
use Rattle.pol_bitmap.specs.Sets.{IsCommon, IsDifference}
use Rattle.pol_bitmap.proofs.Elements.{contains_nothing, contains_first, contains_one}
use Rattle.pol_expand.proofs.Values.{filter_rises}
use Rattle.pol_file.specs.declared.Parts.{Parts}
use Rattle.walk_enum.specs.Walks.{AreSuccessors}
use Rattle.pol_expand.specs.JoinedTypes.{any_joins, sources_to}
use Rattle.pol_expand.specs.PlainTypes.{are_two_types, is_type_outside, is_type_value, types_outside}
use Rattle.pol_expand.proofs.TypesOutside.{in_outside}
use Rattle.dom_trans.specs.Transitions.{is_transition}
use Rattle.dom_trans.specs.DomainEdges.{Domains, is_step, domain_edge}
use Rattle.dom_trans.specs.Inner.EdgesBetween.{transition_types}
use Rattle.dom_trans.specs.Inner.Targets.{AreOpen, AreSources, AreTargets, is_open}
use Rattle.dom_trans.proofs.Ways.{step_by_transition, step_excluded}

pub step_is_transition : (domains : Domains) (a b : ℕ) → is_step domains a b ≡ true → is_transition domains.rules a b ≡ true
unfolding is_step
step_is_transition domains a b e =
    (and_parts (is_transition domains.rules a b) (not (has_bit domains.excluded a)) (and_parts (is_transition domains.rules a b && not (has_bit domains.excluded a)) (not (has_bit domains.excluded b)) e).0).0

-- ---- two different types, none of them excluded

open_sides : (s t apart x y : Bool) → (((s && t) && apart) && not (x || y)) ≡ (((s && not x) && (t && not y)) && apart)
open_sides false t apart x y = refl
open_sides true false apart true y = refl
open_sides true false apart false y = refl
open_sides true true false true y = refl
open_sides true true true true y = refl
open_sides true true false false true = refl
open_sides true true false false false = refl
open_sides true true true false true = refl
open_sides true true true false false = refl

-- both are in the set of those that are not excluded, and they differ
open_by_sides : (domains : Domains) (a b : ℕ) → is_open domains a b ≡ ((is_type_outside domains.rules.policy domains.excluded a && is_type_outside domains.rules.policy domains.excluded b) && not (a == b))
open_by_sides domains a b = open_sides (is_type_value domains.rules.policy a) (is_type_value domains.rules.policy b) (not (a == b)) (has_bit domains.excluded a) (has_bit domains.excluded b)

not_false : (b : Bool) → not b ≡ true → b ≡ false
not_false true h = absurd (false≢true h)
not_false false h = refl

not_from : (b : Bool) → (b ≡ true → ⊥) → not b ≡ true
not_from true h = absurd (h refl)
not_from false h = refl

-- an excluded type has no step
pub none_open : (domains : Domains) (open_set : List Node) (a : ℕ) (types found : List ℕ) → bits_of open_set ≡ types_outside domains.rules.policy domains.excluded → ¬ Contains (bits_of open_set) a → found ≡ [] → AreOpen domains a types found
none_open domains open_set a types found is out none = record {
  each = λ b. (
    λ there. absurd (contains_nothing b (subst (λ (xs : List ℕ). Contains xs b) none there)),
    λ h.
        let sides = and_parts (is_type_outside domains.rules.policy domains.excluded a && is_type_outside domains.rules.policy domains.excluded b) (not (a == b)) (sym (open_by_sides domains a b) ∙ h.1) in
        let first = (and_parts (is_type_outside domains.rules.policy domains.excluded a) (is_type_outside domains.rules.policy domains.excluded b) sides.0).0 in
        absurd (out ((in_outside domains.rules.policy domains.excluded open_set a is).1 first)),
  );
}

-- the others have steps to those in the set that are not themselves
pub open_are : (domains : Domains) (open_set : List Node) (a : ℕ) (types both itself found : List ℕ) → bits_of open_set ≡ types_outside domains.rules.policy domains.excluded → Contains (bits_of open_set) a → IsCommon types (bits_of open_set) both → itself ≡ a ∷ []
    → IsDifference both itself found → AreOpen domains a types found
open_are domains open_set a types both itself found is there common one less = record {
  each = λ b.
      let outside = is_type_outside domains.rules.policy domains.excluded in
      let other = in_outside domains.rules.policy domains.excluded open_set b is in (
        λ m.
            let parts = (less.each b).0 m in
            let sides = (common.each b).0 parts.0 in
            let apart : not (a == b) ≡ true = not_from (a == b) (λ e. parts.1 (subst (λ (xs : List ℕ). Contains xs b) (sym one) (subst (λ (x : ℕ). Contains (x ∷ []) b) (sym (eqb-true a b e)) (contains_first b [])))) in
            (sides.0, open_by_sides domains a b ∙ and_from (outside a && outside b) (not (a == b)) (and_from (outside a) (outside b) ((in_outside domains.rules.policy domains.excluded open_set a is).0 there) (other.0 sides.1)) apart),
        λ h.
            let sides = and_parts (outside a && outside b) (not (a == b)) (sym (open_by_sides domains a b) ∙ h.1) in
            let second = (and_parts (outside a) (outside b) sides.0).1 in
            (less.each b).1 ((common.each b).1 (h.0, other.1 second), λ m. false≢true (sym (not_false (a == b) sides.1) ∙ eq-eqb a b (contains_one b a (subst (λ (xs : List ℕ). Contains xs b) one m)))),
      );
}

-- a step is a transition that is open
step_opens : (domains : Domains) (a b : ℕ) → is_step domains a b ≡ true → is_open domains a b ≡ true
step_opens domains a b e = and_from (are_two_types domains.rules.policy a b) (not (has_bit domains.excluded a || has_bit domains.excluded b)) (transition_types domains.rules a b (step_is_transition domains a b e))
    (not_from (has_bit domains.excluded a || has_bit domains.excluded b) (λ h. false≢true (step_excluded domains a b h ∙ e)))

open_steps : (domains : Domains) (a b : ℕ) → is_open domains a b ≡ true → is_transition domains.rules a b ≡ true → is_step domains a b ≡ true
open_steps domains a b e t =
    let parts = and_parts (are_two_types domains.rules.policy a b) (not (has_bit domains.excluded a || has_bit domains.excluded b)) e in
    sym (step_by_transition domains a b (not_false (has_bit domains.excluded a || has_bit domains.excluded b) parts.1)) ∙ t

open_turns : (domains : Domains) (a b : ℕ) → is_open domains a b ≡ true → is_open domains b a ≡ true
open_turns domains a b e =
    let outside = is_type_outside domains.rules.policy domains.excluded in
    let sides = and_parts (outside a && outside b) (not (a == b)) (sym (open_by_sides domains a b) ∙ e) in
    let both = and_parts (outside a) (outside b) sides.0 in
    open_by_sides domains b a
    ∙ and_from (outside b && outside a) (not (b == a)) (and_from (outside b) (outside a) both.1 both.0) (not_from (b == a) (λ h. false≢true (sym (not_false (a == b) sides.1) ∙ eq-eqb a b (sym (eqb-true b a h)))))

two_types : (domains : Domains) (a b : ℕ) → is_open domains a b ≡ true → are_two_types domains.rules.policy a b ≡ true
two_types domains a b e = (and_parts (are_two_types domains.rules.policy a b) (not (has_bit domains.excluded a || has_bit domains.excluded b)) e).0

-- the steps from a type, and those to a type
pub ends_from : (domains : Domains) (a : ℕ) (targets found : List ℕ) → AreTargets domains.rules a targets → AreOpen domains a targets found → AreSuccessors (is_step domains) a found
ends_from domains a targets found are opened = record {
  each = λ b. (
    λ there. let h = (opened.each b).0 there in open_steps domains a b h.1 ((are.each b (two_types domains a b h.1)).0 h.0),
    λ e. let way = step_opens domains a b e in (opened.each b).1 ((are.each b (two_types domains a b way)).1 (step_is_transition domains a b e), way),
  );
}

pub ends_to : (domains : Domains) (b : ℕ) (sources found : List ℕ) → AreSources domains.rules b sources → AreOpen domains b sources found → AreSuccessors (λ node a. is_step domains a node) b found
ends_to domains b sources found are opened = record {
  each = λ a. (
    λ there.
        let h = (opened.each a).0 there in
        let way = open_turns domains b a h.1 in
        open_steps domains a b way ((are.each a (two_types domains a b way)).0 h.0),
    λ e. let way = step_opens domains a b e in (opened.each a).1 ((are.each a (two_types domains a b way)).1 (step_is_transition domains a b e), open_turns domains a b way),
  );
}

-- ---- edges

pub sources_rise : (policy : Parts) (rules : List ℕ) (b : ℕ) → IsStrictlyIncreasing (sources_to policy rules b)
unfolding sources_to
sources_rise policy rules b = filter_rises (λ source. any_joins policy rules source b) 1 policy.symbols.types.nprim

-- edges forward, and edges turned round
pub ends_forward : {E : Type 0} (domains : Domains) (node : ℕ) (r : Result (List Node) E) → domains.reverse ≡ false → IfOk r (λ set. AreSuccessors (is_step domains) node (bits_of set)) → IfOk r (λ set. AreSuccessors (domain_edge domains) node (bits_of set))
ends_forward domains node (Ok set) e h = record { each = λ b. subst (λ (v : Bool). Contains (bits_of set) b ↔ ((if v then is_step domains b node else is_step domains node b) ≡ true)) (sym e) (h.each b) }
ends_forward domains node (Err x) e h = tt

pub ends_reverse : {E : Type 0} (domains : Domains) (node : ℕ) (r : Result (List Node) E) → domains.reverse ≡ true → IfOk r (λ set. AreSuccessors (λ n a. is_step domains a n) node (bits_of set)) → IfOk r (λ set. AreSuccessors (domain_edge domains) node (bits_of set))
ends_reverse domains node (Ok set) e h = record { each = λ b. subst (λ (v : Bool). Contains (bits_of set) b ↔ ((if v then is_step domains b node else is_step domains node b) ≡ true)) (sym e) (h.each b) }
ends_reverse domains node (Err x) e h = tt
