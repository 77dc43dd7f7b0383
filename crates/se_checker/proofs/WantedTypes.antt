-- The types that are asked for and not exempt, and the ends that have one.
use Rattle.std.proofs.Common.{◌≡◌, ℕ, ◌+◌, ◌<◌, Bool, true, false, List, [], Option, Some, None, Result, Ok, Err, IfOk, refl, sym, ap, subst, ◌∙◌, arith}
use Rattle.std.specs.Prelude.{◌&&◌, ◌||◌, not}
use Rattle.std.specs.List.{All, filter, list_any, range_with_len}
use Rattle.std.proofs.lemmas.Bool.{and_from, and_parts, false≢true}
use Rattle.pol_bitmap.specs.declared.Node.{Node}
use Rattle.pol_bitmap.specs.Nodes.{bits_of, has_bit}
use Rattle.pol_bitmap.specs.Sets.{IsDifference}
use Rattle.pol_bitmap.proofs.Elements.{kept, keeps, contains_range}
use Rattle.pol_symtab.proofs.Searches.{not_true}
use Rattle.pol_file.specs.declared.Parts.{Parts}
use Rattle.pol_expand.specs.Expansion.{Expansions, IsTouching}
use Rattle.pol_expand.specs.PolicyMap.{IsPolicyMap, expand}
use Rattle.pol_expand.specs.PlainTypes.{is_type_outside, is_type_value, types_outside}
use Rattle.pol_expand.specs.JoinedTypes.{holds_type}
use Rattle.pol_expand.specs.Inner.StoredEnds.{IsEnd, holds_any}
use Rattle.pol_expand.proofs.Holders.{holder_is, touching_holds, touching_within}
use Rattle.pol_expand.proofs.TypesOutside.{in_outside, type_within}
use Rattle.pol_expand.proofs.Values.{same_tests}
use Rattle.value_groups.specs.Among.{is_among}
use Rattle.value_groups.specs.Inner.Marking.{MarkedValues}
use Rattle.value_groups.proofs.Anys.{among_contains, any_from, any_gives, contains_among}
use Rattle.value_groups.proofs.Words.{among_bits}
use Rattle.se_checker.specs.Members.{is_member, members}
use Rattle.se_checker.specs.Verdicts.{has_wanted, is_wanted}

-- ---- types

among_members : (policy : Parts) (names : List (List ℕ)) (type : ℕ) → is_type_value policy type ≡ true → is_among (members policy names) type ≡ is_member policy names type
unfolding members
among_members policy names type is =
    let within = type_within policy type is in
    let range = range_with_len 1 policy.symbols.types.nprim in
    same_tests (is_among (filter (is_member policy names) range) type) (is_member policy names type) (λ e. (kept (is_member policy names) range type (among_contains (filter (is_member policy names) range) type e)).1)
    (λ e. contains_among (filter (is_member policy names) range) type (keeps (is_member policy names) range type (contains_range 1 policy.symbols.types.nprim type within.0 (omega (arith, within.1))) e))

not_both : (b : Bool) → b ≡ true → not b ≡ true → ⊥
not_both true e n = false≢true n
not_both false e n = false≢true e

among_difference : (a b c : List ℕ) (type : ℕ) → IsDifference a b c → is_among c type ≡ (is_among a type && not (is_among b type))
among_difference a b c type is = same_tests (is_among c type) (is_among a type && not (is_among b type))
    (λ e.
    let h = (is.each type).0 (among_contains c type e) in
    and_from (is_among a type) (not (is_among b type)) (contains_among a type h.0) (ap not (not_true (is_among b type) (λ t. h.1 (among_contains b type t)))))
    (λ e.
    let parts = and_parts (is_among a type) (not (is_among b type)) e in
    contains_among c type ((is.each type).1 (among_contains a type parts.0, λ t. not_both (is_among b type) (contains_among b type t) parts.1)))

among_outside : (policy : Parts) (excluded outside : List Node) (type : ℕ) → is_type_value policy type ≡ true → bits_of outside ≡ types_outside policy excluded → is_among (bits_of outside) type ≡ not (is_among (bits_of excluded) type)
among_outside policy excluded outside type is bits =
    let both = in_outside policy excluded outside type bits in
    same_tests (is_among (bits_of outside) type) (is_type_outside policy excluded type) (λ e. both.0 (among_contains (bits_of outside) type e)) (λ e. contains_among (bits_of outside) type (both.1 e))
    ∙ ap (λ (b : Bool). b && not (has_bit excluded type)) is
    ∙ ap not (sym (among_bits excluded type))

-- of those that are asked for, the ones that are not exempt
pub wanted_named : {E : Type 0} (policy : Parts) (names exempt : List (List ℕ)) (asked without : List Node) (result : Result (List Node) E) → bits_of asked ≡ members policy names → bits_of without ≡ members policy exempt → IfOk result (λ set. IsDifference (bits_of asked) (bits_of without) (bits_of set))
    → IfOk result (λ set. (type : ℕ) → is_type_value policy type ≡ true → is_among (bits_of set) type ≡ is_wanted policy (Some names) exempt type)
wanted_named policy names exempt asked without (Ok set) are these is = λ type plain.
    among_difference (bits_of asked) (bits_of without) (bits_of set) type is
    ∙ ap (λ (b : Bool). b && not (is_among (bits_of without) type)) (ap (λ (xs : List ℕ). is_among xs type) are ∙ among_members policy names type plain)
    ∙ ap (λ (b : Bool). is_member policy names type && not b) (ap (λ (xs : List ℕ). is_among xs type) these ∙ among_members policy exempt type plain)
wanted_named policy names exempt asked without (Err e) are these is = tt

-- of all types
pub wanted_all : {E : Type 0} (policy : Parts) (exempt : List (List ℕ)) (without : List Node) (result : Result (List Node) E) → bits_of without ≡ members policy exempt → IfOk result (λ set. bits_of set ≡ types_outside policy without)
    → IfOk result (λ set. (type : ℕ) → is_type_value policy type ≡ true → is_among (bits_of set) type ≡ is_wanted policy None exempt type)
wanted_all policy exempt without (Ok set) these is = λ type plain.
    among_outside policy without set type plain is ∙ ap not (ap (λ (xs : List ℕ). is_among xs type) these ∙ among_members policy exempt type plain)
wanted_all policy exempt without (Err e) these is = tt

-- ---- ends

held_is_type : (policy : Parts) (end type : ℕ) → IsEnd policy end → is_among (expand policy end) type ≡ true → is_type_value policy type ≡ true
unfolding holds_type
held_is_type policy end type is held = (and_parts (is_type_value policy type) _ (holder_is policy (λ (value : ℕ). true) type end is refl ∙ held)).0

-- an end expands to one of some types where one of those that it expands to passes their test
pub holds_passing : (policy : Parts) (types : List ℕ) (test : ℕ → Bool) (end : ℕ) → ((type : ℕ) → is_type_value policy type ≡ true → is_among types type ≡ test type) → IsEnd policy end → holds_any policy types end ≡ list_any test (expand policy end)
unfolding holds_type
holds_passing policy types test end each is = same_tests (holds_any policy types end) (list_any test (expand policy end))
    (λ e.
    let f = any_gives (λ type. is_among (expand policy end) type) types e in
    any_from test (expand policy end) f.0 (among_contains (expand policy end) f.0 f.2) (sym (each f.0 (held_is_type policy end f.0 is f.2)) ∙ contains_among types f.0 f.1))
    (λ e.
    let f = any_gives test (expand policy end) e in
    let held = contains_among (expand policy end) f.0 f.1 in
    any_from (λ type. is_among (expand policy end) type) types f.0 (among_contains types f.0 (each f.0 (held_is_type policy end f.0 is held) ∙ f.2)) held)

pub ends_wanted : {E : Type 0} (policy : Parts) (asked : Option (List (List ℕ))) (exempt : List (List ℕ)) (types : List ℕ) (result : Result MarkedValues E) → ((type : ℕ) → is_type_value policy type ≡ true → is_among types type ≡ is_wanted policy asked exempt type)
    → IfOk result (λ ends. (end : ℕ) → IsEnd policy end → is_among ends.values end ≡ holds_any policy types end) → IfOk result (λ ends. (end : ℕ) → IsEnd policy end → is_among ends.values end ≡ has_wanted policy asked exempt end)
ends_wanted policy asked exempt types (Ok ends) each are = λ end is. are end is ∙ holds_passing policy types (is_wanted policy asked exempt) end each is
ends_wanted policy asked exempt types (Err e) each are = tt

-- ---- the ends that touch some types

pub touching_below : (policy : Parts) (map : Expansions) (nodes : List Node) (values : List ℕ) (none : MarkedValues) (count : ℕ) → IsPolicyMap policy map → IsTouching map.expansions map.attributes map.types nodes values → none ≡ record { count = count + 1; values = [] } → count ≡ policy.symbols.types.nprim
    → All (λ value. value < none.count) values
touching_below policy map nodes values none count is touching new few =
    let all : policy.symbols.types.nprim + 1 ≡ none.count = ap (λ (n : ℕ). n + 1) (sym few) ∙ sym (ap (λ (marked : MarkedValues). marked.count) new) in
    subst (λ (n : ℕ). All (λ value. value < n) values) all (touching_within policy map nodes values is touching)

pub touching_ends : (policy : Parts) (map : Expansions) (nodes : List Node) (values : List ℕ) (none : MarkedValues) (count : ℕ) (found : List ℕ) → IsPolicyMap policy map → IsTouching map.expansions map.attributes map.types nodes values → none ≡ record { count = count; values = [] }
    → ((value : ℕ) → is_among found value ≡ (is_among none.values value || is_among values value)) → (end : ℕ) → IsEnd policy end → is_among found end ≡ holds_any policy (bits_of nodes) end
touching_ends policy map nodes values none count found is touching new added end an_end =
    added end ∙ ap (λ (marked : MarkedValues). is_among marked.values end || is_among values end) new ∙ touching_holds policy map nodes values end is touching an_end
