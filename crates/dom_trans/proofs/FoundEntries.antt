-- The entries of a transition, by the entry points of the one domain and by what the other may execute.
use Rattle.std.proofs.Common.{◌≡◌, ℕ, Bool, true, false, cond, List, [], ◌∷◌, length, get_or, refl, sym, ap, ◌∙◌, inl, inr, arith}
use Rattle.std.specs.Prelude.{◌==◌, ◌&&◌, ◌||◌, not, if◌then◌else◌}
use Rattle.std.specs.List.{filter, list_any, range_with_len}
use Rattle.std.proofs.lemmas.Bool.{and_parts, and_from, eqb-true, false≢true, or_cases}
use Rattle.pol_expand.specs.JoinedTypes.{any_joins, targets_from}
use Rattle.pol_expand.specs.PlainTypes.{are_two_types, is_type_value}
use Rattle.value_groups.proofs.Anys.{filter_agree}
use Rattle.value_groups.proofs.Filters.{and_comm, filter_twice}
use Rattle.counted_rules.specs.CountedRules.{Counted}
use Rattle.rule_grants.specs.Grants.{granting_rules, grants}
use Rattle.rule_grants.specs.Names.{process, file, transition, setexec, execute, entrypoint}
use Rattle.dom_trans.specs.Transitions.{is_default, is_entry, is_standard, entries}
use Rattle.dom_trans.specs.Inner.EntryPoints.{default_points, executable_points, is_executable_point}
use Rattle.dom_trans.specs.Inner.RuleLists.{is_allowed}
use Rattle.dom_trans.specs.Inner.Targets.{has_entry, starts_to}
use Rattle.dom_trans.proofs.Defaults.{and_ever, not_so}

-- ---- what an entry is

-- an entry point that the type may execute, and that it asks for or starts from by default
pub entry_parts : (rules : Counted) (a b entry : ℕ) → is_entry rules a b entry ≡ true
    → (grants rules b entry file entrypoint ≡ true) × (grants rules a entry file execute ≡ true) × ((grants rules a a process setexec || is_default rules a b entry) ≡ true)
unfolding is_entry
entry_parts rules a b entry e =
    let outer = and_parts (grants rules b entry file entrypoint && grants rules a entry file execute) (grants rules a a process setexec || is_default rules a b entry) e in
    let inner = and_parts (grants rules b entry file entrypoint) (grants rules a entry file execute) outer.0 in
    (inner.0, inner.1, outer.1)

pub entry_from : (rules : Counted) (a b entry : ℕ) → grants rules b entry file entrypoint ≡ true → grants rules a entry file execute ≡ true → (grants rules a a process setexec || is_default rules a b entry) ≡ true → is_entry rules a b entry ≡ true
unfolding is_entry
entry_from rules a b entry point may leads =
    and_from (grants rules b entry file entrypoint && grants rules a entry file execute) (grants rules a a process setexec || is_default rules a b entry) (and_from (grants rules b entry file entrypoint) (grants rules a entry file execute) point may) leads

-- where the type may not ask, it starts from there by default
pub entry_default : (rules : Counted) (a b entry : ℕ) → grants rules a a process setexec ≡ false → (grants rules a a process setexec || is_default rules a b entry) ≡ true → is_default rules a b entry ≡ true
entry_default rules a b entry never leads = elim (or_cases (grants rules a a process setexec) (is_default rules a b entry) leads) [
  | inl asks ↦ absurd (false≢true (sym never ∙ asks))
  | inr d ↦ d
]

-- ---- all entries

-- the entry points of a domain that a type may execute, found from the domain
pub points_executed : (rules : Counted) (a b : ℕ) (points : List ℕ) → points ≡ targets_from rules.policy (granting_rules rules file entrypoint) b → filter (any_joins rules.policy (granting_rules rules file execute) a) points ≡ executable_points rules a b
unfolding targets_from executable_points
points_executed rules a b points is =
    let may = any_joins rules.policy (granting_rules rules file execute) a in
    let point = any_joins rules.policy (granting_rules rules file entrypoint) b in
    ap (filter may) is ∙ filter_twice point may (range_with_len 1 rules.policy.symbols.types.nprim)

-- and found from the type
pub executed_points : (rules : Counted) (a b : ℕ) (executable : List ℕ) → executable ≡ targets_from rules.policy (granting_rules rules file execute) a
    → filter (any_joins rules.policy (granting_rules rules file entrypoint) b) executable ≡ executable_points rules a b
unfolding targets_from executable_points
executed_points rules a b executable is =
    let may = any_joins rules.policy (granting_rules rules file execute) a in
    let point = any_joins rules.policy (granting_rules rules file entrypoint) b in
    let range = range_with_len 1 rules.policy.symbols.types.nprim in
    ap (filter point) is
    ∙ filter_twice may point range
    ∙ filter_agree (λ entry. may entry && point entry) (is_executable_point rules a b) range (λ k d lt. and_comm (may (get_or range k d)) (point (get_or range k d)))

turned : (start may point : Bool) → ((start && may) && point) ≡ ((point && may) && start)
turned true true true = refl
turned true true false = refl
turned true false true = refl
turned true false false = refl
turned false true true = refl
turned false true false = refl
turned false false true = refl
turned false false false = refl

-- the entry points from which a process starts the domain by default
pub points_started : (rules : Counted) (a b : ℕ) (starts executable : List ℕ) → starts ≡ starts_to rules a b → executable ≡ filter (any_joins rules.policy (granting_rules rules file execute) a) starts
    → filter (any_joins rules.policy (granting_rules rules file entrypoint) b) executable ≡ default_points rules a b
unfolding starts_to default_points
points_started rules a b starts executable starts_is is =
    let start = is_default rules a b in
    let may = any_joins rules.policy (granting_rules rules file execute) a in
    let point = any_joins rules.policy (granting_rules rules file entrypoint) b in
    let range = range_with_len 1 rules.policy.symbols.types.nprim in
    ap (filter point) (is ∙ ap (filter may) starts_is ∙ filter_twice start may range)
    ∙ filter_twice (λ entry. start entry && may entry) point range
    ∙ filter_agree (λ entry. (start entry && may entry) && point entry) (λ entry. is_executable_point rules a b entry && start entry) range (λ k d lt. turned (start (get_or range k d)) (may (get_or range k d)) (point (get_or range k d)))

-- where the type asks for the domain, each of them is an entry
pub entries_by_request : (rules : Counted) (a b : ℕ) → grants rules a a process setexec ≡ true → executable_points rules a b ≡ entries rules a b
unfolding is_entry executable_points
entries_by_request rules a b asks =
    let range = range_with_len 1 rules.policy.symbols.types.nprim in
    let point = is_executable_point rules a b in
    filter_agree point (is_entry rules a b) range
    (λ k d lt. let entry = get_or range k d in
    sym (ap (λ (t : Bool). point entry && (t || is_default rules a b entry)) asks ∙ and_ever (point entry)))

-- where it does not, only those from which it starts the domain
pub entries_by_default : (rules : Counted) (a b : ℕ) → grants rules a a process setexec ≡ false → default_points rules a b ≡ entries rules a b
unfolding is_entry default_points
entries_by_default rules a b never =
    let range = range_with_len 1 rules.policy.symbols.types.nprim in
    let point = is_executable_point rules a b in
    filter_agree (λ entry. point entry && is_default rules a b entry) (is_entry rules a b) range
    (λ k d lt. let entry = get_or range k d in
    sym (ap (λ (t : Bool). point entry && (t || is_default rules a b entry)) never))

-- ---- whether there are some

any_kept : (p : ℕ → Bool) (xs : List ℕ) → list_any p xs ≡ not (length (filter p xs) == 0)
any_kept p [] = refl
any_kept p (x ∷ xs) = go (p x) (any_kept p xs)
  where
    go : (b : Bool) → list_any p xs ≡ not (length (filter p xs) == 0) → (b || list_any p xs) ≡ not (length (cond b (x ∷ filter p xs) (filter p xs)) == 0)
    go true later = sym (ap not (not_so (length (x ∷ filter p xs) == 0) (λ e. omega (arith, eqb-true (length (x ∷ filter p xs)) 0 e))))
    go false later = later

-- where the type may change to the other, there is such a transition exactly where there is an entry
pub standard_allowed : (rules : Counted) (a b : ℕ) (found : List ℕ) → is_allowed rules a b ≡ true → found ≡ entries rules a b → (found ≡ (if is_standard rules a b then entries rules a b else [])) × (is_standard rules a b ≡ not (length found == 0))
unfolding is_standard
standard_allowed rules a b found allowed is =
    let some = any_kept (is_entry rules a b) (range_with_len 1 rules.policy.symbols.types.nprim) in
    let standard : (is_allowed rules a b && has_entry rules a b) ≡ not (length (entries rules a b) == 0) = ap (λ (t : Bool). t && has_entry rules a b) allowed ∙ some in
    (is ∙ own (entries rules a b) ∙ ap (λ (t : Bool). if t then entries rules a b else []) (sym standard), standard ∙ ap (λ (xs : List ℕ). not (length xs == 0)) (sym is))
  where
    own : (xs : List ℕ) → xs ≡ (if not (length xs == 0) then xs else [])
    own [] = refl
    own (x ∷ xs) = sym (ap (λ (t : Bool). if not t then x ∷ xs else []) (not_so (length (x ∷ xs) == 0) (λ e. omega (arith, eqb-true (length (x ∷ xs)) 0 e))))

-- such a transition is allowed to a type alone
pub allowed_type : (rules : Counted) (a b : ℕ) → is_allowed rules a b ≡ true → is_type_value rules.policy b ≡ true
allowed_type rules a b allowed =
    let two = (and_parts (are_two_types rules.policy a b) (grants rules a b process transition) allowed).0 in
    let types = (and_parts (is_type_value rules.policy a && is_type_value rules.policy b) (not (a == b)) two).0 in
    (and_parts (is_type_value rules.policy a) (is_type_value rules.policy b) types).1

pub standard_refused : (rules : Counted) (a b : ℕ) → is_allowed rules a b ≡ false → false ≡ is_standard rules a b
unfolding is_standard
standard_refused rules a b refused = sym (ap (λ (t : Bool). t && has_entry rules a b) refused)
