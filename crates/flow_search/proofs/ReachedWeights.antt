-- Weights that reach a least one.
use Rattle.std.proofs.Common.{◌≡◌, ℕ, suc, ◌≤◌, max, List, [], ◌∷◌, map, Option, Some, None, get_or, slice_get, Bool, true, false, ◌&&◌, ◌||◌, cond, leb, refl, sym, ap, subst, ◌∙◌, arith}
use Rattle.std.proofs.Math.Path.{fun_ext}
use Rattle.std.proofs.lemmas.Bool.{false≢true}
use Rattle.std.proofs.lemmas.Bool.Decides.{nat_tests}
use Rattle.std.proofs.lemmas.List.FromFn.{length-range_with_len}
use Rattle.std.specs.Prelude.{length}
use Rattle.std.specs.List.{All, Contains, filter, fold, list_any, range_with_len}
use Rattle.std.proofs.lemmas.List.Elements.{All-from_get_or, Contains-get_or}
use Rattle.walk_enum.proofs.Elements.{passes_filter}
use Rattle.pol_file.specs.declared.Parts.{Parts}
use Rattle.pol_symbols.specs.declared.Symbols.{Symbols}
use Rattle.pol_read.specs.declared.RuleKind.{RuleKind}
use Rattle.pol_read.specs.declared.RuleKind.TheVariants.{Allow, Auditallow, Dontaudit, AllowXperm, AuditallowXperm, DontauditXperm, TypeTransition, TypeChange, TypeMember, RoleAllow, RoleTransition, RangeTransition}
use Rattle.pol_read.specs.declared.RulePart.{RulePart}
use Rattle.pol_read.specs.StoredRules.{StoredRule, stored_rules}
use Rattle.counted_rules.specs.CountedRules.{Counted}
use Rattle.pol_expand.specs.JoinedTypes.{has_type_ends, is_between_types, joins, passes}
use Rattle.pol_expand.specs.PlainTypes.{are_two_types}
use Rattle.perm_map.specs.declared.Direction.{Direction}
use Rattle.perm_map.specs.PermissionMap.{Weights}
use Rattle.flow_search.specs.FlowWeights.{greatest, inwards, outwards, part_weight, rule_weight}
use Rattle.flow_search.specs.Flows.{counted_numbers, flow_weight, given_by, gives_least, is_counted, weight_found, weight_of_rule}
use Rattle.flow_search.specs.Inner.FlowParts.{any_flow, reaches, rules_reaching}
use Rattle.flow_search.proofs.TestOrders.{split_tests}

-- ---- numbers

pub le_max : (w a b : ℕ) → leb w (max a b) ≡ (leb w a || leb w b)
le_max w a b = grind (arith, nat_tests)

pub not_le_zero : (w : ℕ) → 1 ≤ w → leb w 0 ≡ false
not_le_zero w some = grind (arith, nat_tests)

pub le_where : (w : ℕ) (test : Bool) (x : ℕ) → 1 ≤ w → leb w (cond test x 0) ≡ (test && leb w x)
le_where w true x some = refl
le_where w false x some = not_le_zero w some

or_assoc : (a b c : Bool) → ((a || b) || c) ≡ (a || (b || c))
or_assoc true b c = refl
or_assoc false b c = refl

le_fold : (w a : ℕ) (xs : List ℕ) → leb w (fold max a xs) ≡ (leb w a || list_any (leb w) xs)
le_fold w a [] = by (leb w a)
  where
    by : (test : Bool) → test ≡ (test || false)
    by true = refl
    by false = refl
le_fold w a (x ∷ xs) = le_fold w (max a x) xs ∙ ap (λ (test : Bool). test || list_any (leb w) xs) (le_max w a x) ∙ or_assoc (leb w a) (leb w x) (list_any (leb w) xs)

-- the greatest reaches a weight where one of the numbers does
pub greatest_reaches : (w : ℕ) (xs : List ℕ) → 1 ≤ w → leb w (greatest xs) ≡ list_any (leb w) xs
greatest_reaches w xs some = le_fold w 0 xs ∙ ap (λ (test : Bool). test || list_any (leb w) xs) (not_le_zero w some)

pub any_map : (g : ℕ → ℕ) (test : ℕ → Bool) (xs : List ℕ) → list_any test (map g xs) ≡ list_any (λ x. test (g x)) xs
any_map g test [] = refl
any_map g test (x ∷ xs) = ap (λ (rest : Bool). test (g x) || rest) (any_map g test xs)

-- ---- rules

any_where : (j : ℕ → Bool) (x : ℕ) (xs : List ℕ) (test : Bool) → list_any j (cond test (x ∷ xs) xs) ≡ cond test (j x || list_any j xs) (list_any j xs)
any_where j x xs true = refl
any_where j x xs false = refl

-- some number passes two tests, or two others
any_split : (j p k q : ℕ → Bool) (xs : List ℕ) → list_any (λ n. (j n && p n) || (k n && q n)) xs ≡ (list_any j (filter p xs) || list_any k (filter q xs))
any_split j p k q [] = refl
any_split j p k q (x ∷ xs) =
    let left = any_where j x (filter p xs) (p x) in
    let right = any_where k x (filter q xs) (q x) in
    ap (λ (rest : Bool). ((j x && p x) || (k x && q x)) || rest) (any_split j p k q xs)
    ∙ split_tests (j x) (p x) (k x) (q x) (list_any j (filter p xs)) (list_any k (filter q xs))
    ∙ sym (ap (λ (test : Bool). test || list_any k (cond (q x) (x ∷ filter q xs) (filter q xs))) left
    ∙ ap (λ (test : Bool). cond (p x) (j x || list_any j (filter p xs)) (list_any j (filter p xs)) || test) right)

-- what a rule gives reaches a weight where it does one way or the other
pub given_reaches : (weights : Weights) (policy : Parts) (least from to number : ℕ) → 1 ≤ least → gives_least weights policy least from to number ≡ ((joins policy from to number && reaches outwards weights policy least number) || (joins policy to from number && reaches inwards weights policy least number))
unfolding given_by
given_reaches weights policy least from to number some =
    let out = weight_of_rule outwards weights policy number in
    let into = weight_of_rule inwards weights policy number in
    let ahead = joins policy from to number in
    let back = joins policy to from number in
    le_max least (cond ahead out 0) (cond back into 0)
    ∙ ap (λ (test : Bool). test || leb least (cond back into 0)) (le_where least ahead out some)
    ∙ ap (λ (test : Bool). (ahead && leb least out) || test) (le_where least back into some)

pub any_given : (weights : Weights) (rules : Counted) (least from to : ℕ) → 1 ≤ least → list_any (gives_least weights rules.policy least from to) (counted_numbers rules) ≡ any_flow weights rules least from to
unfolding any_flow rules_reaching
any_given weights rules least from to some =
    ap (λ (test : ℕ → Bool). list_any test (counted_numbers rules)) (fun_ext (λ number. given_reaches weights rules.policy least from to number some))
    ∙ any_split (joins rules.policy from to) (reaches outwards weights rules.policy least) (joins rules.policy to from) (reaches inwards weights rules.policy least) (counted_numbers rules)

-- a flow reaches a weight where it is between two types and some rule gives it
pub flow_reaches : (weights : Weights) (rules : Counted) (least from to : ℕ) → 1 ≤ least → leb least (flow_weight weights rules from to) ≡ (are_two_types rules.policy from to && any_flow weights rules least from to)
unfolding flow_weight
flow_reaches weights rules least from to some =
    let given = map (given_by weights rules.policy from to) (counted_numbers rules) in
    le_where least (are_two_types rules.policy from to) (greatest given) some
    ∙ ap (λ (test : Bool). are_two_types rules.policy from to && test) (greatest_reaches least given some ∙ any_map (given_by weights rules.policy from to) (leb least) (counted_numbers rules) ∙ any_given weights rules least from to some)

-- ---- which rules reach a weight

typed : (way : Direction → ℕ → ℕ) (weights : Weights) (symbols : Symbols) (class : ℕ) (kind : RuleKind) (part : RulePart) (least : ℕ) → 1 ≤ least → leb least (part_weight way weights symbols class kind part) ≡ true → has_type_ends kind ≡ true
typed way weights symbols class RoleAllow part least some h = absurd (false≢true (sym (not_le_zero least some) ∙ h))
typed way weights symbols class RoleTransition part least some h = absurd (false≢true (sym (not_le_zero least some) ∙ h))
typed way weights symbols class Allow part least some h = refl
typed way weights symbols class Auditallow part least some h = refl
typed way weights symbols class Dontaudit part least some h = refl
typed way weights symbols class AllowXperm part least some h = refl
typed way weights symbols class AuditallowXperm part least some h = refl
typed way weights symbols class DontauditXperm part least some h = refl
typed way weights symbols class TypeTransition part least some h = refl
typed way weights symbols class TypeChange part least some h = refl
typed way weights symbols class TypeMember part least some h = refl
typed way weights symbols class RangeTransition part least some h = refl

-- the ends of a rule that does are types and attributes
pub reached_types : (way : Direction → ℕ → ℕ) (weights : Weights) (symbols : Symbols) (least : ℕ) (rule : StoredRule) → 1 ≤ least → leb least (rule_weight way weights symbols rule) ≡ true → has_type_ends rule.kind ≡ true
unfolding rule_weight
reached_types way weights symbols least rule some h = typed way weights symbols rule.class rule.kind rule.part least some h

kept_short : (p : ℕ → Bool) (xs : List ℕ) → length (filter p xs) ≤ length xs
kept_short p [] = omega arith
kept_short p (x ∷ xs) = by (p x) (kept_short p xs)
  where
    by : (test : Bool) → length (filter p xs) ≤ length xs → length (cond test (x ∷ filter p xs) (filter p xs)) ≤ suc (length xs)
    by true h = omega arith
    by false h = omega arith

-- there are no more than stored rules
pub reaching_few : (way : Direction → ℕ → ℕ) (weights : Weights) (rules : Counted) (least : ℕ) (numbers : List ℕ) → numbers ≡ rules_reaching way weights rules least → length numbers ≤ length (stored_rules rules.policy)
unfolding rules_reaching
reaching_few way weights rules least numbers is =
    let all = range_with_len 0 (length (stored_rules rules.policy)) in
    let kept = kept_short (reaches way weights rules.policy least) (counted_numbers rules) in
    let counted = kept_short (is_counted rules) all in
    omega (arith, ap (length {A = ℕ}) is, kept, counted, length-range_with_len 0 (length (stored_rules rules.policy)))

-- the ends of each are types and attributes
pub reaching_between : (way : Direction → ℕ → ℕ) (weights : Weights) (rules : Counted) (least : ℕ) (numbers : List ℕ) → 1 ≤ least → numbers ≡ rules_reaching way weights rules least → All (λ number. is_between_types rules.policy number ≡ true) numbers
unfolding rules_reaching weight_of_rule
reaching_between way weights rules least numbers some is = All-from_get_or (λ number. is_between_types rules.policy number ≡ true) numbers 0 λ k lt.
    let number = get_or numbers k 0 in
    let there = subst (λ (xs : List ℕ). Contains xs number) is (Contains-get_or numbers k 0 lt) in
    by (slice_get (stored_rules rules.policy) number) (passes_filter (reaches way weights rules.policy least) (counted_numbers rules) number there)
  where
    by : (o : Option StoredRule) → leb least (weight_found way weights rules.policy o) ≡ true → passes (λ rule. has_type_ends rule.kind) o ≡ true
    by None h = absurd (false≢true (sym (not_le_zero least some) ∙ h))
    by (Some rule) h = reached_types way weights rules.policy.symbols least rule some h
