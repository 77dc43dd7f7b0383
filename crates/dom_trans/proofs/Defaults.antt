-- The rules that set the default domain of a process.
use Rattle.std.proofs.Common.{◌≡◌, ℕ, ◌+◌, ◌<◌, ◌≤◌, Bool, true, false, cond, List, [], ◌∷◌, ◌++◌, Option, Some, None, length, get_or, slice_get, refl, sym, ap, subst, ◌∙◌, arith}
use Rattle.std.specs.Prelude.{◌==◌, ◌&&◌, ◌||◌, ◌↔◌, option_and_then}
use Rattle.std.specs.Bool.{IsTrue}
use Rattle.std.specs.List.{All, Contains, filter, fold, list_any, range_with_len}
use Rattle.std.specs.List.Sorted.{IsPermutation}
use Rattle.std.proofs.lemmas.Bool.{and_parts, and_from, eqb-true}
use Rattle.std.proofs.lemmas.List.Elements.{All-contains, All-contains_itself, All-filter, All-weaker, Contains-append_left, Contains-append_right}
use Rattle.std.proofs.lemmas.List.Folds.{list_any-append}
use Rattle.std.proofs.lemmas.List.Sorted.{IsPermutation-sym, IsPermutation-trans}
use Rattle.pol_bitmap.specs.Sets.{IsCommon, ShareBit}
use Rattle.pol_bitmap.proofs.Elements.{kept, keeps, contains_range, range_holds}
use Rattle.pol_expand.proofs.Values.{same_tests}
use Rattle.pol_fields.specs.declared.TableKind.TheVariants.{Classes}
use Rattle.pol_symbols.specs.PolicySymbols.{value_in}
use Rattle.pol_file.specs.declared.Parts.{Parts}
use Rattle.pol_read.specs.declared.RulePart.{RulePart}
use Rattle.pol_read.specs.declared.RulePart.TheVariants.{Default}
use Rattle.pol_read.specs.StoredRules.{StoredRule, stored_rules}
use Rattle.rule_order.specs.ListedOrder.{AreRules, is_listed_before, ordered_by, with_number}
use Rattle.counted_rules.specs.CountedRules.{Counted}
use Rattle.rules_between.specs.ChosenRules.{AreRulesFrom, begins_at, ends_at, targets_of_rules}
use Rattle.pol_expand.specs.JoinedTypes.{any_joins, is_between_types, joins, passes, rule_passes, targets_from}
use Rattle.pol_expand.specs.PlainTypes.{is_type_value}
use Rattle.value_groups.proofs.Anys.{any_agree, any_gives, any_from, filter_agree, or_assoc, or_false}
use Rattle.rules_between.proofs.ByOneEnd.{from_each, joins_by_ends}
use Rattle.rule_grants.specs.Grants.{counts_and, rules_that, granting_rules, grants}
use Rattle.rule_grants.specs.Names.{process, file, entrypoint}
use Rattle.dom_trans.specs.DefaultRules.{sets_default, default_rules, has_default, part_has_default}
use Rattle.dom_trans.specs.Transitions.{is_default}
use Rattle.dom_trans.specs.Inner.EntryPoints.{AreDefaultsFrom}
use Rattle.dom_trans.specs.Inner.RuleLists.{HaveTypeEnds, rules_to}
use Rattle.dom_trans.specs.Inner.Targets.{AreTypeValues, HaveDefaultOf, default_set_by, enters_by, is_found, part_sets, starts_at_point, starts_to}
use Rattle.dom_trans.proofs.Keeps.{filter_short}

-- the default of a stored rule
pub default_of : (policy : Parts) (value number : ℕ) (rule : StoredRule) → slice_get (stored_rules policy) number ≡ Some rule → part_has_default value rule.part ≡ has_default policy value number
unfolding has_default
default_of policy value number rule at = sym (ap (passes (λ (r : StoredRule). part_has_default value r.part)) at)

pub not_so : (b : Bool) → (b ≡ true → ⊥) → b ≡ false
not_so true h = absurd (h refl)
not_so false h = refl

default_rule_below : (rules : Counted) (number : ℕ) → Contains (default_rules rules) number → number < length (stored_rules rules.policy)
unfolding rules_that
default_rule_below rules number there =
    let count = length (stored_rules rules.policy) in
    let h = kept (rule_passes rules.policy (counts_and rules (sets_default (value_in rules.policy.symbols Classes process)))) (range_with_len 0 count) number there in
    let w = All-contains (λ (b : ℕ). (0 ≤ b) × (b < 0 + count)) (range_with_len 0 count) number (range_holds 0 count) h.0 in
    omega (arith, w.1)

pub defaults_are_rules : (rules : Counted) → AreRules rules.policy (default_rules rules)
defaults_are_rules rules = All-weaker (Contains (default_rules rules)) (λ (n : ℕ). n < length (stored_rules rules.policy)) (λ n h. default_rule_below rules n h) (default_rules rules) (All-contains_itself (default_rules rules))

pub from_are_rules : (rules : Counted) (a : ℕ) (numbers : List ℕ) → AreRulesFrom rules.policy (default_rules rules) a numbers → AreRules rules.policy numbers
from_are_rules rules a numbers from = All-weaker (Contains numbers) (λ (n : ℕ). n < length (stored_rules rules.policy)) (λ n h. default_rule_below rules n ((from_each rules.policy (default_rules rules) a numbers n from).0 h).0) numbers (All-contains_itself numbers)

pub from_are_defaults : (rules : Counted) (a : ℕ) (numbers : List ℕ) → AreRulesFrom rules.policy (default_rules rules) a numbers → All (Contains (default_rules rules)) numbers
from_are_defaults rules a numbers from = All-weaker (Contains numbers) (Contains (default_rules rules)) (λ n h. ((from_each rules.policy (default_rules rules) a numbers n from).0 h).0) numbers (All-contains_itself numbers)

-- ---- whether some number passes a test, in any order

swap : (a b c : Bool) → (a || (b || c)) ≡ (b || (a || c))
swap true true c = refl
swap true false c = refl
swap false b c = refl

any_put : (p : ℕ → Bool) (before : ℕ → ℕ → Bool) (x : ℕ) (ys : List ℕ) → list_any p (with_number before x ys) ≡ (p x || list_any p ys)
any_put p before x [] = refl
any_put p before x (y ∷ ys) = go (before y x) (any_put p before x ys)
  where
    go : (b : Bool) → list_any p (with_number before x ys) ≡ (p x || list_any p ys) → list_any p (cond b (y ∷ with_number before x ys) (x ∷ y ∷ ys)) ≡ (p x || (p y || list_any p ys))
    go true later = ap (λ (b : Bool). p y || b) later ∙ swap (p y) (p x) (list_any p ys)
    go false later = refl

any_fold : (p : ℕ → Bool) (before : ℕ → ℕ → Bool) (done xs : List ℕ) → list_any p (fold (λ sorted number. with_number before number sorted) done xs) ≡ (list_any p done || list_any p xs)
any_fold p before done [] = sym (or_false (list_any p done))
any_fold p before done (x ∷ xs) =
    any_fold p before (with_number before x done) xs ∙ ap (λ (b : Bool). b || list_any p xs) (any_put p before x done) ∙ or_assoc (p x) (list_any p done) (list_any p xs) ∙ swap (p x) (list_any p done) (list_any p xs)

pub any_ordered : (p : ℕ → Bool) (before : ℕ → ℕ → Bool) (xs : List ℕ) → list_any p (ordered_by before xs) ≡ list_any p xs
unfolding ordered_by
any_ordered p before xs = any_fold p before [] xs

-- ---- the default domain

-- A rule makes the one type the default domain of a process that the other starts from an entry type.
pub record StartsBy (rules : Counted) (a b entry : ℕ) : Type 0 where
  pub number : ℕ
  pub is : Contains (default_rules rules) number
  pub begins : begins_at rules.policy a number ≡ true
  pub ends : ends_at rules.policy entry number ≡ true
  pub default : has_default rules.policy b number ≡ true

pub default_rule : (rules : Counted) (a b entry : ℕ) → is_default rules a b entry ≡ true → StartsBy rules a b entry
default_rule rules a b entry e =
    let joining = filter (joins rules.policy a entry) (default_rules rules) in
    let f = any_gives (has_default rules.policy b) joining (sym (any_ordered (has_default rules.policy b) (is_listed_before rules.policy) joining) ∙ e) in
    let k = kept (joins rules.policy a entry) (default_rules rules) f.0 f.1 in
    let parts = and_parts (begins_at rules.policy a f.0) (ends_at rules.policy entry f.0) (sym (joins_by_ends rules.policy a entry f.0) ∙ k.1) in
    record { number = f.0; is = k.0; begins = parts.0; ends = parts.1; default = f.2 }

pub rule_default : (rules : Counted) (a b entry : ℕ) → StartsBy rules a b entry → is_default rules a b entry ≡ true
rule_default rules a b entry s =
    let joining = filter (joins rules.policy a entry) (default_rules rules) in
    let there = keeps (joins rules.policy a entry) (default_rules rules) s.number s.is (joins_by_ends rules.policy a entry s.number ∙ and_from (begins_at rules.policy a s.number) (ends_at rules.policy entry s.number) s.begins s.ends) in
    any_ordered (has_default rules.policy b) (is_listed_before rules.policy) joining ∙ any_from (has_default rules.policy b) joining s.number there s.default

-- the types from which a process starts, by the rules that set its default domain
pub starts_are : (rules : Counted) (a b : ℕ) (found : List ℕ) → AreDefaultsFrom rules a b found → targets_of_rules rules.policy found ≡ starts_to rules a b
unfolding targets_of_rules starts_to
starts_are rules a b found are = filter_agree (λ type. list_any (ends_at rules.policy type) found) (is_default rules a b) range (λ k d lt. same (get_or range k d))
  where
    range : List ℕ
    range = range_with_len 1 rules.policy.symbols.types.nprim

    same : (entry : ℕ) → list_any (ends_at rules.policy entry) found ≡ is_default rules a b entry
    same entry = same_tests (list_any (ends_at rules.policy entry) found) (is_default rules a b entry)
        (λ t.
        let f = any_gives (ends_at rules.policy entry) found t in
        let r = (are.each f.0).0 f.1 in
        rule_default rules a b entry (record { number = f.0; is = r.0; begins = r.1; ends = f.2; default = r.2 }))
        (λ t.
        let s = default_rule rules a b entry t in
        any_from (ends_at rules.policy entry) found s.number ((are.each s.number).1 (s.is, s.begins, s.default)) s.ends)

-- they are rules of the list
pub from_the_list : (rules : Counted) (a b : ℕ) (found : List ℕ) → AreDefaultsFrom rules a b found → All (Contains (default_rules rules)) found
from_the_list rules a b found are = All-weaker (Contains found) (Contains (default_rules rules)) (λ n h. ((are.each n).0 h).0) found (All-contains_itself found)

-- they are found among those of the one type
pub defaults_by_source : (rules : Counted) (a b : ℕ) (numbers found : List ℕ) → AreRulesFrom rules.policy (default_rules rules) a numbers → found ≡ filter (has_default rules.policy b) numbers → AreDefaultsFrom rules a b found
defaults_by_source rules a b numbers found from is = record {
  each = λ number. (
    λ there.
        let k = kept (has_default rules.policy b) numbers number (subst (λ (xs : List ℕ). Contains xs number) is there) in
        let r = (from_each rules.policy (default_rules rules) a numbers number from).0 k.0 in
        (r.0, r.1, k.1),
    λ h. subst (λ (xs : List ℕ). Contains xs number) (sym is) (keeps (has_default rules.policy b) numbers number ((from_each rules.policy (default_rules rules) a numbers number from).1 (h.0, h.1)) h.2),
  );
}

-- or among those that set the other
pub defaults_by_target : (rules : Counted) (a b : ℕ) (numbers found : List ℕ) → numbers ≡ rules_to rules b → found ≡ filter (begins_at rules.policy a) numbers → AreDefaultsFrom rules a b found
defaults_by_target rules a b numbers found to is = record {
  each = λ number. (
    λ there.
        let k = kept (begins_at rules.policy a) numbers number (subst (λ (xs : List ℕ). Contains xs number) is there) in
        let r = kept (has_default rules.policy b) (default_rules rules) number (subst (λ (xs : List ℕ). Contains xs number) to k.0) in
        (r.0, k.1, r.1),
    λ h.
        let there = subst (λ (xs : List ℕ). Contains xs number) (sym to) (keeps (has_default rules.policy b) (default_rules rules) number h.0 h.2) in
        subst (λ (xs : List ℕ). Contains xs number) (sym is) (keeps (begins_at rules.policy a) numbers number there h.1),
  );
}

-- the rules to a domain are rules of the policy
pub to_are_rules : (rules : Counted) (b : ℕ) (numbers : List ℕ) → numbers ≡ rules_to rules b → AreRules rules.policy numbers
to_are_rules rules b numbers to = subst (AreRules rules.policy) (sym to) (All-filter (has_default rules.policy b) (λ (n : ℕ). n < length (stored_rules rules.policy)) (default_rules rules) (defaults_are_rules rules))

-- they are that in any order
pub sorted_from : (rules : Counted) (a : ℕ) (numbers sorted seen : List ℕ) → AreRulesFrom rules.policy (default_rules rules) a numbers → IsPermutation numbers sorted → seen ≡ sorted → AreRulesFrom rules.policy (default_rules rules) a seen
sorted_from rules a numbers sorted seen from same is =
    subst (AreRulesFrom rules.policy (default_rules rules) a) (sym is) (IsPermutation-trans sorted numbers (filter (begins_at rules.policy a) (default_rules rules)) (IsPermutation-sym numbers sorted same) from)

-- ---- a list in two parts

pub all_parts : (P : ℕ → Type 0) (front rest all : List ℕ) → front ++ rest ≡ all → All P all → All P front × All P rest
all_parts P front rest all whole holds = (
  All-weaker (Contains front) P (λ x h. All-contains P all x holds (subst (λ (xs : List ℕ). Contains xs x) whole (Contains-append_left front rest x h))) front (All-contains_itself front),
  All-weaker (Contains rest) P (λ x h. All-contains P all x holds (subst (λ (xs : List ℕ). Contains xs x) whole (Contains-append_right front rest x h))) rest (All-contains_itself rest),
)

-- what was added, and what is left
pub part_added : (p : ℕ → Bool) (front rest all : List ℕ) (old new : Bool) → front ++ rest ≡ all → new ≡ (old || list_any p front) → (new || list_any p rest) ≡ (old || list_any p all)
part_added p front rest all old new whole added =
    ap (λ (t : Bool). t || list_any p rest) added ∙ or_assoc old (list_any p front) (list_any p rest) ∙ ap (λ (t : Bool). old || t) (sym (list_any-append p front rest) ∙ ap (list_any p) whole)

pub nothing_left : (p : ℕ → Bool) (left : List ℕ) (now : Bool) → (length left == 0) ≡ true → now ≡ (now || list_any p left)
nothing_left p [] now e = sym (or_false now)
nothing_left p (x ∷ xs) now e = absurd (omega (arith, eqb-true (length (x ∷ xs)) 0 e))

-- ---- the rules that set one default

-- the rules that set a type as the default join one type to another where that is the default from there
pub default_by_rules : (rules : Counted) (a b entry : ℕ) → any_joins rules.policy (rules_to rules b) a entry ≡ true → is_default rules a b entry ≡ true
default_by_rules rules a b entry e =
    let f = any_gives (joins rules.policy a entry) (rules_to rules b) e in
    let k = kept (has_default rules.policy b) (default_rules rules) f.0 f.1 in
    let parts = and_parts (begins_at rules.policy a f.0) (ends_at rules.policy entry f.0) (sym (joins_by_ends rules.policy a entry f.0) ∙ f.2) in
    rule_default rules a b entry (record { number = f.0; is = k.0; begins = parts.0; ends = parts.1; default = k.1 })

pub rules_by_default : (rules : Counted) (a b entry : ℕ) → is_default rules a b entry ≡ true → any_joins rules.policy (rules_to rules b) a entry ≡ true
rules_by_default rules a b entry e =
    let s = default_rule rules a b entry e in
    any_from (joins rules.policy a entry) (rules_to rules b) s.number (keeps (has_default rules.policy b) (default_rules rules) s.number s.is s.default)
    (joins_by_ends rules.policy a entry s.number ∙ and_from (begins_at rules.policy a s.number) (ends_at rules.policy entry s.number) s.begins s.ends)

-- some of the rules of a list have types as ends, as all do
pub some_have_ends : (policy : Parts) (p : ℕ → Bool) (rules found : List ℕ) → HaveTypeEnds policy rules → found ≡ filter p rules → HaveTypeEnds policy found
some_have_ends policy p rules found have is = subst (HaveTypeEnds policy) (sym is) (record {
  types = All-filter p (λ number. is_between_types policy number ≡ true) rules have.types;
  few = omega (arith, have.few, filter_short p rules);
})

-- ---- rules of one default

-- a set of targets has those that the rules join a type to
pub in_targets_from : (policy : Parts) (rules : List ℕ) (x e : ℕ) (set : List ℕ) → set ≡ targets_from policy rules x → Contains set e ↔ (Contains (range_with_len 1 policy.symbols.types.nprim) e × (any_joins policy rules x e ≡ true))
unfolding targets_from
in_targets_from policy rules x e set is =
    let range = range_with_len 1 policy.symbols.types.nprim in
    (λ m. kept (any_joins policy rules x) range e (subst (λ (xs : List ℕ). Contains xs e) is m), λ h. subst (λ (xs : List ℕ). Contains xs e) (sym is) (keeps (any_joins policy rules x) range e h.0 h.1))

-- some of them starts a process from an entry point
pub point_met : (rules : Counted) (numbers : List ℕ) (b : ℕ) (types starts entries points : List ℕ) (met : Bool) → AreTypeValues rules.policy types → starts ≡ targets_of_rules rules.policy numbers → IsCommon starts types entries → points ≡ targets_from rules.policy (granting_rules rules file entrypoint) b
    → (IsTrue met ↔ ShareBit entries points) → met ≡ list_any (starts_at_point rules types b) numbers
unfolding targets_of_rules
point_met rules numbers b types starts entries points met within starts_is common points_is says =
    same_tests met (list_any (starts_at_point rules types b) numbers)
    (λ t.
    let share = says.0 t in
    let entry = share.bit in
    let parts = (common.each entry).0 share.left in
    let start = kept ends range entry (subst (λ (xs : List ℕ). Contains xs entry) starts_is parts.0) in
    let f = any_gives (ends_at rules.policy entry) numbers start.1 in
    let point = (in_targets_from rules.policy pointing b entry points points_is).0 share.right in
    any_from (starts_at_point rules types b) numbers f.0 f.1 (any_from (at_point f.0) types entry parts.1 (and_from (ends_at rules.policy entry f.0) (grants rules b entry file entrypoint) f.2 point.1)))
    (λ t.
    let f = any_gives (starts_at_point rules types b) numbers t in
    let g = any_gives (at_point f.0) types f.2 in
    let both = and_parts (ends_at rules.policy g.0 f.0) (grants rules b g.0 file entrypoint) g.2 in
    let w = All-contains (λ (value : ℕ). (1 ≤ value) × (value ≤ rules.policy.symbols.types.nprim)) types g.0 within g.1 in
    let there = contains_range 1 rules.policy.symbols.types.nprim g.0 w.0 (omega (arith, w.1)) in
    let start = subst (λ (xs : List ℕ). Contains xs g.0) (sym starts_is) (keeps ends range g.0 there (any_from (ends_at rules.policy g.0) numbers f.0 f.1 both.0)) in
    says.1 (record { bit = g.0; left = (common.each g.0).1 (start, g.1); right = (in_targets_from rules.policy pointing b g.0 points points_is).1 (there, both.1) }))
  where
    range : List ℕ
    range = range_with_len 1 rules.policy.symbols.types.nprim

    pointing : List ℕ
    pointing = granting_rules rules file entrypoint

    ends : ℕ → Bool
    ends type = list_any (ends_at rules.policy type) numbers

    at_point : ℕ → ℕ → Bool
    at_point number entry = ends_at rules.policy entry number && grants rules b entry file entrypoint

any_never : (xs : List ℕ) → list_any (λ x. false) xs ≡ false
any_never [] = refl
any_never (x ∷ xs) = any_never xs

any_and : (k : Bool) (p : ℕ → Bool) (xs : List ℕ) → list_any (λ x. k && p x) xs ≡ (k && list_any p xs)
any_and true p xs = refl
any_and false p xs = any_never xs

-- a rule sets the default that it has
pub default_is : (policy : Parts) (number : ℕ) (found : Option ℕ) (b : ℕ) → found ≡ default_set_by policy number → is_found found b ≡ has_default policy b number
unfolding has_default
default_is policy number found b e = ap (λ (o : Option ℕ). is_found o b) e ∙ go (slice_get (stored_rules policy) number)
  where
    of_part : (part : RulePart) → is_found (part_sets part) b ≡ part_has_default b part
    of_part (Default value) = refl
    of_part part = refl

    go : (o : Option StoredRule) → is_found (option_and_then (λ (rule : StoredRule). part_sets rule.part) o) b ≡ passes (λ (rule : StoredRule). part_has_default b rule.part) o
    go None = refl
    go (Some rule) = of_part rule.part

same_default : (policy : Parts) (number first b : ℕ) → default_set_by policy number ≡ default_set_by policy first → has_default policy b number ≡ has_default policy b first
same_default policy number first b e = sym (default_is policy number (default_set_by policy number) b refl) ∙ default_is policy first (default_set_by policy number) b e

-- whether some of them starts a domain is told by the default of the first
alike : (rules : Counted) (types numbers : List ℕ) (first c : ℕ) → HaveDefaultOf rules.policy first numbers → list_any (enters_by rules types c) numbers ≡ ((is_type_value rules.policy c && has_default rules.policy c first) && list_any (starts_at_point rules types c) numbers)
alike rules types numbers first c same =
    let test = is_type_value rules.policy c && has_default rules.policy c first in
    any_agree (enters_by rules types c) (λ number. test && starts_at_point rules types c number) numbers (λ k d lt. ap (λ (t : Bool). (is_type_value rules.policy c && t) && starts_at_point rules types c (get_or numbers k d)) (same_default rules.policy (get_or numbers k d) first c (same k d lt)))
    ∙ any_and test (starts_at_point rules types c) numbers

pub and_ever : (b : Bool) → (b && true) ≡ b
and_ever true = refl
and_ever false = refl

and_never : (b : Bool) → (b && false) ≡ false
and_never true = refl
and_never false = refl

or_nothing : (old : Bool) (t : Bool) → t ≡ false → old ≡ (old || t)
or_nothing old t e = sym (ap (λ (b : Bool). old || b) e ∙ or_false old)

-- rules with no default start none
pub none_starts : (rules : Counted) (types numbers : List ℕ) (first c : ℕ) (old : Bool) → HaveDefaultOf rules.policy first numbers → has_default rules.policy c first ≡ false → old ≡ (old || list_any (enters_by rules types c) numbers)
none_starts rules types numbers first c old same none =
    or_nothing old (list_any (enters_by rules types c) numbers)
    (alike rules types numbers first c same ∙ ap (λ (t : Bool). (is_type_value rules.policy c && t) && list_any (starts_at_point rules types c) numbers) none ∙ ap (λ (t : Bool). t && list_any (starts_at_point rules types c) numbers) (and_never (is_type_value rules.policy c)))

-- the default, where it is a type that they start from an entry point
abbrev pub is_started : Counted → List ℕ → List ℕ → ℕ → Bool
is_started rules types numbers b = is_type_value rules.policy b && list_any (starts_at_point rules types b) numbers

default_starts : (rules : Counted) (types numbers : List ℕ) (first b c : ℕ) (started : Bool) → HaveDefaultOf rules.policy first numbers → (b == c) ≡ has_default rules.policy c first → is_started rules types numbers b ≡ started
    → list_any (enters_by rules types c) numbers ≡ ((b == c) && started)
default_starts rules types numbers first b c started same default is =
    alike rules types numbers first c same
    ∙ ap (λ (t : Bool). (is_type_value rules.policy c && t) && list_any (starts_at_point rules types c) numbers) (sym default)
    ∙ one (b == c) (λ e. ap (is_started rules types numbers) (sym (eqb-true b c e)) ∙ is)
  where
    one : (t : Bool) → (t ≡ true → is_started rules types numbers c ≡ started) → ((is_type_value rules.policy c && t) && list_any (starts_at_point rules types c) numbers) ≡ (t && started)
    one true h = ap (λ (t : Bool). t && list_any (starts_at_point rules types c) numbers) (and_ever (is_type_value rules.policy c)) ∙ h refl
    one false h = ap (λ (t : Bool). t && list_any (starts_at_point rules types c) numbers) (and_never (is_type_value rules.policy c))

pub one_starts : (rules : Counted) (types numbers : List ℕ) (first b c : ℕ) (old : Bool) → HaveDefaultOf rules.policy first numbers → (b == c) ≡ has_default rules.policy c first → is_started rules types numbers b ≡ true
    → (old || (b == c)) ≡ (old || list_any (enters_by rules types c) numbers)
one_starts rules types numbers first b c old same default is = ap (λ (t : Bool). old || t) (sym (default_starts rules types numbers first b c true same default is ∙ and_ever (b == c)))

pub no_start : (rules : Counted) (types numbers : List ℕ) (first b c : ℕ) (old : Bool) → HaveDefaultOf rules.policy first numbers → (b == c) ≡ has_default rules.policy c first → is_started rules types numbers b ≡ false
    → old ≡ (old || list_any (enters_by rules types c) numbers)
no_start rules types numbers first b c old same default is = or_nothing old (list_any (enters_by rules types c) numbers) (default_starts rules types numbers first b c false same default is ∙ and_never (b == c))
