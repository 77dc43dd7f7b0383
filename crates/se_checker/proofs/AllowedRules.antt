-- The allow rules of each class, rule by rule.
use Rattle.std.proofs.Common.{◌≡◌, ◌≢◌, ℕ, ◌+◌, ◌<◌, Bool, cond, List, [], ◌∷◌, ◌++◌, Option, Some, None, Result, Ok, Err, OnOk, length, set, slice_get, inl, inr, refl, sym, ap, ◌∙◌, append-nil, arith}
use Rattle.std.specs.Prelude.{◌==◌, slice_index_or, unwrap_or}
use Rattle.std.specs.List.{filter, range_with_len}
use Rattle.std.proofs.lemmas.Bool.{cases_eq, eq-eqb, ne_eqb}
use Rattle.std.proofs.lemmas.List.{get_or-set_same, get_or-set_other, length-set, map_push}
use Rattle.std.proofs.lemmas.List.Elements.{All-nil, All-push}
use Rattle.pol_cursor.proofs.Ranges.{filter_range_one}
use Rattle.pol_fields.specs.declared.TableKind.TheVariants.{Classes}
use Rattle.pol_symbols.specs.PolicySymbols.{index_in}
use Rattle.pol_file.specs.declared.Parts.{Parts}
use Rattle.pol_read.specs.StoredRules.{StoredRule, stored_rules}
use Rattle.se_checker.specs.declared.allow_rules.AllowRule.{AllowRule}
use Rattle.se_checker.specs.Verdicts.{allow_mask}
use Rattle.se_checker.specs.Inner.AllowRules.{AreAllowed, AreOfClass, IsAllowRule, class_place, place_found, place_given, rules_in}

-- ---- the class of a rule

pub place_where : (policy : Parts) (n : ℕ) (rule : StoredRule) (mask place : ℕ) → slice_get (stored_rules policy) n ≡ Some rule → allow_mask rule.kind rule.part ≡ Some mask → index_in policy.symbols Classes rule.class ≡ Some place → class_place policy n ≡ place
unfolding class_place
place_where policy n rule mask place at given is =
    let past = length policy.symbols.classes.records in
    ap (place_found policy.symbols) at
    ∙ ap (λ (mask : Option ℕ). place_given mask (index_in policy.symbols Classes rule.class) past) given
    ∙ ap (λ (place : Option ℕ). unwrap_or place past) is

-- a rule that is no allow rule has none
pub no_mask : (policy : Parts) (n : ℕ) (rule : StoredRule) → slice_get (stored_rules policy) n ≡ Some rule → allow_mask rule.kind rule.part ≡ None → class_place policy n ≡ length policy.symbols.classes.records
unfolding class_place
no_mask policy n rule at given =
    ap (place_found policy.symbols) at ∙ ap (λ (mask : Option ℕ). place_given mask (index_in policy.symbols Classes rule.class) (length policy.symbols.classes.records)) given

-- nor has one of a class that the policy lacks
pub no_class : (policy : Parts) (n : ℕ) (rule : StoredRule) (mask : ℕ) → slice_get (stored_rules policy) n ≡ Some rule → allow_mask rule.kind rule.part ≡ Some mask → index_in policy.symbols Classes rule.class ≡ None → class_place policy n ≡ length policy.symbols.classes.records
unfolding class_place
no_class policy n rule mask at given is =
    let past = length policy.symbols.classes.records in
    ap (place_found policy.symbols) at
    ∙ ap (λ (mask : Option ℕ). place_given mask (index_in policy.symbols Classes rule.class) past) given
    ∙ ap (λ (place : Option ℕ). unwrap_or place past) is

-- ---- one rule more

other_class : (policy : Parts) (n place : ℕ) → class_place policy n ≢ place → filter (λ number. class_place policy number == place) (range_with_len 0 (n + 1)) ≡ filter (λ number. class_place policy number == place) (range_with_len 0 n)
other_class policy n place other =
    let p = λ (number : ℕ). class_place policy number == place in
    filter_range_one p 0 n n (omega arith)
    ∙ ap (λ (b : Bool). filter p (range_with_len 0 n) ++ cond b (n ∷ []) []) (ne_eqb (class_place policy n) place other)
    ∙ append-nil (filter p (range_with_len 0 n))

same_class : (policy : Parts) (n place : ℕ) → class_place policy n ≡ place → filter (λ number. class_place policy number == place) (range_with_len 0 (n + 1)) ≡ filter (λ number. class_place policy number == place) (range_with_len 0 n) ++ n ∷ []
same_class policy n place is =
    let p = λ (number : ℕ). class_place policy number == place in
    filter_range_one p 0 n n (omega arith) ∙ ap (λ (b : Bool). filter p (range_with_len 0 n) ++ cond b (n ∷ []) []) (eq-eqb (class_place policy n) place is)

kept_class : (policy : Parts) (n place : ℕ) (rules : List AllowRule) → class_place policy n ≢ place → AreOfClass policy n place rules → AreOfClass policy (n + 1) place rules
kept_class policy n place rules other are = record { numbers = are.numbers ∙ sym (other_class policy n place other); are = are.are }

gained_class : (policy : Parts) (place : ℕ) (rules : List AllowRule) (rule : AllowRule) → class_place policy rule.number ≡ place → IsAllowRule policy place rule → AreOfClass policy rule.number place rules → AreOfClass policy (rule.number + 1) place (rules ++ rule ∷ [])
gained_class policy place rules rule is allowed are = record {
  numbers = map_push (λ (r : AllowRule). r.number) rules rule ∙ ap (λ (ns : List ℕ). ns ++ rule.number ∷ []) are.numbers ∙ sym (same_class policy rule.number place is);
  are = All-push (IsAllowRule policy place) rules rule are.are allowed;
}

-- a rule of no class
pub none_added : (policy : Parts) (n : ℕ) (classes : List (List AllowRule)) → class_place policy n ≡ length policy.symbols.classes.records → AreAllowed policy n classes → AreAllowed policy (n + 1) classes
none_added policy n classes past are = record {
  long = are.long;
  each = λ place lt. kept_class policy n place (rules_in classes place) (λ e. omega (arith, e, past, lt, are.long)) (are.each place lt);
}

-- an allow rule of a class
pub one_added : (policy : Parts) (classes new : List (List AllowRule)) (place : ℕ) (rule : AllowRule) → place < length classes → class_place policy rule.number ≡ place → IsAllowRule policy place rule
    → new ≡ set classes place (rules_in classes place ++ rule ∷ []) → AreAllowed policy rule.number classes → AreAllowed policy (rule.number + 1) new
one_added policy classes new place rule lt is allowed added are = rw added (record {
  long = length-set classes place (rules_in classes place ++ rule ∷ []) ∙ are.long;
  each = λ other under. let within : other < length classes = omega (arith, under, length-set classes place (rules_in classes place ++ rule ∷ [])) in
      elim (cases_eq other place) [
        | inl same ↦
            rw (same, get_or-set_same classes place (rules_in classes place ++ rule ∷ []) [] lt) (gained_class policy place (rules_in classes place) rule is allowed (are.each place lt))
        | inr apart ↦
            rw (get_or-set_other classes place other (rules_in classes place ++ rule ∷ []) [] apart) (kept_class policy rule.number other (rules_in classes other) (λ e. apart (sym e ∙ is)) (are.each other within))
      ];
})

-- ---- no rule yet

pub nothing_allowed : (policy : Parts) (classes : List (List AllowRule)) → length classes ≡ length policy.symbols.classes.records → ((place : ℕ) → slice_index_or classes place [] ≡ []) → AreAllowed policy 0 classes
nothing_allowed policy classes long empty = record {
  long = long;
  each = λ place lt. rw (empty place) (record { numbers = refl; are = All-nil (IsAllowRule policy place) });
}

-- ---- as they are gathered

pub gathered : {T E : Type 0} (policy : Parts) (n place mask : ℕ) (rule : StoredRule) (allowed : AllowRule) (classes : List (List AllowRule)) (old new : List AllowRule) (result : Result T E) → slice_get (stored_rules policy) n ≡ Some rule → allow_mask rule.kind rule.part ≡ Some mask
    → index_in policy.symbols Classes rule.class ≡ Some place → place < length classes → allowed ≡ record { number = n; source = rule.source; target = rule.target; mask = mask } → old ≡ rules_in classes place → AreAllowed policy n classes
    → OnOk result (new ≡ old ++ allowed ∷ []) → OnOk result (AreAllowed policy (n + 1) (set classes place new))
gathered policy n place mask rule allowed classes old new (Ok u) at given is lt made was are added =
    let one : AllowRule = record { number = n; source = rule.source; target = rule.target; mask = mask } in
    one_added policy classes (set classes place new) place one lt (place_where policy n rule mask place at given is) (record { rule = rule; at = at; given = given; source = refl; target = refl; class = is })
    (ap (set classes place) (added ∙ ap (λ (xs : List AllowRule). xs ++ allowed ∷ []) was ∙ ap (λ (r : AllowRule). rules_in classes place ++ r ∷ []) made)) are
gathered policy n place mask rule allowed classes old new (Err e) at given is lt made was are added = tt
