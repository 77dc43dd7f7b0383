-- The rules that are kept, as one pass over all rules finds them.
use Rattle.std.proofs.Common.{◌≡◌, ℕ, ◌+◌, ◌<◌, ◌≤◌, ◌^◌, Bool, true, false, cond, List, [], ◌∷◌, ◌++◌, Option, Some, None, Result, Ok, Err, append-nil, length, slice_get, refl, sym, ap, subst, ◌∙◌, arith}
use Rattle.std.specs.Prelude.{◌==◌, ◌&&◌, option_map, OnOk}
use Rattle.std.specs.List.{All, filter, range_with_len}
use Rattle.std.proofs.lemmas.Bool.{and_parts, false≢true, or_parts}
use Rattle.std.proofs.lemmas.List.Elements.{All-weaker, filter_passes}
use Rattle.std.proofs.lemmas.List.FromFn.{length-range_with_len}
use Rattle.pol_fields.specs.declared.TableKind.TheVariants.{Classes}
use Rattle.pol_commons.specs.Permissions.{mask_has}
use Rattle.pol_symbols.specs.declared.Symbols.{Symbols}
use Rattle.pol_symbols.specs.PolicySymbols.{value_in, permission_value_in}
use Rattle.pol_read.specs.declared.RuleKind.{RuleKind}
use Rattle.pol_read.specs.declared.RuleKind.TheVariants.{Allow, TypeTransition}
use Rattle.pol_read.specs.declared.RulePart.{RulePart}
use Rattle.pol_read.specs.declared.RulePart.TheVariants.{Perms}
use Rattle.pol_read.specs.declared.RuleEnds.{RuleEnds}
use Rattle.pol_read.specs.StoredRules.{StoredRule, ends_of, stored_rules}
use Rattle.pol_read.proofs.RulesDeclared.{rule_with_ends}
use Rattle.pol_cursor.proofs.Ranges.{filter_range_one}
use Rattle.counted_rules.specs.CountedRules.{Counted, counts}
use Rattle.rules_between.specs.declared.RulesWithEnds.{RulesWithEnds}
use Rattle.rules_between.specs.Inner.RuleTables.{AreEndsOf}
use Rattle.pol_expand.specs.JoinedTypes.{passes, rule_passes, has_type_ends, is_between_types}
use Rattle.rule_grants.specs.declared.Permission.{Permission}
use Rattle.dom_trans.specs.declared.keeping.Kept.{Kept}
use Rattle.dom_trans.specs.declared.keeping.Wanted.{Wanted}
use Rattle.rule_grants.specs.Grants.{counts_and, rules_that, permission_named, permission_of_class, part_gives, gives}
use Rattle.rule_grants.specs.Names.{process, file, transition, dyntransition, setexec, setcurrent, execute, entrypoint}
use Rattle.dom_trans.specs.DefaultRules.{is_value, is_nameless, kind_sets_default, sets_default}
use Rattle.dom_trans.specs.Inner.Keeping.{wanted_in, is_asked_class, kept_of, AreKept, GainsWhere, IsKept}
use Rattle.dom_trans.specs.Inner.RuleLists.{HaveTypeEnds}

-- one rule more
more : (rules : Counted) (test : StoredRule → Bool) (n : ℕ) (rule : StoredRule) (old new : List ℕ) → slice_get (stored_rules rules.policy) n ≡ Some rule → old ≡ kept_of rules n test → GainsWhere n (counts_and rules test rule) old new → new ≡ kept_of rules (n + 1) test
more rules test n rule old new at was gained =
    let p = rule_passes rules.policy (counts_and rules test) in
    gained
    ∙ ap (λ (xs : List ℕ). xs ++ cond (counts_and rules test rule) (n ∷ []) []) was
    ∙ ap (λ (o : Option StoredRule). kept_of rules n test ++ cond (passes (counts_and rules test) o) (n ∷ []) []) (sym at)
    ∙ sym (filter_range_one p 0 n n (omega arith))

-- what two facts of a success give
pub on_both : {T E P Q R : Type 0} (result : Result T E) → (P → Q → R) → OnOk result P → OnOk result Q → OnOk result R
on_both (Ok x) f p q = f p q
on_both (Err e) f p q = tt

pub kept_none : (rules : Counted) (test : StoredRule → Bool) (list : RulesWithEnds) → list.rules.items ≡ [] → AreEndsOf rules.policy list.rules.items list.sources.items list.targets.items → IsKept rules 0 test list
kept_none rules test list none ends = record { numbers = none; ends = ends }

-- a rule that counts
pub kept_more : (rules : Counted) (test : StoredRule → Bool) (n : ℕ) (rule : StoredRule) (old new : RulesWithEnds) (passes : Bool) → slice_get (stored_rules rules.policy) n ≡ Some rule → counts rules rule ≡ true → IsKept rules n test old → passes ≡ test rule
    → GainsWhere n passes old.rules.items new.rules.items → AreEndsOf rules.policy new.rules.items new.sources.items new.targets.items → IsKept rules (n + 1) test new
kept_more rules test n rule old new passes at counted was is gained ends = record {
  numbers = more rules test n rule old.rules.items new.rules.items at was.numbers (subst (λ (b : Bool). GainsWhere n b old.rules.items new.rules.items) (is ∙ sym (ap (λ (t : Bool). t && test rule) counted)) gained);
  ends = ends;
}

-- ---- rules that are passed over

gains_none : (number : ℕ) (passes holds : Bool) (numbers : List ℕ) → holds ≡ false → (passes ≡ true → holds ≡ true) → GainsWhere number passes numbers numbers
gains_none number true holds numbers not is = absurd (false≢true (sym not ∙ is refl))
gains_none number false holds numbers not is = sym (append-nil numbers)

-- one for which something does not hold that holds for each rule of the list
kept_less : (rules : Counted) (test : StoredRule → Bool) (n : ℕ) (rule : StoredRule) (list : RulesWithEnds) (holds : Bool) → slice_get (stored_rules rules.policy) n ≡ Some rule → holds ≡ false → (counts_and rules test rule ≡ true → holds ≡ true) → IsKept rules n test list → IsKept rules (n + 1) test list
kept_less rules test n rule list holds at not is was = record {
  numbers = more rules test n rule list.rules.items list.rules.items at was.numbers (gains_none n (counts_and rules test rule) holds list.rules.items not is);
  ends = was.ends;
}

-- a rule that does not count is in no list
pub kept_uncounted : (rules : Counted) (wanted : Wanted) (n : ℕ) (rule : StoredRule) (kept : Kept) → slice_get (stored_rules rules.policy) n ≡ Some rule → counts rules rule ≡ false → AreKept rules wanted n kept → AreKept rules wanted (n + 1) kept
kept_uncounted rules wanted n rule kept at not are = record {
  transition = without (gives wanted.transition) kept.transition are.transition;
  dyntransition = without (gives wanted.dyntransition) kept.dyntransition are.dyntransition;
  setexec = without (gives wanted.setexec) kept.setexec are.setexec;
  setcurrent = without (gives wanted.setcurrent) kept.setcurrent are.setcurrent;
  execute = without (gives wanted.execute) kept.execute are.execute;
  entrypoint = without (gives wanted.entrypoint) kept.entrypoint are.entrypoint;
  defaults = without (sets_default wanted.process) kept.defaults are.defaults;
}
  where
    without : (test : StoredRule → Bool) (list : RulesWithEnds) → IsKept rules n test list → IsKept rules (n + 1) test list
    without test list = kept_less rules test n rule list (counts rules rule) at not (λ e. (and_parts (counts rules rule) (test rule) e).0)

-- ---- rules of other classes

-- a rule that gives a permission of a class is of that class
named_class : (symbols : Symbols) (class name : List ℕ) (rule : StoredRule) → gives (permission_named symbols class name) rule ≡ true → is_value (value_in symbols Classes class) rule.class ≡ true
unfolding permission_named
named_class symbols class name rule e = go (value_in symbols Classes class) e
  where
    of_part : (permission : Permission) (kind : RuleKind) (value : ℕ) (part : RulePart) → part_gives permission kind value part ≡ true → (value == permission.class) ≡ true
    of_part permission Allow value (Perms mask) e = (and_parts (value == permission.class) (mask_has mask permission.value) e).0
    of_part permission kind value part e = absurd (false≢true e)

    of_value : (value : ℕ) (found : Option ℕ) → gives (option_map (λ number. record { class = value; value = number }) found) rule ≡ true → (rule.class == value) ≡ true
    of_value value None e = absurd (false≢true e)
    of_value value (Some number) e = of_part (record { class = value; value = number }) rule.kind rule.class rule.part e

    go : (found : Option ℕ) → gives (permission_of_class symbols name found) rule ≡ true → is_value found rule.class ≡ true
    go None e = absurd (false≢true e)
    go (Some value) e = of_value value (permission_value_in symbols value name) e

-- a rule that sets a default is of the class
default_class : (class : Option ℕ) (rule : StoredRule) → sets_default class rule ≡ true → is_value class rule.class ≡ true
default_class class rule e = go rule.kind e
  where
    go : (kind : RuleKind) → kind_sets_default kind rule.name class rule.class ≡ true → is_value class rule.class ≡ true
    go TypeTransition e = (and_parts (is_nameless rule.name) (is_value class rule.class) e).1
    go kind e = absurd (false≢true e)

-- a rule of another class is in no list
pub kept_past : (rules : Counted) (n : ℕ) (ends : RuleEnds) (kept : Kept) → option_map ends_of (slice_get (stored_rules rules.policy) n) ≡ Some ends → is_asked_class (wanted_in rules.policy.symbols) ends.class ≡ false → AreKept rules (wanted_in rules.policy.symbols) n kept
    → AreKept rules (wanted_in rules.policy.symbols) (n + 1) kept
kept_past rules n ends kept at other are = record {
  transition = of_process transition kept.transition are.transition;
  dyntransition = of_process dyntransition kept.dyntransition are.dyntransition;
  setexec = of_process setexec kept.setexec are.setexec;
  setcurrent = of_process setcurrent kept.setcurrent are.setcurrent;
  execute = of_file execute kept.execute are.execute;
  entrypoint = of_file entrypoint kept.entrypoint are.entrypoint;
  defaults = kept_less rules (sets_default processes) n rule kept.defaults (is_value processes rule.class) there apart.0 (λ e. default_class processes rule (and_parts (counts rules rule) (sets_default processes rule) e).1) are.defaults;
}
  where
    processes : Option ℕ
    processes = value_in rules.policy.symbols Classes process

    files : Option ℕ
    files = value_in rules.policy.symbols Classes file

    rule : StoredRule
    rule = (rule_with_ends rules.policy n ends at).0

    there : slice_get (stored_rules rules.policy) n ≡ Some rule
    there = (rule_with_ends rules.policy n ends at).1

    apart : (is_value processes rule.class ≡ false) × (is_value files rule.class ≡ false)
    apart = or_parts (is_value processes rule.class) (is_value files rule.class) (ap (λ (e : RuleEnds). is_asked_class (wanted_in rules.policy.symbols) e.class) (rule_with_ends rules.policy n ends at).2 ∙ other)

    of_process : (name : List ℕ) (list : RulesWithEnds) → IsKept rules n (gives (permission_named rules.policy.symbols process name)) list → IsKept rules (n + 1) (gives (permission_named rules.policy.symbols process name)) list
    of_process name list = kept_less rules (gives (permission_named rules.policy.symbols process name)) n rule list (is_value processes rule.class) there apart.0 (λ e. named_class rules.policy.symbols process name rule (and_parts (counts rules rule) (gives (permission_named rules.policy.symbols process name) rule) e).1)

    of_file : (name : List ℕ) (list : RulesWithEnds) → IsKept rules n (gives (permission_named rules.policy.symbols file name)) list → IsKept rules (n + 1) (gives (permission_named rules.policy.symbols file name)) list
    of_file name list = kept_less rules (gives (permission_named rules.policy.symbols file name)) n rule list (is_value files rule.class) there apart.1 (λ e. named_class rules.policy.symbols file name rule (and_parts (counts rules rule) (gives (permission_named rules.policy.symbols file name) rule) e).1)

-- ---- their ends are types

kind_is_transition : (kind : RuleKind) (name : Option (List ℕ)) (class : Option ℕ) (value : ℕ) → kind_sets_default kind name class value ≡ true → has_type_ends kind ≡ true
kind_is_transition TypeTransition name class value e = refl
kind_is_transition other name class value e = absurd (false≢true e)

pub defaults_types : (class : Option ℕ) (rule : StoredRule) → sets_default class rule ≡ true → has_type_ends rule.kind ≡ true
defaults_types class rule e = kind_is_transition rule.kind rule.name class rule.class e

pub kept_types : (rules : Counted) (n : ℕ) (test : StoredRule → Bool) (numbers : List ℕ) → ((rule : StoredRule) → test rule ≡ true → has_type_ends rule.kind ≡ true) → numbers ≡ kept_of rules n test → All (λ number. is_between_types rules.policy number ≡ true) numbers
kept_types rules n test numbers types is =
    let p = rule_passes rules.policy (counts_and rules test) in
    subst (λ (xs : List ℕ). All (λ number. is_between_types rules.policy number ≡ true) xs) (sym is)
    (All-weaker (λ number. p number ≡ true) (λ number. is_between_types rules.policy number ≡ true) (λ number e. go (slice_get (stored_rules rules.policy) number) e) (filter p (range_with_len 0 n)) (filter_passes p (range_with_len 0 n)))
  where
    go : (o : Option StoredRule) → passes (counts_and rules test) o ≡ true → passes (λ (r : StoredRule). has_type_ends r.kind) o ≡ true
    go None e = absurd (false≢true e)
    go (Some rule) e = types rule (and_parts (counts rules rule) (test rule) e).1

-- ---- they are few

pub filter_short : (p : ℕ → Bool) (xs : List ℕ) → length (filter p xs) ≤ length xs
filter_short p [] = omega arith
filter_short p (x ∷ xs) = go (p x) (filter_short p xs)
  where
    go : (b : Bool) → length (filter p xs) ≤ length xs → length (cond b (x ∷ filter p xs) (filter p xs)) ≤ length (x ∷ xs)
    go true h = omega (arith, h)
    go false h = omega (arith, h)

pub kept_few : (rules : Counted) (n : ℕ) (test : StoredRule → Bool) (numbers : List ℕ) → n ≤ 400000000 → numbers ≡ kept_of rules n test → length numbers < 2 ^ 32
kept_few rules n test numbers few is =
    let p = rule_passes rules.policy (counts_and rules test) in
    omega (arith, few, ap (length {A = ℕ}) is, filter_short p (range_with_len 0 n), length-range_with_len 0 n)

pub kept_ends : (rules : Counted) (test : StoredRule → Bool) (numbers : List ℕ) → ((rule : StoredRule) → test rule ≡ true → has_type_ends rule.kind ≡ true) → length (stored_rules rules.policy) ≤ 400000000 → numbers ≡ kept_of rules (length (stored_rules rules.policy)) test
    → HaveTypeEnds rules.policy numbers
kept_ends rules test numbers types few is = record {
  types = kept_types rules (length (stored_rules rules.policy)) test numbers types is;
  few = kept_few rules (length (stored_rules rules.policy)) test numbers few is;
}

-- ---- all rules that pass a test

pub kept_all : (rules : Counted) (test : StoredRule → Bool) (numbers : List ℕ) → numbers ≡ kept_of rules (length (stored_rules rules.policy)) test → numbers ≡ rules_that rules test
unfolding rules_that
kept_all rules test numbers is = is
