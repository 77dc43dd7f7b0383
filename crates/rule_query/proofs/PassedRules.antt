-- Rules of the table that are passed over, since their marks tell that they do not pass.
use Rattle.std.proofs.Common.{◌≡◌, ⊎_elim, ℕ, zero, suc, ◌+◌, ◌-◌, ◌<◌, ◌≤◌, Bool, true, false, Ok, Option, Some, None, List, [], ◌∷◌, length, get_or, drop, cond, refl, sym, ap, subst, ◌∙◌, arith}
use Rattle.std.specs.Prelude.{◌&&◌}
use Rattle.std.specs.List.{filter, list_all, range_with_len}
use Rattle.std.proofs.lemmas.Bool.{cases_lt, false≢true}
use Rattle.std.specs.Option.{option_or}
use Rattle.std.proofs.lemmas.Option.{slice_get_cases}
use Rattle.std.proofs.Math.Seq.{drop-cons}
use Rattle.pol_avtab.specs.AvKeys.{kind_of}
use Rattle.pol_bitmap.specs.declared.Node.{Node}
use Rattle.pol_bitmap.specs.Nodes.{has_bit}
use Rattle.pol_file.specs.declared.Parts.{Parts}
use Rattle.pol_file.specs.Acceptance.{accept}
use Rattle.pol_fields.specs.declared.TableKind.{TableKind}
use Rattle.pol_fields.specs.declared.TableKind.TheVariants.{Types}
use Rattle.pol_read.specs.RuleKinds.{source_table, target_table}
use Rattle.pol_read.specs.StoredRules.{StoredRule, av_rule, stored_rules}
use Rattle.pol_read.proofs.RuleSums.{section_sizes, table_first}
use Rattle.pol_read.proofs.RulesDeclared.{rule_is_declared, source_of, target_of}
use Rattle.pol_symbols.specs.declared.Symbols.{Symbols}
use Rattle.rule_tests.specs.AskedKinds.{is_kind_asked}
use Rattle.rule_tests.specs.Inner.AskedVectors.{VectorMarks, is_asked_at, is_kind_marked, is_standing, is_value_asked, low_marks, may_be_asked, standing_at}
use Rattle.rule_tests.proofs.KindMarks.{kind_marked}
use Rattle.rule_order.specs.declared.found_rules.FoundRules.{FoundRules}
use Rattle.rule_query.specs.declared.query.Query.{Query}
use Rattle.rule_query.specs.declared.tests.Test.{Test}
use Rattle.rule_query.specs.declared.tests.Test.TheVariants as tests
use Rattle.rule_query.specs.Inner.Gathering.{Gathers, HasMet, PassesOver, is_passing, passes_at}
use Rattle.rule_query.specs.Inner.MarkedSets.{AreMarksOf, AreMarksOfSome}
use Rattle.rule_query.specs.QueryTests.{first_of, has_end, rule_test, source_types, sources_of, target_types, targets_of}
use Rattle.rule_query.proofs.MetRules.{met_failing}
use Rattle.value_groups.specs.Inner.Marking.{MarkedValues}

-- ---- ends

-- what the marks of a set pass over is not in the set
unmarked_value : (set : List Node) (marks : Option MarkedValues) (value : ℕ) → AreMarksOf set marks → is_value_asked marks value ≡ false → has_bit set value ≡ false
unmarked_value set None value are e = absurd (false≢true (sym e))
unmarked_value set (Some marks) value are e = sym (are value) ∙ e

and_false : (a b : Bool) → b ≡ false → (a && b) ≡ false
and_false true b e = e
and_false false b e = refl

-- a rule does not pass some tests if an end of it is not in the set that the first test of this end has
module _ (asked : Test → Option (List Node)) (p : Test → Bool) (value : ℕ) (fails : (test : Test) (set : List Node) → asked test ≡ Some set → has_bit set value ≡ false → p test ≡ false) where
  one_fails : (these : List Test) (set : List Node) → first_of asked these ≡ Some set → has_bit set value ≡ false → list_all p these ≡ false
  one_fails [] set e out = absurd cc
  one_fails (test ∷ more) set e out = by (λ e. one_fails more set e out) (asked test) refl e
    where
      by : (first_of asked more ≡ Some set → list_all p more ≡ false) → (o : Option (List Node)) → asked test ≡ o → option_or o (first_of asked more) ≡ Some set → (p test && list_all p more) ≡ false
      by later None is e = and_false (p test) (list_all p more) (later e)
      by later (Some own) is e = rw (fails test set (is ∙ e) out) refl

  unmarked_fails : (these : List Test) (o : Option (List Node)) (marks : Option MarkedValues) → first_of asked these ≡ o → AreMarksOfSome o marks → is_value_asked marks value ≡ false → list_all p these ≡ false
  unmarked_fails these None None e are out = absurd (false≢true (sym out))
  unmarked_fails these None (Some marks) e are out = absurd are
  unmarked_fails these (Some set) marks e are out = one_fails these set e (unmarked_value set marks value are out)

module _ (symbols : Symbols) (rule : StoredRule) where
  source_fails : source_table rule.kind ≡ Types → (test : Test) (set : List Node) → sources_of test ≡ Some set → has_bit set rule.source ≡ false → rule_test symbols rule test ≡ false
  source_fails types (tests.Source ends) set e out = let same : ends.types ≡ set = cc in ap (λ (table : TableKind). has_end ends table rule.source) types ∙ rw same out
  source_fails types (tests.Target ends) set e out = absurd cc
  source_fails types (tests.Class classes) set e out = absurd cc
  source_fails types (tests.Permissions test) set e out = absurd cc
  source_fails types (tests.Numbers test) set e out = absurd cc
  source_fails types (tests.Default ends) set e out = absurd cc
  source_fails types (tests.Condition nodes) set e out = absurd cc

  target_fails : target_table rule.kind ≡ Types → (test : Test) (set : List Node) → targets_of test ≡ Some set → has_bit set rule.target ≡ false → rule_test symbols rule test ≡ false
  target_fails types (tests.Source ends) set e out = absurd cc
  target_fails types (tests.Target ends) set e out = let same : ends.types ≡ set = cc in ap (λ (table : TableKind). has_end ends table rule.target) types ∙ rw same out
  target_fails types (tests.Class classes) set e out = absurd cc
  target_fails types (tests.Permissions test) set e out = absurd cc
  target_fails types (tests.Numbers test) set e out = absurd cc
  target_fails types (tests.Default ends) set e out = absurd cc
  target_fails types (tests.Condition nodes) set e out = absurd cc

-- ---- a rule of the table

-- a mark is missing, and so the kind is not asked, or the tests are not passed
one_missing : (kind source target asked passed : Bool) → (asked ≡ true → kind ≡ true) → (source ≡ false → passed ≡ false) → (target ≡ false → passed ≡ false) → ((source && target) && kind) ≡ false → (asked && passed) ≡ false
one_missing kind source target false passed marked first second e = refl
one_missing kind source target true false marked first second e = refl
one_missing kind false target true true marked first second e = first refl
one_missing kind true false true true marked first second e = second refl
one_missing kind true true true true marked first second e = sym (sym e ∙ marked refl)

pub passes_over : (query : Query) (sources targets : Option MarkedValues) → AreMarksOfSome (source_types query) sources → AreMarksOfSome (target_types query) targets → PassesOver query (record { kinds = low_marks query.kinds; sources = sources; targets = targets })
passes_over query sources targets are_sources are_targets = record {
  at = λ symbols condition av e.
      let rule : StoredRule = av_rule condition av in
      let kind = kind_of av.value.specified in
      let these = query.tests.items in
      one_missing (is_kind_marked (low_marks query.kinds) av.value) (is_value_asked sources rule.source) (is_value_asked targets rule.target)
      (is_kind_asked query.kinds rule.kind) (list_all (rule_test symbols rule) these)
      (kind_marked query.kinds av.value.specified)
      (unmarked_fails sources_of (rule_test symbols rule) rule.source (source_fails symbols rule (source_of kind)) these (source_types query) sources refl are_sources)
      (unmarked_fails targets_of (rule_test symbols rule) rule.target (target_fails symbols rule (target_of kind)) these (target_types query) targets refl are_targets) e;
}

-- ---- numbers that are gathered

-- none is behind the last
gathers_up : (wanted : ℕ → Bool) (from : ℕ) (numbers : List ℕ) (to : ℕ) → Gathers wanted from numbers to → from ≤ to
gathers_up wanted from [] to gathers = gathers.0
gathers_up wanted from (number ∷ numbers) to gathers = omega (arith, gathers.0, gathers_up wanted (number + 1) numbers to gathers.2)

module _ (wanted : ℕ → Bool) (from : ℕ) where
  -- one more is not wanted, before those that are not
  none_before : (to : ℕ) → wanted from ≡ false → ((n : ℕ) → from + 1 ≤ n → n < to → wanted n ≡ false) → (n : ℕ) → from ≤ n → n < to → wanted n ≡ false
  none_before to first none n le lt = ⊎_elim (λ (behind : from < n). none n (omega (arith, behind)) lt) (λ (here : n ≤ from). let same : from ≡ n = omega (arith, le, here) in rw (← same) first) (cases_lt from n)

  passed_over : (numbers : List ℕ) (to : ℕ) → wanted from ≡ false → Gathers wanted (from + 1) numbers to → Gathers wanted from numbers to
  passed_over [] to first gathers = (omega (arith, gathers.0), none_before to first gathers.1)
  passed_over (number ∷ numbers) to first gathers = (omega (arith, gathers.0), none_before number first gathers.1, gathers.2)

  -- one that is put before the others if it is asked, as all are that are wanted
  one_before : (numbers : List ℕ) (to : ℕ) (asked : Bool) → (asked ≡ false → wanted from ≡ false) → Gathers wanted (from + 1) numbers to → Gathers wanted from (cond asked (from ∷ numbers) numbers) to
  one_before numbers to true first gathers = (omega arith, λ n le lt. absurd (omega (arith, le, lt)), gathers)
  one_before numbers to false first gathers = passed_over numbers to (first refl) gathers

-- the numbers that are asked, of so many from one on, are gathered for what only they meet
gathered : (asked wanted : ℕ → Bool) (count from : ℕ) → ((n : ℕ) → n < from + count → asked n ≡ false → wanted n ≡ false) → Gathers wanted from (filter asked (range_with_len from count)) (from + count)
gathered asked wanted zero from only = (omega arith, λ n le lt. absurd (omega (arith, le, lt)))
gathered asked wanted (suc count) from only =
    let same : from + 1 + count ≡ from + suc count = omega arith in
    one_before wanted from (filter asked (range_with_len (from + 1) count)) (from + suc count) (asked from) (only from (omega arith))
    (rw same at (gathered asked wanted count (from + 1) (λ n lt. only n (omega (arith, lt)))))

-- ---- rules that are passed over

module _ (policy : Parts) (query : Query) (bytes : List ℕ) (found : FoundRules) (accepted : accept bytes ≡ Ok policy) where
  one_passed : (n : ℕ) → n < length (stored_rules policy) → passes_at policy query n ≡ false → HasMet policy query n found → HasMet policy query (n + 1) found
  unfolding passes_at
  one_passed n lt e met =
      ⊎_elim (λ some. met_failing policy query some.0 n some.2 found (rule_is_declared bytes policy n some.0 accepted some.2) (sym (ap (is_passing policy query) some.2) ∙ e) met) (λ past. absurd (omega (arith, past.0, lt))) (slice_get_cases (stored_rules policy) n).1

  some_passed : (count from to : ℕ) → to ≡ from + count → to ≤ length (stored_rules policy) → ((n : ℕ) → from ≤ n → n < to → passes_at policy query n ≡ false) → HasMet policy query from found → HasMet policy query to found
  some_passed zero from to e within none met = let same : from ≡ to = omega (arith, e) in subst (λ (n : ℕ). HasMet policy query n found) same met
  some_passed (suc count) from to e within none met =
      some_passed count (from + 1) to (omega (arith, e)) within (λ n le lt. none n (omega (arith, le)) lt) (one_passed from (omega (arith, e, within)) (none from (omega arith) (omega (arith, e))) met)

  passed : (from to : ℕ) → from ≤ to → to ≤ length policy.rules.table → ((n : ℕ) → from ≤ n → n < to → passes_at policy query n ≡ false) → HasMet policy query from found → HasMet policy query to found
  passed from to le within none met = some_passed (to - from) from to (omega (arith, le)) (omega (arith, within, section_sizes policy)) none met

-- what the marks pass over does not pass
passed_at : (policy : Parts) (query : Query) (marks : VectorMarks) (n : ℕ) → PassesOver query marks → n < length policy.rules.table → is_asked_at marks policy.rules.table n ≡ false → passes_at policy query n ≡ false
unfolding standing_at passes_at
passed_at policy query marks n over lt e =
    ⊎_elim
    (λ some. ap (is_passing policy query) (table_first policy n some.0 some.2) ∙ over.at policy.symbols None some.0 (sym (ap (is_standing (may_be_asked marks)) some.2) ∙ e))
    (λ past. absurd (omega (arith, past.0, lt)))
    (slice_get_cases policy.rules.table n).1

pub gathered_passing : (policy : Parts) (query : Query) (marks : VectorMarks) (from to : ℕ) → PassesOver query marks → from ≤ to → to ≤ length policy.rules.table → Gathers (passes_at policy query) from (filter (is_asked_at marks policy.rules.table) (range_with_len from (to - from))) to
gathered_passing policy query marks from to over rises within =
    let behind : from + (to - from) ≡ to = omega (arith, rises) in
    rw behind at (gathered (is_asked_at marks policy.rules.table) (passes_at policy query) (to - from) from (λ n lt e. passed_at policy query marks n over (omega (arith, lt, behind, within)) e))

-- numbers that are left, behind the rules that were gone through
pub record AreLeft (policy : Parts) (query : Query) (found : FoundRules) (numbers : List ℕ) (to : ℕ) : Type 0 where
  pub from : ℕ
  pub met : HasMet policy query from found
  pub gathered : Gathers (passes_at policy query) from numbers to

-- the first of them
pub record IsNext (policy : Parts) (query : Query) (found : FoundRules) (number : ℕ) (numbers : List ℕ) (to : ℕ) : Type 0 where
  pub below : number < to
  pub met : HasMet policy query number found
  pub gathered : Gathers (passes_at policy query) (number + 1) numbers to

module _ (policy : Parts) (query : Query) (bytes : List ℕ) (found : FoundRules) (accepted : accept bytes ≡ Ok policy) (to : ℕ) (within : to ≤ length policy.rules.table) where
  pub next_number : (numbers : List ℕ) (i : ℕ) (d : ℕ) → i < length numbers → AreLeft policy query found (drop i numbers) to → IsNext policy query found (get_or numbers i d) (drop (i + 1) numbers) to
  next_number numbers i d lt left =
      let number = get_or numbers i d in
      let same : suc i ≡ i + 1 = omega arith in
      let gathered : Gathers (passes_at policy query) left.from (number ∷ drop (i + 1) numbers) to = rw (drop-cons numbers i d lt ∙ ap (λ (n : ℕ). number ∷ drop n numbers) same) at left.gathered in
      let below : number < to = omega (arith, gathers_up (passes_at policy query) (number + 1) (drop (i + 1) numbers) to gathered.2) in
      record {
        below = below;
        met = passed policy query bytes found accepted left.from number gathered.0 (omega (arith, below, within)) gathered.1 left.met;
        gathered = gathered.2;
      }

  pub no_number : AreLeft policy query found [] to → HasMet policy query to found
  no_number left = passed policy query bytes found accepted left.from to left.gathered.0 within left.gathered.1 left.met
