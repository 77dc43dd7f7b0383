-- The rules that are found class by class are those that give what is asked for.
use Rattle.std.proofs.Common.{◌≡◌, ℕ, ◌+◌, ◌<◌, ◌≤◌, zero, suc, Bool, true, false, cond, List, [], ◌∷◌, ◌++◌, Option, Some, None, Result, Ok, Err, IfOk, Vec, Global, inl, inr, length, map, get_or, slice_get, refl, sym, ap, subst, ◌∙◌, arith}
use Rattle.std.proofs.Math.Path.{fun_ext}
use Rattle.std.specs.Prelude.{◌&&◌, ◌==◌, is_some}
use Rattle.std.specs.List.{All, filter, flat_map, range_with_len}
use Rattle.std.specs.List.Sorted.{IsPermutation}
use Rattle.std.proofs.lemmas.Bool.{and_parts, cases_Bool, false≢true}
use Rattle.std.proofs.lemmas.List.Elements.{All-contains, All-head, All-tail, All-weaker, filter_passes}
use Rattle.std.proofs.lemmas.List.Sorted.{All-permutation, IsPermutation-sym}
use Rattle.pol_cursor.proofs.Ranges.{flat_range_more}
use Rattle.pol_bitmap.proofs.Elements.{contains_range, range_holds}
use Rattle.pol_cursor.specs.References.{Placed}
use Rattle.pol_fields.specs.declared.TableKind.TheVariants.{Classes}
use Rattle.pol_symtab.proofs.Searches.{not_true, primary_declared}
use Rattle.pol_classes.specs.declared.ClassRec.{ClassRec}
use Rattle.pol_symbols.specs.declared.Symbols.{Symbols}
use Rattle.pol_symbols.specs.PolicySymbols.{index_in}
use Rattle.pol_symbols.proofs.SymbolSearch.{primary_is_within}
use Rattle.pol_file.specs.declared.Parts.{Parts}
use Rattle.pol_file.specs.Acceptance.{accept}
use Rattle.pol_file.proofs.Acceptances.{accepted_has_type_values}
use Rattle.pol_read.specs.declared.RuleKind.{RuleKind}
use Rattle.pol_read.specs.declared.RuleKind.TheVariants.{Allow}
use Rattle.pol_read.specs.declared.RulePart.{RulePart}
use Rattle.pol_read.specs.declared.RulePart.TheVariants.{Perms}
use Rattle.pol_read.specs.DeclaredRules.{ClassIsDeclared, IsDeclaredIn}
use Rattle.pol_read.specs.StoredRules.{StoredRule, stored_rules}
use Rattle.pol_read.proofs.RulesDeclared.{rule_is_declared}
use Rattle.pol_expand.specs.Inner.StoredEnds.{IsEnd}
use Rattle.pol_expand.specs.JoinedTypes.{has_type_ends, passes, rule_passes}
use Rattle.pol_expand.proofs.DeclaredEnds.{passes_within, source_is_end, target_is_end}
use Rattle.rule_order.specs.ListedOrder.{AreRules}
use Rattle.value_groups.specs.Among.{is_among}
use Rattle.value_groups.specs.Inner.Marking.{AreApart}
use Rattle.value_groups.proofs.Anys.{among_contains, contains_among, filter_agree}
use Rattle.value_groups.proofs.Filters.{flat_map_agree, grouped_by}
use Rattle.se_checker.specs.declared.allow_rules.AllowRule.{AllowRule}
use Rattle.se_checker.specs.declared.asked.AskedBits.{AskedBits}
use Rattle.se_checker.specs.declared.asked.AskedBits.TheVariants.{Nothing}
use Rattle.se_checker.specs.Verdicts.{Asked, allow_mask, asks_given, has_wanted, is_asked, rules_asked}
use Rattle.se_checker.specs.Inner.AllowRules.{AreAllowRules, AreOfClass, IsAllowRule, class_place, rules_in}
use Rattle.se_checker.specs.Inner.AskedBits.{asks_at, asks_found, asks_in_class, has_asked, is_passing, numbers_passing}
use Rattle.se_checker.proofs.AllowedRules.{place_where}
use Rattle.se_checker.proofs.AskedMasks.{asked_at_place}

-- ---- lists

-- of a list, the numbers of those that pass
numbers_of_passing : (p : AllowRule → Bool) (q : ℕ → Bool) (rules : List AllowRule) → All (λ rule. p rule ≡ q rule.number) rules → map (λ (rule : AllowRule). rule.number) (filter p rules) ≡ filter q (map (λ (rule : AllowRule). rule.number) rules)
numbers_of_passing p q [] same = refl
numbers_of_passing p q (rule ∷ rules) same =
    ap (λ (b : Bool). map (λ (r : AllowRule). r.number) (cond b (rule ∷ filter p rules) (filter p rules))) (All-head (λ (r : AllowRule). p r ≡ q r.number) rule rules same)
    ∙ by (q rule.number) (numbers_of_passing p q rules (All-tail (λ (r : AllowRule). p r ≡ q r.number) rule rules same))
  where
    by : (b : Bool) → map (λ (r : AllowRule). r.number) (filter p rules) ≡ filter q (map (λ (r : AllowRule). r.number) rules)
        → map (λ (r : AllowRule). r.number) (cond b (rule ∷ filter p rules) (filter p rules)) ≡ cond b (rule.number ∷ filter q (map (λ (r : AllowRule). r.number) rules)) (filter q (map (λ (r : AllowRule). r.number) rules))
    by true later = ap (λ (ns : List ℕ). rule.number ∷ ns) later
    by false later = later

-- numbers one after the other are apart
apart_range : (a n : ℕ) → AreApart (range_with_len a n)
apart_range a zero = tt
apart_range a (suc n) = (
  not_true (is_among (range_with_len (a + 1) n) a) (λ there.
      let above = All-contains (λ b. (a + 1 ≤ b) × (b < a + 1 + n)) (range_with_len (a + 1) n) a (range_holds (a + 1) n) (among_contains (range_with_len (a + 1) n) a there) in
      omega (arith, above.0)),
  apart_range (a + 1) n,
)

-- ---- one rule

pub mask_is_allow : (kind : RuleKind) (part : RulePart) (mask : ℕ) → allow_mask kind part ≡ Some mask → has_type_ends kind ≡ true
mask_is_allow Allow (Perms given) mask e = refl
mask_is_allow kind part mask e = absurd cc

-- what gives what is asked for gives permissions
pub some_mask : (symbols : Symbols) (asked : Asked) (class : ℕ) (o : Option ℕ) → asks_given symbols asked class o ≡ true → (mask : ℕ) × (o ≡ Some mask)
some_mask symbols asked class None e = absurd (false≢true e)
some_mask symbols asked class (Some mask) e = (mask, refl)

-- the ends that have a type that is asked for and not exempt
abbrev pub AreWanted : Parts → Option (List (List ℕ)) → List (List ℕ) → List ℕ → Type 0
AreWanted policy asked exempt ends = (end : ℕ) → IsEnd policy end → is_among ends end ≡ has_wanted policy asked exempt end

turned : (a s t : Bool) → ((a && s) && t) ≡ ((s && t) && a)
turned true true true = refl
turned true true false = refl
turned true false t = refl
turned false true true = refl
turned false true false = refl
turned false false t = refl

module _ (bytes : List ℕ) (policy : Parts) (accepted : accept bytes ≡ Ok policy) (asked : Asked) (sources targets : List ℕ) (from : AreWanted policy asked.source asked.exempt_source sources) (to : AreWanted policy asked.target asked.exempt_target targets) where
  abbrev gives_asked : ℕ → Bool
  gives_asked number = rule_passes policy (is_asked policy asked) number

  -- a rule that is looked at has what is asked for where it gives it
  looked_at : (place : ℕ) (allowed : AllowRule) → IsAllowRule policy place allowed → is_passing (asks_at policy.symbols asked place) sources targets allowed ≡ gives_asked allowed.number
  looked_at place allowed is =
      let rule = is.rule in
      let declared = rule_is_declared bytes policy allowed.number rule accepted is.at in
      let has = accepted_has_type_values bytes policy accepted in
      let types = mask_is_allow rule.kind rule.part allowed.mask is.given in
      let begins : is_among sources allowed.source ≡ has_wanted policy asked.source asked.exempt_source rule.source = ap (is_among sources) (sym is.source) ∙ from rule.source (source_is_end policy rule has types declared) in
      let ends : is_among targets allowed.target ≡ has_wanted policy asked.target asked.exempt_target rule.target = ap (is_among targets) (sym is.target) ∙ to rule.target (target_is_end policy rule has types declared) in
      let gives : asks_at policy.symbols asked place allowed.mask ≡ asks_given policy.symbols asked rule.class (allow_mask rule.kind rule.part) =
      asked_at_place policy.symbols asked rule.class place allowed.mask is.class ∙ ap (asks_given policy.symbols asked rule.class) (sym is.given) in
      ap (λ (a : Bool). (a && is_among sources allowed.source) && is_among targets allowed.target) gives
      ∙ ap (λ (s : Bool). (asks_given policy.symbols asked rule.class (allow_mask rule.kind rule.part) && s) && is_among targets allowed.target) begins
      ∙ ap (λ (t : Bool). (asks_given policy.symbols asked rule.class (allow_mask rule.kind rule.part) && has_wanted policy asked.source asked.exempt_source rule.source) && t) ends
      ∙ turned (asks_given policy.symbols asked rule.class (allow_mask rule.kind rule.part)) (has_wanted policy asked.source asked.exempt_source rule.source) (has_wanted policy asked.target asked.exempt_target rule.target)
      ∙ ap (passes (is_asked policy asked)) (sym is.at)

  -- the rules of a class
  of_class : (classes : List (List AllowRule)) (place : ℕ) → AreOfClass policy (length (stored_rules policy)) place (rules_in classes place)
      → numbers_passing (asks_at policy.symbols asked place) sources targets (rules_in classes place) ≡ filter gives_asked (filter (λ number. class_place policy number == place) (range_with_len 0 (length (stored_rules policy))))
  of_class classes place are =
      numbers_of_passing (is_passing (asks_at policy.symbols asked place) sources targets) gives_asked (rules_in classes place)
      (All-weaker (IsAllowRule policy place) (λ rule. is_passing (asks_at policy.symbols asked place) sources targets rule ≡ gives_asked rule.number) (looked_at place) (rules_in classes place) are.are)
      ∙ ap (filter gives_asked) are.numbers

  -- ---- the class of a rule that gives what is asked for is there

  some_index : (o : Option ℕ) → is_some o ≡ true → (i : ℕ) × (o ≡ Some i)
  some_index None e = absurd (false≢true e)
  some_index (Some i) e = (i, refl)

  class_of_allow : (kind : RuleKind) (part : RulePart) (mask class : ℕ) → allow_mask kind part ≡ Some mask → ClassIsDeclared policy.symbols kind class → IsDeclaredIn policy.symbols Classes class
  class_of_allow Allow (Perms given) mask class e declared = declared
  class_of_allow kind part mask class e declared = absurd cc

  stands_in_class : (n : ℕ) (o : Option StoredRule) → slice_get (stored_rules policy) n ≡ o → passes (is_asked policy asked) o ≡ true → class_place policy n < length policy.symbols.classes.records
  stands_in_class n None at e = absurd (false≢true e)
  stands_in_class n (Some rule) at e =
      let gives = (and_parts (has_wanted policy asked.source asked.exempt_source rule.source && has_wanted policy asked.target asked.exempt_target rule.target) (asks_given policy.symbols asked rule.class (allow_mask rule.kind rule.part)) e).1 in
      let mask = some_mask policy.symbols asked rule.class (allow_mask rule.kind rule.part) gives in
      let declared = class_of_allow rule.kind rule.part mask.0 rule.class mask.1 (rule_is_declared bytes policy n rule accepted at).class in
      let records = policy.symbols.classes.records in
      let found = some_index (index_in policy.symbols Classes rule.class) (primary_declared (λ (c : ClassRec). c.name) (λ (c : ClassRec). true) (λ (c : ClassRec). c.value) records rule.class ∙ declared) in
      let is = place_where policy n rule mask.0 found.0 at mask.1 found.1 in
      let within = primary_is_within (λ (c : ClassRec). true) (λ (c : ClassRec). c.value) records rule.class found.0 found.1 in
      omega (arith, is, within)

  among_places : (n : ℕ) → (is_among (range_with_len 0 (length policy.symbols.classes.records)) (class_place policy n) && gives_asked n) ≡ gives_asked n
  among_places n = elim (cases_Bool (gives_asked n)) [
    | inl gives ↦
        let count = length policy.symbols.classes.records in
        let within = stands_in_class n (slice_get (stored_rules policy) n) refl gives in
        ap (λ (b : Bool). b && gives_asked n) (contains_among (range_with_len 0 count) (class_place policy n) (contains_range 0 count (class_place policy n) (omega arith) (omega (arith, within))))
    | inr not ↦ ap (λ (b : Bool). is_among (range_with_len 0 (length policy.symbols.classes.records)) (class_place policy n) && b) not ∙ and_false (is_among (range_with_len 0 (length policy.symbols.classes.records)) (class_place policy n)) ∙ sym not
  ]
    where
      and_false : (b : Bool) → (b && false) ≡ false
      and_false true = refl
      and_false false = refl

  -- ---- all of them

  pub found_by_class : (classes : List (List AllowRule)) (found : List ℕ) → AreAllowRules policy classes
      → found ≡ flat_map (λ place. numbers_passing (asks_at policy.symbols asked place) sources targets (rules_in classes place)) (range_with_len 0 (length policy.symbols.classes.records)) → IsPermutation found (rules_asked policy asked)
  unfolding rules_asked
  found_by_class classes found are is =
      let count = length policy.symbols.classes.records in
      let numbers = range_with_len 0 (length (stored_rules policy)) in
      let places = range_with_len 0 count in
      let by_class = λ (place : ℕ). filter gives_asked (filter (λ number. class_place policy number == place) numbers) in
      let each : All (λ place. numbers_passing (asks_at policy.symbols asked place) sources targets (rules_in classes place) ≡ by_class place) places =
      All-weaker (λ (place : ℕ). (0 ≤ place) × (place < 0 + count)) (λ place. numbers_passing (asks_at policy.symbols asked place) sources targets (rules_in classes place) ≡ by_class place)
      (λ place within. of_class classes place (are.each place (omega (arith, within.1, are.long)))) places (range_holds 0 count) in
      let same : found ≡ flat_map by_class places = is ∙ flat_map_agree (λ place. numbers_passing (asks_at policy.symbols asked place) sources targets (rules_in classes place)) by_class places each in
      let grouped = grouped_by (class_place policy) gives_asked numbers places (apart_range 0 count) in
      let kept : filter (λ number. is_among places (class_place policy number) && gives_asked number) numbers ≡ filter gives_asked numbers =
      filter_agree (λ number. is_among places (class_place policy number) && gives_asked number) gives_asked numbers (λ k d lt. among_places (get_or numbers k d)) in
      subst (λ (xs : List ℕ). IsPermutation xs (filter gives_asked numbers)) (sym same) (subst (λ (ys : List ℕ). IsPermutation (flat_map by_class places) ys) kept grouped)

-- ---- they are rules

asked_are_rules : (policy : Parts) (asked : Asked) → AreRules policy (rules_asked policy asked)
unfolding rules_asked
asked_are_rules policy asked =
    let test = rule_passes policy (is_asked policy asked) in
    let numbers = range_with_len 0 (length (stored_rules policy)) in
    All-weaker (λ number. test number ≡ true) (λ number. number < length (stored_rules policy)) (λ number e. passes_within policy (is_asked policy asked) number e) (filter test numbers) (filter_passes test numbers)

pub found_are_rules : (policy : Parts) (asked : Asked) (found : List ℕ) → IsPermutation found (rules_asked policy asked) → AreRules policy found
found_are_rules policy asked found moved =
    All-permutation (λ (number : ℕ). number < length (stored_rules policy)) (rules_asked policy asked) found (IsPermutation-sym found (rules_asked policy asked) moved) (asked_are_rules policy asked)

-- ---- class by class, and rule by rule

-- where nothing is asked for
pub nothing_passes : (bits : AskedBits) (sources targets : List ℕ) (rules : List AllowRule) → bits ≡ Nothing → numbers_passing (has_asked bits) sources targets rules ≡ []
nothing_passes bits sources targets rules is = ap (λ (b : AskedBits). numbers_passing (has_asked b) sources targets rules) is ∙ none rules
  where
    none : (rules : List AllowRule) → numbers_passing (λ mask. false) sources targets rules ≡ []
    none [] = refl
    none (rule ∷ rules) = none rules

-- one class more
pub one_class : (known symbols : Symbols) (asked : Asked) (place : ℕ) (class : Placed ClassRec) (bits : AskedBits) (sources targets : List ℕ) (classes : List (List AllowRule)) (rules : List AllowRule) (old new : List ℕ) → known ≡ symbols → slice_get known.classes.records place ≡ Some class
    → ((mask : ℕ) → has_asked bits mask ≡ asks_in_class known asked class.value mask) → rules ≡ rules_in classes place → new ≡ old ++ numbers_passing (has_asked bits) sources targets rules
    → old ≡ flat_map (λ place. numbers_passing (asks_at symbols asked place) sources targets (rules_in classes place)) (range_with_len 0 place) → new ≡ flat_map (λ place. numbers_passing (asks_at symbols asked place) sources targets (rules_in classes place)) (range_with_len 0 (place + 1))
one_class known symbols asked place class bits sources targets classes rules old new same at says are gained were =
    let of_place = λ (place : ℕ). numbers_passing (asks_at symbols asked place) sources targets (rules_in classes place) in
    let asks : (λ mask. has_asked bits mask) ≡ asks_at symbols asked place =
    fun_ext (λ mask. says mask ∙ ap (λ (o : Option (Placed ClassRec)). asks_found known asked o mask) (sym at) ∙ ap (λ (s : Symbols). asks_at s asked place mask) same) in
    gained
    ∙ ap (λ (xs : List ℕ). xs ++ numbers_passing (has_asked bits) sources targets rules) were
    ∙ ap (λ (p : ℕ → Bool). flat_map of_place (range_with_len 0 place) ++ numbers_passing p sources targets rules) asks
    ∙ ap (λ (rs : List AllowRule). flat_map of_place (range_with_len 0 place) ++ numbers_passing (asks_at symbols asked place) sources targets rs) are
    ∙ sym (flat_range_more of_place place)

pub found_if : {E : Type 0} (bytes : List ℕ) (policy : Parts) (asked : Asked) (sources targets : List ℕ) (classes : List (List AllowRule)) (result : Result (Vec ℕ Global) E) → accept bytes ≡ Ok policy → AreWanted policy asked.source asked.exempt_source sources → AreWanted policy asked.target asked.exempt_target targets
    → AreAllowRules policy classes → IfOk result (λ found. found.items ≡ flat_map (λ place. numbers_passing (asks_at policy.symbols asked place) sources targets (rules_in classes place)) (range_with_len 0 (length policy.symbols.classes.records)))
    → IfOk result (λ found. IsPermutation found.items (rules_asked policy asked))
found_if bytes policy asked sources targets classes (Ok found) accepted from to are is = found_by_class bytes policy accepted asked sources targets from to classes found.items are is
found_if bytes policy asked sources targets classes (Err e) accepted from to are is = tt
