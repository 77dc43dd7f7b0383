-- The rules of a flow by the enabled rules of a policy, in their order, are those of the policy that has no others.
use Rattle.std.proofs.Common.{◌≡◌, ℕ, zero, suc, ◌+◌, ◌<◌, ◌≤◌, List, [], ◌∷◌, length, map, Option, Some, None, option_map, slice_get, Bool, true, false, cond, leb, refl, sym, ap, ◌∙◌, arith}
use Rattle.std.specs.Prelude.{⊤}
use Rattle.std.specs.List.{filter, fold, range_with_len}
use Rattle.std.specs.Option.{option_cmp}
use Rattle.std.specs.Ordering.{is_lt}
use Rattle.pol_symbols.specs.declared.Symbols.{Symbols}
use Rattle.pol_file.specs.declared.Parts.{Parts}
use Rattle.pol_read.specs.RuleOrder.{names_cmp, rule_names}
use Rattle.pol_read.specs.StoredRules.{StoredRule, stored_rules}
use Rattle.walk_enum.proofs.Ascending.{cmp_less}
use Rattle.bool_state.specs.BooleanStates.{Booleans}
use Rattle.counted_rules.specs.CountedRules.{Counted, all_rules, rules_under}
use Rattle.counted_rules.specs.EnabledPolicy.{enabled_policy}
use Rattle.rule_order.specs.ListedOrder.{in_rule_order, is_listed_before, ordered_by, with_number}
use Rattle.pol_expand.specs.PlainTypes.{are_two_types}
use Rattle.perm_map.specs.PermissionMap.{Weights}
use Rattle.flow_search.specs.Flows.{counted_numbers, flow_rules, gives_least, is_counted}
use Rattle.flow_search.proofs.EnabledFlows.{found_gives, given_is, of_enabled, same_gives}

-- ---- numbers that rise

-- from a number on, each above those before it
abbrev RiseFrom : ℕ → List ℕ → Type 0
RiseFrom m [] = ⊤
RiseFrom m (x ∷ xs) = (m ≤ x) × RiseFrom (x + 1) xs

rise_lower : (m n : ℕ) (xs : List ℕ) → m ≤ n → RiseFrom n xs → RiseFrom m xs
rise_lower m n [] le h = tt
rise_lower m n (x ∷ xs) le h = (omega (arith, h.0), h.1)

rise_range : (a n : ℕ) → RiseFrom a (range_with_len a n)
rise_range a zero = tt
rise_range a (suc n) = (omega arith, rise_range (a + 1) n)

rise_filter : (p : ℕ → Bool) (m : ℕ) (xs : List ℕ) → RiseFrom m xs → RiseFrom m (filter p xs)
rise_filter p m [] h = tt
rise_filter p m (x ∷ xs) h = by (p x) (rise_filter p (x + 1) xs h.1)
  where
    by : (test : Bool) → RiseFrom (x + 1) (filter p xs) → RiseFrom m (cond test (x ∷ filter p xs) (filter p xs))
    by true rest = (h.0, rest)
    by false rest = let above : m ≤ x + 1 = omega (arith, h.0) in rise_lower m (x + 1) (filter p xs) above rest

abbrev AllBelow : ℕ → List ℕ → Type 0
AllBelow m [] = ⊤
AllBelow m (x ∷ xs) = (x < m) × AllBelow m xs

below_raise : (m n : ℕ) (xs : List ℕ) → m ≤ n → AllBelow m xs → AllBelow n xs
below_raise m n [] le h = tt
below_raise m n (x ∷ xs) le h = (omega (arith, h.0), below_raise m n xs le h.1)

below_put : (before : ℕ → ℕ → Bool) (x m : ℕ) (xs : List ℕ) → x < m → AllBelow m xs → AllBelow m (with_number before x xs)
below_put before x m [] lt h = (lt, tt)
below_put before x m (y ∷ ys) lt h = by (before y x) (below_put before x m ys lt h.1)
  where
    by : (test : Bool) → AllBelow m (with_number before x ys) → AllBelow m (cond test (y ∷ with_number before x ys) (x ∷ y ∷ ys))
    by true rest = (h.0, rest)
    by false rest = (lt, h)

-- ---- numbers of the same, put in order in the same way

module _ {X : Type 0} (f g : ℕ → X) (p q : ℕ → ℕ → Bool) (same : (a b x y : ℕ) → a < x → b < y → f a ≡ g b → f x ≡ g y → p a x ≡ q b y) where
  put_same : (x y : ℕ) (ms ns : List ℕ) → f x ≡ g y → AllBelow x ms → AllBelow y ns → map f ms ≡ map g ns → map f (with_number p x ms) ≡ map g (with_number q y ns)
  put_same x y [] [] e h k are = ap (λ (z : X). z ∷ []) e
  put_same x y [] (b ∷ ns) e h k are = absurd cc
  put_same x y (a ∷ ms) [] e h k are = absurd cc
  put_same x y (a ∷ ms) (b ∷ ns) e h k are =
      let first : f a ≡ g b = cc in
      let rest : map f ms ≡ map g ns = cc in
      ap (λ (test : Bool). map f (cond test (a ∷ with_number p x ms) (x ∷ a ∷ ms))) (same a b x y h.0 k.0 first e) ∙ by (q b y) first (put_same x y ms ns e h.1 k.1 rest)
    where
      by : (test : Bool) → f a ≡ g b → map f (with_number p x ms) ≡ map g (with_number q y ns) → map f (cond test (a ∷ with_number p x ms) (x ∷ a ∷ ms)) ≡ map g (cond test (b ∷ with_number q y ns) (y ∷ b ∷ ns))
      by true first put = cc
      by false first put = cc

  abbrev sorted_onto : (ℕ → ℕ → Bool) → List ℕ → List ℕ → List ℕ
  sorted_onto before done xs = fold (λ sorted number. with_number before number sorted) done xs

  sort_same : (m n : ℕ) (done ready xs ys : List ℕ) → AllBelow m done → AllBelow n ready → RiseFrom m xs → RiseFrom n ys → map f done ≡ map g ready → map f xs ≡ map g ys → map f (sorted_onto p done xs) ≡ map g (sorted_onto q ready ys)
  sort_same m n done ready [] [] h k r s was are = was
  sort_same m n done ready [] (y ∷ ys) h k r s was are = absurd cc
  sort_same m n done ready (x ∷ xs) [] h k r s was are = absurd cc
  sort_same m n done ready (x ∷ xs) (y ∷ ys) h k r s was are =
      let first : f x ≡ g y = cc in
      let rest : map f xs ≡ map g ys = cc in
      let low = below_raise m x done r.0 h in
      let under = below_raise n y ready s.0 k in
      sort_same (x + 1) (y + 1) (with_number p x done) (with_number q y ready) xs ys
      (below_put p x (x + 1) done (more x) (below_raise x (x + 1) done (next x) low)) (below_put q y (y + 1) ready (more y) (below_raise y (y + 1) ready (next y) under)) r.1 s.1
      (put_same x y done ready first low under was) rest
    where
      more : (n : ℕ) → n < n + 1
      more n = omega arith

      next : (n : ℕ) → n ≤ n + 1
      next n = omega arith

-- ---- the rules of a flow

-- of two rules the one with the lesser number comes first or not, whatever the numbers are
names_same : (symbols : Symbols) (a b x y : ℕ) (one other : Option StoredRule) → a < x → b < y → option_cmp names_cmp (option_map (rule_names symbols a) one) (option_map (rule_names symbols x) other) ≡ option_cmp names_cmp (option_map (rule_names symbols b) one) (option_map (rule_names symbols y) other)
names_same symbols a b x y None None h k = refl
names_same symbols a b x y None (Some other) h k = refl
names_same symbols a b x y (Some one) None h k = refl
names_same symbols a b x y (Some one) (Some other) h k = rw (cmp_less a x h, cmp_less b y k) refl

same_order : (policy : Parts) (on : Booleans) (a b x y : ℕ) → a < x → b < y → slice_get (stored_rules policy) a ≡ slice_get (stored_rules (enabled_policy policy on)) b → slice_get (stored_rules policy) x ≡ slice_get (stored_rules (enabled_policy policy on)) y
    → is_listed_before policy a x ≡ is_listed_before (enabled_policy policy on) b y
unfolding is_listed_before
same_order policy on a b x y h k e i =
    let only = enabled_policy policy on in
    ap is_lt (
    names_same policy.symbols a b x y (slice_get (stored_rules policy) a) (slice_get (stored_rules policy) x) h k
    ∙ ap (λ (found : Option StoredRule). option_cmp names_cmp (option_map (rule_names policy.symbols b) found) (option_map (rule_names policy.symbols y) (slice_get (stored_rules policy) x))) e
    ∙ ap (λ (found : Option StoredRule). option_cmp names_cmp (option_map (rule_names policy.symbols b) (slice_get (stored_rules only) b)) (option_map (rule_names policy.symbols y) found)) i)

-- a test of what numbers stand for
mapped_kept : {X : Type 0} (f : ℕ → X) (test : X → Bool) (xs : List ℕ) → map f (filter (λ n. test (f n)) xs) ≡ filter test (map f xs)
mapped_kept f test [] = refl
mapped_kept {X = X} f test (x ∷ xs) = by (test (f x)) (mapped_kept f test xs)
  where
    by : (b : Bool) → map f (filter (λ n. test (f n)) xs) ≡ filter test (map f xs) → map f (cond b (x ∷ filter (λ n. test (f n)) xs) (filter (λ n. test (f n)) xs)) ≡ cond b (f x ∷ filter test (map f xs)) (filter test (map f xs))
    by true rest = ap (λ (ys : List X). f x ∷ ys) rest
    by false rest = rest

module _ (weights : Weights) (policy : Parts) (on : Booleans) (least from to : ℕ) where
  abbrev only : Parts
  only = enabled_policy policy on

  abbrev reaches : Option StoredRule → Bool
  reaches found = leb least (found_gives weights policy from to found)

  gives_is : gives_least weights policy least from to ≡ (λ n. reaches (slice_get (stored_rules policy) n))
  gives_is = ap {B = ℕ → Bool} (λ (g : ℕ → ℕ) (n : ℕ). leb least (g n)) (given_is weights policy from to)

  only_gives : gives_least weights only least from to ≡ (λ n. reaches (slice_get (stored_rules only) n))
  only_gives =
      ap {B = ℕ → Bool} (λ (g : ℕ → ℕ) (n : ℕ). leb least (g n)) (given_is weights only from to)
      ∙ ap {B = ℕ → Bool} (λ (found : Option StoredRule → ℕ) (n : ℕ). leb least (found (slice_get (stored_rules only) n))) (sym (same_gives weights policy on from to))

  -- the rules that give the flow are the same, in the order of their numbers
  giving_same : map (slice_get (stored_rules policy)) (filter (gives_least weights policy least from to) (counted_numbers (rules_under policy on))) ≡ map (slice_get (stored_rules only)) (filter (gives_least weights only least from to) (counted_numbers (all_rules only)))
  giving_same =
      ap (λ (test : ℕ → Bool). map (slice_get (stored_rules policy)) (filter test (counted_numbers (rules_under policy on)))) gives_is
      ∙ mapped_kept (slice_get (stored_rules policy)) reaches (counted_numbers (rules_under policy on))
      ∙ ap (filter reaches) (of_enabled (λ found. found) policy on)
      ∙ sym (mapped_kept (slice_get (stored_rules only)) reaches (counted_numbers (all_rules only)))
      ∙ ap (λ (test : ℕ → Bool). map (slice_get (stored_rules only)) (filter test (counted_numbers (all_rules only)))) (sym only_gives)

  counted_rise : (rules : Counted) (test : ℕ → Bool) → RiseFrom 0 (filter test (counted_numbers rules))
  counted_rise rules test =
      let all = range_with_len 0 (length (stored_rules rules.policy)) in
      rise_filter test 0 (counted_numbers rules) (rise_filter (is_counted rules) 0 all (rise_range 0 (length (stored_rules rules.policy))))

  ordered_same : map (slice_get (stored_rules policy)) (in_rule_order policy (filter (gives_least weights policy least from to) (counted_numbers (rules_under policy on)))) ≡ map (slice_get (stored_rules only)) (in_rule_order only (filter (gives_least weights only least from to) (counted_numbers (all_rules only))))
  unfolding ordered_by
  ordered_same =
      sort_same (slice_get (stored_rules policy)) (slice_get (stored_rules only)) (is_listed_before policy) (is_listed_before only) (same_order policy on) 0 0 [] []
      (filter (gives_least weights policy least from to) (counted_numbers (rules_under policy on))) (filter (gives_least weights only least from to) (counted_numbers (all_rules only)))
      tt tt (counted_rise (rules_under policy on) (gives_least weights policy least from to)) (counted_rise (all_rules only) (gives_least weights only least from to)) refl giving_same

  pub enabled_listed : map (slice_get (stored_rules policy)) (flow_rules weights (rules_under policy on) least from to) ≡ map (slice_get (stored_rules only)) (flow_rules weights (all_rules only) least from to)
  unfolding flow_rules
  enabled_listed = by (are_two_types policy from to)
    where
      by : (test : Bool) → map (slice_get (stored_rules policy)) (cond test (in_rule_order policy (filter (gives_least weights policy least from to) (counted_numbers (rules_under policy on)))) []) ≡ map (slice_get (stored_rules only)) (cond test (in_rule_order only (filter (gives_least weights only least from to) (counted_numbers (all_rules only)))) [])
      by true = ordered_same
      by false = refl
