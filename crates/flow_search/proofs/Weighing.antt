-- The weights of rules, by the weights of the permissions of classes.
use Rattle.std.proofs.Common.{◌≡◌, inl, inr, ℕ, ◌+◌, ◌^◌, ◌<◌, ◌≤◌, max, List, [], ◌∷◌, ◌++◌, length, map, get_or, take, Bool, true, false, ◌&&◌, ◌||◌, cond, eqb, leb, Option, Some, None, slice_get, slice_index_or, refl, sym, ap, ◌∙◌, subst, arith, append-nil}
use Rattle.std.proofs.Math.Nat.{max-eq_left, max-le}
use Rattle.std.specs.List.{filter, range_with_len}
use Rattle.std.specs.Int.{bit_at}
use Rattle.std.proofs.lemmas.List.{map_push}
use Rattle.std.proofs.lemmas.List.Elements.{filter-append, filter_more}
use Rattle.std.proofs.lemmas.List.Sums.{fold_push}
use Rattle.std.proofs.lemmas.Option.{slice_get_cases}
use Rattle.pol_cursor.specs.References.{Placed}
use Rattle.pol_fields.specs.declared.TableKind.TheVariants.{Classes}
use Rattle.pol_commons.specs.declared.PermissionRec.{PermissionRec}
use Rattle.pol_commons.specs.Permissions.{has_permission}
use Rattle.pol_classes.specs.declared.ClassRec.{ClassRec}
use Rattle.pol_symbols.specs.declared.Symbols.{Symbols}
use Rattle.pol_symbols.specs.PolicySymbols.{index_in, permissions_of}
use Rattle.pol_symbols.proofs.SymbolSearch.{primary_found, primary_is_within, primary_missing}
use Rattle.pol_cursor.proofs.Ranges.{filter_range_one}
use Rattle.pol_file.specs.declared.Parts.{Parts}
use Rattle.pol_read.specs.StoredRules.{StoredRule, stored_rules}
use Rattle.counted_rules.specs.CountedRules.{Counted, counts}
use Rattle.perm_map.specs.declared.Direction.{Direction}
use Rattle.perm_map.specs.PermissionMap.{Entry, Weights, weights_of}
use Rattle.flow_search.specs.declared.class_weights.PermissionWeight.{PermissionWeight}
use Rattle.flow_search.specs.FlowWeights.{class_of, greatest, inwards, mask_weight, outwards, permission_weight, rule_weight}
use Rattle.pol_expand.specs.JoinedTypes.{joins, passes}
use Rattle.flow_search.specs.Flows.{given_by, is_counted, weight_found, weight_of_rule}
use Rattle.flow_search.specs.Inner.FlowParts.{reaches}
use Rattle.flow_search.specs.declared.reach_bits.ReachBits.{ReachBits}
use Rattle.flow_search.specs.Inner.WeightTables.{AreBitsOf, AreReachBits, AreWeights, HaveReachBits, Reached, class_weights, greatest_into, greatest_out, is_in, shares_bit, weighed}
use Rattle.flow_search.proofs.Masks.{no_bits}
use Rattle.flow_search.proofs.ReachedWeights.{le_max, not_le_zero}

-- ---- the greatest, one after the other

greatest_push : (xs : List ℕ) (x : ℕ) → greatest (xs ++ x ∷ []) ≡ max (greatest xs) x
greatest_push xs x = fold_push max 0 xs x

greatest_where : {X : Type 0} (f : X → ℕ) (xs : List X) (x : X) (test : Bool) → greatest (map f (xs ++ cond test (x ∷ []) [])) ≡ cond test (max (greatest (map f xs)) (f x)) (greatest (map f xs))
greatest_where f xs x true = ap greatest (map_push f xs x) ∙ greatest_push (map f xs) (f x)
greatest_where f xs x false = ap (λ ys. greatest (map f ys)) (append-nil xs)

greatest_more : {X : Type 0} (f : X → ℕ) (p : X → Bool) (xs : List X) (i : ℕ) (d : X) → i < length xs → greatest (map f (filter p (take (i + 1) xs))) ≡ cond (p (get_or xs i d)) (max (greatest (map f (filter p (take i xs)))) (f (get_or xs i d))) (greatest (map f (filter p (take i xs))))
greatest_more f p xs i d lt = ap (λ ys. greatest (map f ys)) (filter_more p xs i d lt) ∙ greatest_where f (filter p (take i xs)) (get_or xs i d) (p (get_or xs i d))

pub out_more : (mask : ℕ) (permissions : List PermissionWeight) (i : ℕ) (d : PermissionWeight) → i < length permissions → greatest_out mask (take (i + 1) permissions) ≡ cond (is_in mask (get_or permissions i d)) (max (greatest_out mask (take i permissions)) (get_or permissions i d).out) (greatest_out mask (take i permissions))
unfolding greatest_out
out_more mask permissions i d lt = greatest_more (λ p. p.out) (is_in mask) permissions i d lt

pub into_more : (mask : ℕ) (permissions : List PermissionWeight) (i : ℕ) (d : PermissionWeight) → i < length permissions → greatest_into mask (take (i + 1) permissions) ≡ cond (is_in mask (get_or permissions i d)) (max (greatest_into mask (take i permissions)) (get_or permissions i d).into) (greatest_into mask (take i permissions))
unfolding greatest_into
into_more mask permissions i d lt = greatest_more (λ p. p.into) (is_in mask) permissions i d lt

-- the greatest that is given by one number more, where it passes a test
pub numbers_more : (g : ℕ → ℕ) (p : ℕ → Bool) (n : ℕ) → greatest (map g (filter p (range_with_len 0 (n + 1)))) ≡ cond (p n) (max (greatest (map g (filter p (range_with_len 0 n)))) (g n)) (greatest (map g (filter p (range_with_len 0 n))))
numbers_more g p n =
    ap (λ (xs : List ℕ). greatest (map g xs)) (filter_range_one p 0 n n (omega arith)) ∙ greatest_where g (filter p (range_with_len 0 n)) n (p n)

-- ---- rules that reach a weight, one after the other

kept_alone : (p : ℕ → Bool) (x : ℕ) (test : Bool) → filter p (cond test (x ∷ []) []) ≡ cond (test && p x) (x ∷ []) []
kept_alone p x true = refl
kept_alone p x false = refl

-- one number more, where it passes both of two tests
kept_more : (p q : ℕ → Bool) (n : ℕ) → filter p (filter q (range_with_len 0 (n + 1))) ≡ filter p (filter q (range_with_len 0 n)) ++ cond (q n && p n) (n ∷ []) []
kept_more p q n =
    ap (filter p) (filter_range_one q 0 n n (omega arith)) ∙ filter-append p (filter q (range_with_len 0 n)) (cond (q n) (n ∷ []) [])
    ∙ ap (λ (xs : List ℕ). filter p (filter q (range_with_len 0 n)) ++ xs) (kept_alone p n (q n))

-- one rule more, where it counts and reaches a weight
pub reached_more : (way : Direction → ℕ → ℕ) (weights : Weights) (rules : Counted) (least number : ℕ) (rule : StoredRule) (holds : Bool) (old new : List ℕ) → slice_get (stored_rules rules.policy) number ≡ Some rule → old ≡ filter (reaches way weights rules.policy least) (filter (is_counted rules) (range_with_len 0 number))
    → holds ≡ (counts rules rule && leb least (rule_weight way weights rules.policy.symbols rule)) → new ≡ old ++ cond holds (number ∷ []) [] → new ≡ filter (reaches way weights rules.policy least) (filter (is_counted rules) (range_with_len 0 (number + 1)))
unfolding weight_of_rule
reached_more way weights rules least number rule holds old new at was is more =
    let sofar = filter (reaches way weights rules.policy least) (filter (is_counted rules) (range_with_len 0 number)) in
    more ∙ ap (λ (xs : List ℕ). xs ++ cond holds (number ∷ []) []) was
    ∙ ap (λ (test : Bool). sofar ++ cond test (number ∷ []) []) (is ∙ ap (λ (found : Option StoredRule). passes (counts rules) found && leb least (weight_found way weights rules.policy found)) (sym at))
    ∙ sym (kept_more (reaches way weights rules.policy least) (is_counted rules) number)

-- what a test of a least weight answers of a rule
pub by_test : (way : Direction → ℕ → ℕ) (test : Reached) (rules : Counted) (entries : List Entry) (least : ℕ) (rule : StoredRule) (holds : Bool) → test ≡ record { rules = rules; entries = entries; least = least }
    → holds ≡ (counts test.rules rule && leb test.least (rule_weight way (weights_of test.entries) test.rules.policy.symbols rule)) → holds ≡ (counts rules rule && leb least (rule_weight way (weights_of entries) rules.policy.symbols rule))
by_test way test rules entries least rule holds made is =
    is ∙ ap (λ (t : Reached). counts t.rules rule && leb t.least (rule_weight way (weights_of t.entries) t.rules.policy.symbols rule)) made

-- ---- permissions

kept_out : (weights : Weights) (class : List ℕ) (mask : ℕ) (permissions : List PermissionRec) → map (λ (p : PermissionWeight). p.out) (filter (is_in mask) (map (weighed weights class) permissions)) ≡ map (permission_weight outwards weights class) (filter (has_permission mask) permissions)
kept_out weights class mask [] = refl
kept_out weights class mask (p ∷ ps) = by (has_permission mask p) (kept_out weights class mask ps)
  where
    by : (test : Bool) → map (λ (p : PermissionWeight). p.out) (filter (is_in mask) (map (weighed weights class) ps)) ≡ map (permission_weight outwards weights class) (filter (has_permission mask) ps) → map (λ (p : PermissionWeight). p.out) (cond test (weighed weights class p ∷ filter (is_in mask) (map (weighed weights class) ps)) (filter (is_in mask) (map (weighed weights class) ps))) ≡ map (permission_weight outwards weights class) (cond test (p ∷ filter (has_permission mask) ps) (filter (has_permission mask) ps))
    by true h = ap (λ (xs : List ℕ). permission_weight outwards weights class p ∷ xs) h
    by false h = h

kept_into : (weights : Weights) (class : List ℕ) (mask : ℕ) (permissions : List PermissionRec) → map (λ (p : PermissionWeight). p.into) (filter (is_in mask) (map (weighed weights class) permissions)) ≡ map (permission_weight inwards weights class) (filter (has_permission mask) permissions)
kept_into weights class mask [] = refl
kept_into weights class mask (p ∷ ps) = by (has_permission mask p) (kept_into weights class mask ps)
  where
    by : (test : Bool) → map (λ (p : PermissionWeight). p.into) (filter (is_in mask) (map (weighed weights class) ps)) ≡ map (permission_weight inwards weights class) (filter (has_permission mask) ps) → map (λ (p : PermissionWeight). p.into) (cond test (weighed weights class p ∷ filter (is_in mask) (map (weighed weights class) ps)) (filter (is_in mask) (map (weighed weights class) ps))) ≡ map (permission_weight inwards weights class) (cond test (p ∷ filter (has_permission mask) ps) (filter (has_permission mask) ps))
    by true h = ap (λ (xs : List ℕ). permission_weight inwards weights class p ∷ xs) h
    by false h = h

out_of_class : (weights : Weights) (symbols : Symbols) (class : ClassRec) (mask : ℕ) → greatest_out mask (class_weights weights symbols class) ≡ greatest (map (permission_weight outwards weights class.name) (filter (has_permission mask) (permissions_of symbols class)))
unfolding greatest_out class_weights
out_of_class weights symbols class mask = ap greatest (kept_out weights class.name mask (permissions_of symbols class))

into_of_class : (weights : Weights) (symbols : Symbols) (class : ClassRec) (mask : ℕ) → greatest_into mask (class_weights weights symbols class) ≡ greatest (map (permission_weight inwards weights class.name) (filter (has_permission mask) (permissions_of symbols class)))
unfolding greatest_into class_weights
into_of_class weights symbols class mask = ap greatest (kept_into weights class.name mask (permissions_of symbols class))

-- ---- classes

module _ (weights : Weights) (symbols : Symbols) (lists : List (List PermissionWeight)) (are : AreWeights weights symbols lists) (class mask : ℕ) where
  pub class_within : (i : ℕ) → index_in symbols Classes class ≡ Some i → i < length lists
  class_within i is =
      let within = primary_is_within (λ (class : ClassRec). true) (λ class. class.value) symbols.classes.records class i is in
      omega (arith, within, are.count)

  out_at : (i : ℕ) (found : Placed ClassRec) → index_in symbols Classes class ≡ Some i → slice_get symbols.classes.records i ≡ Some found → greatest_out mask (slice_index_or lists i []) ≡ mask_weight outwards weights symbols (class_of symbols class) mask
  out_at i found is at =
      ap (greatest_out mask) (are.each i found at) ∙ out_of_class weights symbols found.value mask
      ∙ ap (λ (c : Option (Placed ClassRec)). mask_weight outwards weights symbols c mask) (sym (primary_found (λ (class : ClassRec). true) (λ class. class.value) symbols.classes.records class i found is at))

  into_at : (i : ℕ) (found : Placed ClassRec) → index_in symbols Classes class ≡ Some i → slice_get symbols.classes.records i ≡ Some found → greatest_into mask (slice_index_or lists i []) ≡ mask_weight inwards weights symbols (class_of symbols class) mask
  into_at i found is at =
      ap (greatest_into mask) (are.each i found at) ∙ into_of_class weights symbols found.value mask
      ∙ ap (λ (c : Option (Placed ClassRec)). mask_weight inwards weights symbols c mask) (sym (primary_found (λ (class : ClassRec). true) (λ class. class.value) symbols.classes.records class i found is at))

  pub class_out : (i : ℕ) → index_in symbols Classes class ≡ Some i → greatest_out mask (slice_index_or lists i []) ≡ mask_weight outwards weights symbols (class_of symbols class) mask
  class_out i is = elim (slice_get_cases symbols.classes.records i).1 [
    | inl there ↦ out_at i there.0 is there.2
    | inr past ↦ absurd (omega (arith, primary_is_within (λ (class : ClassRec). true) (λ class. class.value) symbols.classes.records class i is, past.0))
  ]

  pub class_into : (i : ℕ) → index_in symbols Classes class ≡ Some i → greatest_into mask (slice_index_or lists i []) ≡ mask_weight inwards weights symbols (class_of symbols class) mask
  class_into i is = elim (slice_get_cases symbols.classes.records i).1 [
    | inl there ↦ into_at i there.0 is there.2
    | inr past ↦ absurd (omega (arith, primary_is_within (λ (class : ClassRec). true) (λ class. class.value) symbols.classes.records class i is, past.0))
  ]

pub class_missing : (way : Direction → ℕ → ℕ) (weights : Weights) (symbols : Symbols) (class mask : ℕ) → index_in symbols Classes class ≡ None → 0 ≡ mask_weight way weights symbols (class_of symbols class) mask
class_missing way weights symbols class mask is =
    ap (λ (c : Option (Placed ClassRec)). mask_weight way weights symbols c mask) (sym (primary_missing (λ (class : ClassRec). true) (λ class. class.value) symbols.classes.records class is))

-- ---- permissions that reach a weight, as bits

or_none : (b : Bool) → b ≡ (b || false)
or_none true = refl
or_none false = refl

le_where_had : (w a b : ℕ) (has : Bool) → leb w (cond has (max a b) a) ≡ (leb w a || (leb w b && has))
le_where_had w a b true = le_max w a b ∙ ap (λ (test : Bool). leb w a || test) (and_true (leb w b))
  where
    and_true : (test : Bool) → test ≡ (test && true)
    and_true true = refl
    and_true false = refl
le_where_had w a b false = or_none (leb w a) ∙ ap (λ (test : Bool). leb w a || test) (and_false (leb w b))
  where
    and_false : (test : Bool) → false ≡ (test && false)
    and_false true = refl
    and_false false = refl

-- of no permission there is no bit
pub no_reach : (least : ℕ) → 1 ≤ least → AreReachBits least [] (record { out = 0; into = 0 })
unfolding greatest_out greatest_into
no_reach least some = record {
  out = λ mask small. no_bits mask ∙ sym (not_le_zero least some);
  into = λ mask small. no_bits mask ∙ sym (not_le_zero least some);
}

-- one permission more
pub more_reach : (least : ℕ) (permissions : List PermissionWeight) (i : ℕ) (d : PermissionWeight) (old new : ReachBits) → i < length permissions → AreReachBits least (take i permissions) old
    → ((mask : ℕ) → mask < 2 ^ 32 → shares_bit mask new.out ≡ (shares_bit mask old.out || (leb least (get_or permissions i d).out && eqb (bit_at mask (get_or permissions i d).place) 1)))
    → ((mask : ℕ) → mask < 2 ^ 32 → shares_bit mask new.into ≡ (shares_bit mask old.into || (leb least (get_or permissions i d).into && eqb (bit_at mask (get_or permissions i d).place) 1)))
    → AreReachBits least (take (i + 1) permissions) new
more_reach least permissions i d old new lt are out into = record {
  out = λ mask small. (let p = get_or permissions i d in
      out mask small ∙ ap (λ (test : Bool). test || (leb least p.out && is_in mask p)) (are.out mask small)
      ∙ sym (ap (leb least) (out_more mask permissions i d lt) ∙ le_where_had least (greatest_out mask (take i permissions)) p.out (is_in mask p)));
  into = λ mask small. (let p = get_or permissions i d in
      into mask small ∙ ap (λ (test : Bool). test || (leb least p.into && is_in mask p)) (are.into mask small)
      ∙ sym (ap (leb least) (into_more mask permissions i d lt) ∙ le_where_had least (greatest_into mask (take i permissions)) p.into (is_in mask p)));
}

-- ---- by classes

pub have_bits : (weights : Weights) (symbols : Symbols) (least : ℕ) (lists : List (List PermissionWeight)) (classes : List ReachBits) → 1 ≤ least → AreWeights weights symbols lists → AreBitsOf least lists classes → HaveReachBits weights symbols least classes
have_bits weights symbols least lists classes some are bits = record {
  some = some;
  count = bits.count ∙ are.count;
  each = λ i class found at got. subst (λ (permissions : List PermissionWeight). AreReachBits least permissions found) (are.each i class at) (bits.each i found got);
}

module _ (weights : Weights) (symbols : Symbols) (least : ℕ) (classes : List ReachBits) (have : HaveReachBits weights symbols least classes) (class : ℕ) where
  pub reach_within : (i : ℕ) → index_in symbols Classes class ≡ Some i → i < length classes
  reach_within i is =
      let within = primary_is_within (λ (class : ClassRec). true) (λ class. class.value) symbols.classes.records class i is in
      omega (arith, within, have.count)

  out_reached : (i : ℕ) (found : Placed ClassRec) (bits : ReachBits) (mask : ℕ) → mask < 2 ^ 32 → index_in symbols Classes class ≡ Some i → slice_get symbols.classes.records i ≡ Some found → slice_get classes i ≡ Some bits → shares_bit mask bits.out ≡ leb least (mask_weight outwards weights symbols (class_of symbols class) mask)
  out_reached i found bits mask small is at got =
      (have.each i found bits at got).out mask small
      ∙ ap (leb least) (out_of_class weights symbols found.value mask
      ∙ ap (λ (c : Option (Placed ClassRec)). mask_weight outwards weights symbols c mask) (sym (primary_found (λ (class : ClassRec). true) (λ class. class.value) symbols.classes.records class i found is at)))

  into_reached : (i : ℕ) (found : Placed ClassRec) (bits : ReachBits) (mask : ℕ) → mask < 2 ^ 32 → index_in symbols Classes class ≡ Some i → slice_get symbols.classes.records i ≡ Some found → slice_get classes i ≡ Some bits → shares_bit mask bits.into ≡ leb least (mask_weight inwards weights symbols (class_of symbols class) mask)
  into_reached i found bits mask small is at got =
      (have.each i found bits at got).into mask small
      ∙ ap (leb least) (into_of_class weights symbols found.value mask
      ∙ ap (λ (c : Option (Placed ClassRec)). mask_weight inwards weights symbols c mask) (sym (primary_found (λ (class : ClassRec). true) (λ class. class.value) symbols.classes.records class i found is at)))

  pub reach_out : (i : ℕ) (bits : ReachBits) (mask : ℕ) → mask < 2 ^ 32 → index_in symbols Classes class ≡ Some i → slice_get classes i ≡ Some bits → shares_bit mask bits.out ≡ leb least (mask_weight outwards weights symbols (class_of symbols class) mask)
  reach_out i bits mask small is got = elim (slice_get_cases symbols.classes.records i).1 [
    | inl there ↦ out_reached i there.0 bits mask small is there.2 got
    | inr past ↦ absurd (omega (arith, primary_is_within (λ (class : ClassRec). true) (λ class. class.value) symbols.classes.records class i is, past.0))
  ]

  pub reach_into : (i : ℕ) (bits : ReachBits) (mask : ℕ) → mask < 2 ^ 32 → index_in symbols Classes class ≡ Some i → slice_get classes i ≡ Some bits → shares_bit mask bits.into ≡ leb least (mask_weight inwards weights symbols (class_of symbols class) mask)
  reach_into i bits mask small is got = elim (slice_get_cases symbols.classes.records i).1 [
    | inl there ↦ into_reached i there.0 bits mask small is there.2 got
    | inr past ↦ absurd (omega (arith, primary_is_within (λ (class : ClassRec). true) (λ class. class.value) symbols.classes.records class i is, past.0))
  ]

-- ---- a weight that a rule does not raise

below_where : (test : Bool) (x w : ℕ) → x ≤ w → cond test x 0 ≤ w
below_where true x w h = h
below_where false x w h = omega arith

-- a rule that weighs no more gives no more
pub nothing_raised : (weights : Weights) (policy : Parts) (from to number w : ℕ) (rule : StoredRule) → slice_get (stored_rules policy) number ≡ Some rule → rule_weight outwards weights policy.symbols rule ≤ w → rule_weight inwards weights policy.symbols rule ≤ w
    → w ≡ max w (given_by weights policy from to number)
unfolding given_by weight_of_rule
nothing_raised weights policy from to number w rule at out into =
    let ahead = subst (λ (found : Option StoredRule). weight_found outwards weights policy found ≤ w) (sym at) out in
    let back = subst (λ (found : Option StoredRule). weight_found inwards weights policy found ≤ w) (sym at) into in
    sym (max-eq_left (max-le (below_where (joins policy from to number) (weight_found outwards weights policy (slice_get (stored_rules policy) number)) w ahead) (below_where (joins policy to from number) (weight_found inwards weights policy (slice_get (stored_rules policy) number)) w back)))
