-- The booleans of a condition, and those that are asked.
use Rattle.std.proofs.Common.{◌≡◌, ℕ, ◌<◌, Bool, true, Option, Some, None, Result, Ok, Err, IfOk, List, refl, sym, ap, subst, ◌∙◌, arith}
use Rattle.std.specs.Prelude.{◌↔◌, ◌&&◌, IsTrue, nat_eq, option_map, slice_get, Contains}
use Rattle.std.proofs.lemmas.Option.{same_Some}
use Rattle.std.specs.List.{filter, list_any, list_all, range_with_len}
use Rattle.std.specs.List.Sorted.{IsStrictlyIncreasing}
use Rattle.pol_bitmap.proofs.Elements.{kept, keeps, contains_range}
use Rattle.pol_expand.proofs.Values.{filter_rises}
use Rattle.pol_fields.specs.declared.TableKind.TheVariants.{Booleans}
use Rattle.pol_bitmap.specs.declared.Node.{Node}
use Rattle.pol_bitmap.specs.Nodes.{bits_of, has_bit}
use Rattle.pol_bitmap.specs.Sets.{ShareBit, ContainsEach}
use Rattle.pol_bitmap.proofs.BitLists.{has_bit-from_bits, bits-from_has_bit}
use Rattle.pol_symbols.specs.PolicySymbols.{value_in}
use Rattle.pol_symbols.specs.declared.Symbols.{Symbols}
use Rattle.named_values.specs.Named.{is_named}
use Rattle.named_values.proofs.Tests.{any_from_there, there_from_any}
use Rattle.named_values.proofs.LookedUp.{looked_up}
use Rattle.rule_criteria.specs.Elements.{elements_of}
use Rattle.pol_cursor.specs.References.{Placed}
use Rattle.pol_expr.specs.declared.ConditionRec.{ConditionRec}
use Rattle.pol_expr.specs.ConditionMeaning.{booleans_in}
use Rattle.pol_conditionals.specs.declared.CondNodeRec.{CondNodeRec}
use Rattle.pol_conditionals.specs.CondNodeRecord.{node_condition}
use Rattle.pol_file.specs.declared.Parts.{Parts}
use Rattle.rule_criteria.specs.declared.Criterion.{Criterion}
use Rattle.rule_criteria.specs.declared.Mode.{Mode}
use Rattle.rule_criteria.specs.declared.Mode.TheVariants.{Plain, Direct, Pattern, PatternDirect, Equal, Subset}
use Rattle.rule_query.specs.Listed.{compare_booleans, is_listed, listed_booleans, meets_node, node_booleans}
use Rattle.rule_tests.proofs.ListTests.{same_tests, and_both, and_from, any_from, any_to, all_at, all_from}

module _ (test : ℕ → Bool) (bs : List ℕ) (asked booleans : List Node) (same : (value : ℕ) → has_bit asked value ≡ test value) (are : (b : ℕ) → Contains (bits_of booleans) b ↔ Contains bs b) where
  asked_from : (b : ℕ) → Contains (bits_of asked) b → test b ≡ true
  asked_from b there = sym (same b) ∙ has_bit-from_bits asked b there

  asked_to : (b : ℕ) → test b ≡ true → Contains (bits_of asked) b
  asked_to b e = bits-from_has_bit asked b (same b ∙ e)

  pub shares_one : (r : Bool) → IsTrue r ↔ ShareBit (bits_of asked) (bits_of booleans) → r ≡ list_any test bs
  shares_one r h = same_tests r (list_any test bs)
      (λ e. let s = h.0 e in any_from test bs s.bit ((are s.bit).0 s.right) (asked_from s.bit s.left))
      (λ e. let p = any_to test bs e in h.1 (record { bit = p.one; left = asked_to p.one p.passes; right = (are p.one).1 p.there }))

  each_asked : ContainsEach (bits_of asked) (bits_of booleans) → list_all test bs ≡ true
  each_asked s = all_from test bs (λ b there. asked_from b (s.each b ((are b).1 there)))

  asked_each : list_all test bs ≡ true → ContainsEach (bits_of asked) (bits_of booleans)
  asked_each e = record { each = λ b there. asked_to b (all_at test bs e b ((are b).0 there)) }

  module _ (listed : List ℕ) (is : (value : ℕ) → test value ≡ list_any (nat_eq value) listed) where
    each_there : ContainsEach (bits_of booleans) (bits_of asked) → list_all (λ b. list_any (nat_eq b) bs) listed ≡ true
    each_there s = all_from (λ b. list_any (nat_eq b) bs) listed (λ b there. any_from_there b bs ((are b).0 (s.each b (asked_to b (is b ∙ any_from_there b listed there)))))

    there_each : list_all (λ b. list_any (nat_eq b) bs) listed ≡ true → ContainsEach (bits_of booleans) (bits_of asked)
    there_each e = record { each = λ b there. (are b).1 (there_from_any b bs (all_at (λ b. list_any (nat_eq b) bs) listed e b (there_from_any b listed (sym (is b) ∙ asked_from b there)))) }

    pub same_both : (r : Bool) → IsTrue r ↔ (ContainsEach (bits_of asked) (bits_of booleans) × ContainsEach (bits_of booleans) (bits_of asked)) → r ≡ (list_all test bs && list_all (λ b. list_any (nat_eq b) bs) listed)
    same_both r h = same_tests r (list_all test bs && list_all (λ b. list_any (nat_eq b) bs) listed)
        (λ e. let s = h.0 e in and_from (list_all test bs) (list_all (λ b. list_any (nat_eq b) bs) listed) (each_asked s.0) (each_there s.1))
        (λ e. let b = and_both (list_all test bs) (list_all (λ b. list_any (nat_eq b) bs) listed) e in h.1 (asked_each b.0, there_each b.1))

-- the values that are listed are those that names are looked up to
pub listed_is : (symbols : Symbols) (text : List ℕ) (value : ℕ) → is_named symbols Booleans (elements_of text) value ≡ list_any (nat_eq value) (listed_booleans symbols text)
listed_is symbols text value = sym (looked_up (value_in symbols Booleans) value (elements_of text))

-- a set of the numbers below a limit that pass a test
pub kept_set : {E : Type 0} (p : ℕ → Bool) (n : ℕ) (items : List ℕ) (r : Result (List Node) E) → items ≡ filter p (range_with_len 0 n) → IfOk r (λ set. bits_of set ≡ items) → IfOk r (λ set. (node : ℕ) → node < n → has_bit set node ≡ p node)
kept_set p n items (Err e) is h = tt
kept_set p n items (Ok set) is h = λ node lt. same_tests _ _
    (λ e. (kept p (range_with_len 0 n) node (subst (λ (xs : List ℕ). Contains xs node) (h ∙ is) (bits-from_has_bit set node e))).1)
    (λ e. has_bit-from_bits set node (subst (λ (xs : List ℕ). Contains xs node) (sym (h ∙ is)) (keeps p (range_with_len 0 n) node (contains_range 0 n node (omega arith) (omega (arith, lt))) e)))

pub kept_rises : (p : ℕ → Bool) (n : ℕ) (items : List ℕ) → items ≡ filter p (range_with_len 0 n) → IsStrictlyIncreasing items
kept_rises p n items is = rw is (filter_rises p 0 n)

-- ---- the booleans of a node

node_has : (o : Option (Placed CondNodeRec)) (condition : Placed ConditionRec) → option_map node_condition o ≡ Some condition → node_booleans o ≡ booleans_in condition.value.items
node_has None condition e = absurd cc
node_has (Some node) condition e = ap (λ (c : Placed ConditionRec). booleans_in c.value.items) (same_Some (node_condition node) condition e)

module _ (policy : Parts) (criterion : Criterion) (n : ℕ) (condition : Placed ConditionRec) (at : option_map node_condition (slice_get policy.rules.conditionals n) ≡ Some condition) (asked booleans : List Node) (same : (value : ℕ) → has_bit asked value ≡ is_listed policy.symbols Booleans criterion value) (are : (b : ℕ) → Contains (bits_of booleans) b ↔ Contains (booleans_in condition.value.items) b) where
  bs : List ℕ
  bs = booleans_in condition.value.items

  equal_mode : criterion.mode ≡ Equal → (value : ℕ) → is_listed policy.symbols Booleans criterion value ≡ list_any (nat_eq value) (listed_booleans policy.symbols criterion.text)
  equal_mode e value = rw e (listed_is policy.symbols criterion.text value)

  pub node_equal : (r : Bool) → criterion.mode ≡ Equal → IsTrue r ↔ (ContainsEach (bits_of asked) (bits_of booleans) × ContainsEach (bits_of booleans) (bits_of asked)) → r ≡ meets_node policy criterion n
  node_equal r e h =
      same_both (is_listed policy.symbols Booleans criterion) (booleans_in condition.value.items) asked booleans same are (listed_booleans policy.symbols criterion.text) (equal_mode e) r h
      ∙ sym (ap (λ (mode : Mode). compare_booleans policy.symbols criterion mode (node_booleans (slice_get policy.rules.conditionals n))) e
      ∙ ap (λ (l : List ℕ). compare_booleans policy.symbols criterion Equal l) (node_has (slice_get policy.rules.conditionals n) condition at))

  by_mode : (mode : Mode) → (mode ≡ Equal → ⊥) → (l : List ℕ) → compare_booleans policy.symbols criterion mode l ≡ list_any (is_listed policy.symbols Booleans criterion) l
  by_mode Equal other l = absurd (other refl)
  by_mode Plain other l = refl
  by_mode Direct other l = refl
  by_mode Pattern other l = refl
  by_mode PatternDirect other l = refl
  by_mode Subset other l = refl

  pub node_shares : (r : Bool) → (criterion.mode ≡ Equal → ⊥) → IsTrue r ↔ ShareBit (bits_of asked) (bits_of booleans) → r ≡ meets_node policy criterion n
  node_shares r other h =
      shares_one (is_listed policy.symbols Booleans criterion) (booleans_in condition.value.items) asked booleans same are r h
      ∙ sym (by_mode criterion.mode other (node_booleans (slice_get policy.rules.conditionals n))
      ∙ ap (list_any (is_listed policy.symbols Booleans criterion)) (node_has (slice_get policy.rules.conditionals n) condition at))
