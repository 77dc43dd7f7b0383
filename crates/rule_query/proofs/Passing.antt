-- A query of tests, one for each criterion.
use Rattle.std.proofs.Common.{◌≡◌, ℕ, suc, ◌+◌, ◌-◌, ◌<◌, ◌≤◌, Bool, true, false, cond, Some, None, List, [], ◌∷◌, ◌++◌, refl, sym, ap, ◌∙◌, zero-add, append-nil, arith}
use Rattle.std.specs.Prelude.{slice_get}
use Rattle.std.specs.List.{find, filter, list_all, range_with_len}
use Rattle.std.proofs.lemmas.List.Folds.{list_all-append}
use Rattle.pol_cursor.proofs.Ranges.{filter_range_one}
use Rattle.pol_file.specs.declared.Parts.{Parts}
use Rattle.pol_read.specs.DeclaredRules.{IsDeclaredRule}
use Rattle.pol_read.specs.StoredRules.{StoredRule, stored_rules}
use Rattle.rule_criteria.specs.declared.Criteria.{Criteria}
use Rattle.rule_query.specs.declared.tests.Test.{Test}
use Rattle.rule_query.specs.declared.query.Query.{Query}
use Rattle.rule_query.specs.GivenCriteria.{Given, in_word_order, source_given, target_given}
use Rattle.rule_query.specs.Meeting.{meets, meets_found, meets_given, meets_rule}
use Rattle.rule_query.specs.QueryTests.{first_of, passes, rule_test, sources_of, targets_of}
use Rattle.rule_query.specs.Inner.Resolved.{AreSameTests, Gains}
use Rattle.rule_query.specs.Queries.{AreTypesOf, IsQueryOf}
use Rattle.rule_query.proofs.AskedEnds.{asked_more, source_in_order, target_in_order}

-- tests pass the declared rules that meet these criteria, and have the types that they ask for
pub record PassAlike (policy : Parts) (done : List Given) (tests : List Test) : Type 0 where
  pub tells : (rule : StoredRule) → IsDeclaredRule policy rule → list_all (rule_test policy.symbols rule) tests ≡ list_all (meets_given policy rule) done
  pub sources : AreTypesOf policy (first_of source_given done) (first_of sources_of tests)
  pub targets : AreTypesOf policy (first_of target_given done) (first_of targets_of tests)

pub no_tests : (policy : Parts) → PassAlike policy [] []
no_tests policy = record { tells = λ rule declared. refl; sources = tt; targets = tt }

-- one more
pub one_test : (policy : Parts) (done : List Given) (given : Given) (old new : List Test) → PassAlike policy done old → Gains policy given old new → PassAlike policy (done ++ given ∷ []) new
one_test policy done given old new alike gains = record {
  tells = λ rule declared.
      let p = rule_test policy.symbols rule in
      let q = meets_given policy rule in
      ap (list_all p) gains.added ∙ list_all-append p old (gains.test ∷ [])
      ∙ rw (alike.tells rule declared, gains.right.tells rule declared) refl
      ∙ sym (list_all-append q done (given ∷ []));
  sources = rw (gains.added) (asked_more policy source_given sources_of done old given gains.test alike.sources gains.right.sources);
  targets = rw (gains.added) (asked_more policy target_given targets_of done old given gains.test alike.targets gains.right.targets);
}

-- tests in another order pass alike
pub put_alike : (policy : Parts) (done : List Given) (these those : List Test) → PassAlike policy done these → AreSameTests these those → PassAlike policy done those
put_alike policy done these those alike same = record {
  tells = λ rule declared. same.pass (rule_test policy.symbols rule) ∙ alike.tells rule declared;
  sources = rw same.sources alike.sources;
  targets = rw same.targets alike.targets;
}

-- all of them
pub query_is : (policy : Parts) (criteria : Criteria) (query : Query) → query.kinds ≡ criteria.kinds → PassAlike policy (in_word_order criteria) query.tests.items → IsQueryOf policy criteria query
unfolding meets_rule
query_is policy criteria query kinds alike = record {
  tells = λ rule declared. rw (kinds, alike.tells rule declared) refl;
  sources = rw (source_in_order criteria) at alike.sources;
  targets = rw (target_in_order criteria) at alike.targets;
}

-- ---- by numbers of rules

pub meets_at : (policy : Parts) (criteria : Criteria) (query : Query) (rule : StoredRule) (n : ℕ) (r : Bool) → IsQueryOf policy criteria query → IsDeclaredRule policy rule → slice_get (stored_rules policy) n ≡ Some rule → r ≡ passes policy.symbols query rule → r ≡ meets policy criteria n
unfolding meets
meets_at policy criteria query rule n r is declared at e = e ∙ is.tells rule declared ∙ sym (ap (meets_found policy criteria) at)

-- the first number that passes, from one on
pub first_here : (p : ℕ → Bool) (n count : ℕ) → n < count → p n ≡ true → find p (range_with_len n (count - n)) ≡ Some n
first_here p n count lt e = let s : count - n ≡ suc (count - n - 1) = omega arith in rw (s, e) refl

pub first_later : (p : ℕ → Bool) (n count : ℕ) → n < count → p n ≡ false → find p (range_with_len n (count - n)) ≡ find p (range_with_len (n + 1) (count - (n + 1)))
first_later p n count lt e = let s : count - n ≡ suc (count - (n + 1)) = omega arith in rw (s, e) refl

pub none_left : (p : ℕ → Bool) (n count : ℕ) → count ≤ n → find p (range_with_len n (count - n)) ≡ None
none_left p n count le = let s : count - n ≡ 0 = omega arith in rw s refl

-- one number more
pub kept_more : (p : ℕ → Bool) (n : ℕ) → filter p (range_with_len 0 (n + 1)) ≡ filter p (range_with_len 0 n) ++ cond (p n) (n ∷ []) []
kept_more p n = filter_range_one p 0 n n (zero-add n)

pub kept_next : (p : ℕ → Bool) (n : ℕ) (had has : List ℕ) (b : Bool) → had ≡ filter p (range_with_len 0 n) → has ≡ had ++ cond b (n ∷ []) [] → b ≡ p n → has ≡ filter p (range_with_len 0 (n + 1))
kept_next p n had has b so_far added is = added ∙ ap (λ (xs : List ℕ). xs ++ cond b (n ∷ []) []) so_far ∙ ap (λ (c : Bool). filter p (range_with_len 0 n) ++ cond c (n ∷ []) []) is ∙ sym (kept_more p n)

-- a number that is added where it passes
pub added_where : (had has : List ℕ) (n : ℕ) (b m : Bool) → b ≡ true → b ≡ m → has ≡ had ++ n ∷ [] → has ≡ had ++ cond m (n ∷ []) []
added_where had has n b m passes is added = rw (sym is ∙ passes) added

pub left_where : (had : List ℕ) (n : ℕ) (b m : Bool) → b ≡ false → b ≡ m → had ≡ had ++ cond m (n ∷ []) []
left_where had n b m fails is = rw (sym is ∙ fails) (sym (append-nil had))
