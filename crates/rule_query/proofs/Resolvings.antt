-- Criteria that are looked up word by word.
use Rattle.std.proofs.Common.{◌≡◌, ℕ, ◌+◌, ◌<◌, ◌≤◌, Option, Some, None, Result, Ok, Err, List, [], ◌∷◌, ◌++◌, zero, suc, map, length, take, drop, get_or, refl, sym, ap, subst, ◌∙◌, append_assoc, add-one, arith}
use Rattle.std.specs.List.{All, filter}
use Rattle.std.proofs.lemmas.List.Elements.{All-nil, All-cons, All-append, filter-append}
use Rattle.std.proofs.lemmas.List.{append-nil, map-append, take_all}
use Rattle.regex.specs.declared.string.regex.Regex.{Regex}
use Rattle.se_outside.specs.declared.PatternKind.{PatternKind}
use Rattle.se_outside.specs.declared.PatternKind.TheVariants.{Syntax, Refused}
use Rattle.pol_file.specs.declared.Parts.{Parts}
use Rattle.rule_criteria.specs.declared.Criteria.{Criteria}
use Rattle.rule_query.specs.declared.query.Query.{Query}
use Rattle.rule_query.specs.declared.resolving.QueryError.{QueryError}
use Rattle.rule_query.specs.declared.resolving.QueryError.TheVariants.{UnknownName, BadNumber, BadPattern, Memory}
use Rattle.rule_query.specs.declared.tests.Test.{Test}
use Rattle.rule_query.specs.declared.given.GivenCriterion.{GivenCriterion}
use Rattle.rule_query.specs.GivenCriteria.{Given, in_word_order, shown}
use Rattle.rule_tests.proofs.ClassPermissions.{take_get}
use Rattle.rule_query.specs.Refusals.{is_pattern_word, pattern_texts}
use Rattle.rule_query.specs.Inner.Resolved.{AreSameTests, Gains}
use Rattle.rule_query.specs.AskedPatterns.{AskedFor, IsFaulty}
use Rattle.rule_query.specs.Resolving.{Passes, Stops, FailsAs, Resolves}
use Rattle.rule_query.specs.Inner.ResolvingWords.{AskEnds, Asks}
use Rattle.rule_query.proofs.Passing.{PassAlike, no_tests, one_test, put_alike, query_is}

-- ---- texts that are asked for

texts_append : (xs ys : List Given) → pattern_texts (xs ++ ys) ≡ pattern_texts xs ++ pattern_texts ys
texts_append xs ys = ap (map (λ (given : Given). given.criterion.text)) (filter-append is_pattern_word xs ys) ∙ map-append (λ (given : Given). given.criterion.text) (filter is_pattern_word xs) (filter is_pattern_word ys)

asked_then : (old mid new : Option (List (List ℕ))) (xs ys : List (List ℕ)) → AskedFor old mid xs → AskedFor mid new ys → AskedFor old new (xs ++ ys)
asked_then None mid new xs ys h k = tt
asked_then (Some had) None new xs ys h k = absurd cc
asked_then (Some had) (Some has) new xs ys h k = let e : has ≡ had ++ xs = cc in k ∙ ap (λ (l : List (List ℕ)). Some (l ++ ys)) e ∙ ap Some (append_assoc had xs ys)

asked_same : (old mid new : Option (List (List ℕ))) (xs : List (List ℕ)) → AskedFor old mid xs → new ≡ mid → AskedFor old new xs
asked_same old mid new xs h e = subst (λ (o : Option (List (List ℕ))). AskedFor old o xs) (sym e) h

pub asked_none : (old : Option (List (List ℕ))) → AskedFor old old []
asked_none None = tt
asked_none (Some had) = ap Some (sym (append-nil had))

-- ---- the words so far

-- They pass, their patterns were asked for, and there is a test for each.
pub record LookedUp (policy : Parts) (criteria : Criteria) (old new : Option (List (List ℕ))) (past now : ℕ) (done : List Given) (tests : List Test) : Type 0 where
  pub later : past ≤ now
  pub passed : All (Passes policy criteria) done
  pub asked : AskedFor old new (pattern_texts done)
  pub alike : PassAlike policy done tests

pub nothing_yet : (policy : Parts) (criteria : Criteria) (old : Option (List (List ℕ))) (past : ℕ) → LookedUp policy criteria old old past past [] []
nothing_yet policy criteria old past = record { later = omega arith; passed = All-nil (Passes policy criteria); asked = asked_none old; alike = no_tests policy }

module _ (policy : Parts) (criteria : Criteria) (old mid new : Option (List (List ℕ))) (past now later : ℕ) (done : List Given) (tests : List Test) (so_far : LookedUp policy criteria old mid past now done tests) (given : Given) where
  -- one word more
  pub one_more : (pattern : Option Regex) (more : List Test) → Asks policy.symbols criteria.kinds given mid new now later (Ok pattern) → Gains policy given tests more → LookedUp policy criteria old new past later (done ++ given ∷ []) more
  one_more pattern more asks gains = record {
    later = let h = so_far.later in let k = asks.later in omega (arith, h, k);
    passed = All-append (Passes policy criteria) done (given ∷ []) so_far.passed (All-cons (Passes policy criteria) given [] (record { names = asks.names; pattern = asks.text }) (All-nil (Passes policy criteria)));
    asked = subst (AskedFor old new) (sym (texts_append done (given ∷ []))) (asked_then old mid new (pattern_texts done) (pattern_texts (given ∷ [])) so_far.asked asks.asked);
    alike = one_test policy done given tests more so_far.alike gains;
  }

  -- a word that ends it
  module _ (after : List Given) (order : in_word_order criteria ≡ done ++ given ∷ after) where
    stops : (word : ℕ) → word ≡ given.criterion.word → Stops policy criteria done given word
    stops word e = record { after = after; order = order; passed = so_far.passed; word_is = sym e }

    ends_at : (error : QueryError) → AskEnds policy.symbols criteria.kinds given mid new now later error → now ≤ later → FailsAs policy criteria old new past later error
    ends_at (UnknownName word) e le = record { before = done; given = given; stops = stops word e.0; refused = e.1; asked = asked_same old mid new (pattern_texts done) so_far.asked e.2 }
    ends_at (BadNumber word) e le = record { before = done; given = given; stops = stops word e.0; refused = e.1; asked = asked_same old mid new (pattern_texts done) so_far.asked e.2 }
    ends_at (BadPattern word kind) e le = record {
      before = done;
      given = given;
      stops = stops word e.0;
      pattern = e.1;
      faulty = fault kind e.2 le;
      asked = asked_then old mid new (pattern_texts done) (given.criterion.text ∷ []) so_far.asked e.3;
    }
      where
        fault : (kind : PatternKind) → IsFaulty now later given.criterion.text kind → now ≤ later → IsFaulty past later given.criterion.text kind
        fault Syntax h le = h
        fault Refused h le = let k = so_far.later in omega (arith, h, k)
    ends_at Memory e le = record { before = done; after = given ∷ after; order = order; asked = asked_same old mid new (pattern_texts done) so_far.asked e }

    pub stopped : (error : QueryError) (r : Result (Option Regex) QueryError) → r ≡ Err error → Asks policy.symbols criteria.kinds given mid new now later r → Resolves policy criteria old new past later (Err error)
    stopped error (Ok pattern) is asks = absurd cc
    stopped error (Err e) is asks = let same : e ≡ error = cc in record {
      later = let h = so_far.later in let k = asks.later in omega (arith, h, k);
      query = tt;
      ends = ends_at error (subst (λ (e : QueryError). AskEnds policy.symbols criteria.kinds given mid new now later e) same asks.ends) asks.later;
    }

    -- no memory for the test of a word that passes
    pub no_room : (pattern : Option Regex) → Asks policy.symbols criteria.kinds given mid new now later (Ok pattern) → Resolves policy criteria old new past later (Err Memory)
    no_room pattern asks = record {
      later = let h = so_far.later in let k = asks.later in omega (arith, h, k);
      query = tt;
      ends = record {
        before = done ++ given ∷ [];
        after = after;
        order = order ∙ sym (append_assoc done (given ∷ []) after);
        asked = subst (AskedFor old new) (sym (texts_append done (given ∷ []))) (asked_then old mid new (pattern_texts done) (pattern_texts (given ∷ [])) so_far.asked asks.asked);
      };
    }

-- all words passed
module _ (policy : Parts) (criteria : Criteria) (old new : Option (List (List ℕ))) (past now : ℕ) (done : List Given) (tests : List Test) (so_far : LookedUp policy criteria old new past now done tests) (is : done ≡ in_word_order criteria) where
  pub all_words : (query : Query) → AreSameTests tests query.tests.items → query.kinds ≡ criteria.kinds → Resolves policy criteria old new past now (Ok query)
  all_words query same kinds = record {
    later = so_far.later;
    query = query_is policy criteria query kinds (put_alike policy (in_word_order criteria) tests query.tests.items (subst (λ (xs : List Given). PassAlike policy xs tests) is so_far.alike) same);
    ends = record {
      passed = subst (λ (xs : List Given). All (Passes policy criteria) xs) is so_far.passed;
      asked = subst (λ (xs : List Given). AskedFor old new (pattern_texts xs)) is so_far.asked;
    };
  }

  -- no memory to put their tests in order
  pub no_place : Resolves policy criteria old new past now (Err Memory)
  no_place = record {
    later = so_far.later;
    query = tt;
    ends = record { before = done; after = []; order = sym is ∙ sym (append-nil done); asked = so_far.asked };
  }

-- ---- the words of a list

parts : {X : Type 0} (items : List X) (i : ℕ) (d : X) → i < length items → items ≡ take i items ++ get_or items i d ∷ drop (suc i) items
parts [] i d lt = absurd (omega (arith, lt))
parts (y ∷ ys) zero d lt = refl
parts {X} (y ∷ ys) (suc i) d lt = ap (λ (zs : List X). y ∷ zs) (parts ys i d (omega (arith, lt)))

module _ (items : List GivenCriterion) (i : ℕ) (x : GivenCriterion) (lt : i < length items) (is : x ≡ get_or items i x) where
  -- the criteria before one, the one, and the criteria after it
  pub split_at : (whole : List Given) → map shown items ≡ whole → whole ≡ map shown (take i items) ++ shown x ∷ map shown (drop (i + 1) items)
  split_at whole e =
      sym e ∙ ap (map shown) (parts items i x lt)
      ∙ map-append shown (take i items) (get_or items i x ∷ drop (suc i) items)
      ∙ ap (λ (y : GivenCriterion). map shown (take i items) ++ shown y ∷ map shown (drop (suc i) items)) (sym is)
      ∙ ap (λ (n : ℕ). map shown (take i items) ++ shown x ∷ map shown (drop n items)) (sym (add-one i))

  -- the criteria before the next
  pub one_taken : map shown (take (i + 1) items) ≡ map shown (take i items) ++ shown x ∷ []
  one_taken =
      ap (λ (n : ℕ). map shown (take n items)) (add-one i)
      ∙ ap (map shown) (take_get items i x lt)
      ∙ map-append shown (take i items) (get_or items i x ∷ [])
      ∙ ap (λ (y : GivenCriterion). map shown (take i items) ++ shown y ∷ []) (sym is)

pub all_taken : (items : List GivenCriterion) (i : ℕ) (whole : List Given) → length items ≤ i → map shown items ≡ whole → map shown (take i items) ≡ whole
all_taken items i whole past e = ap (map shown) (take_all i items past) ∙ e
