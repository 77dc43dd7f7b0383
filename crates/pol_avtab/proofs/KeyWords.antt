-- Rules whose keys differ are read behind each other as each is read by itself.
use Rattle.std.proofs.Common.{◌≡◌, ℕ, zero, suc, ◌+◌, Bool, true, false, true≢false, inl, inr, Option, Some, None, List, [], ◌∷◌, ◌++◌, length, map, take, refl, sym, ap, subst, ◌∙◌, arith}
use Rattle.std.specs.Prelude.{◌==◌, ◌&&◌, ◌||◌, not, cond, nat_lt, slice_get, if◌then◌else◌}
use Rattle.std.specs.List.{filter, list_any, AllByRecursion, AllAdjacentBelow, IsDistinct}
use Rattle.std.specs.List.Sorted.{IsPermutation}
use Rattle.std.proofs.lemmas.Bool.{eqb-true, eq-eqb, ne_eqb, ltb-true}
use Rattle.std.proofs.lemmas.Bool.Decides.{eqb_tells}
use Rattle.std.proofs.lemmas.List.{take_more}
use Rattle.std.proofs.lemmas.Option.{get_or_from_slice_get, slice_get_within}
use Rattle.std.proofs.lemmas.List.Folds.{list_any-append}
use Rattle.std.proofs.lemmas.List.Sorted.{IsPermutation-sym}
use Rattle.std.proofs.lemmas.Map.Keys.{IsDistinct-from_apart, IsDistinct-IsPermutation, sorted_from_strictly_increasing, below_from_sorted}
use Rattle.pol_fields.specs.declared.field.Field.{Field}
use Rattle.pol_fields.specs.declared.fault.Cause.{Cause}
use Rattle.pol_fields.specs.declared.fault.Cause.TheVariants.{BadSpecified, DuplicateRule}
use Rattle.pol_fields.specs.declared.fields.TheConstants.{AV_SOURCE, AV_TARGET, AV_CLASS, AV_SPECIFIED}
use Rattle.pol_cursor.specs.Outcome.{Outcome, Got, Bad, and_then, judged}
use Rattle.pol_cursor.specs.Parts.{number, list_of, unless}
use Rattle.pol_cursor.specs.References.{Placed, placed}
use Rattle.pol_cursor.specs.Contexts.{records_after}
use Rattle.pol_avtab.specs.declared.av_key.AvKey.{AvKey}
use Rattle.pol_avtab.specs.declared.av_rec.AvRec.{AvRec}
use Rattle.pol_avtab.specs.declared.av_rec.AvPart.{AvPart}
use Rattle.pol_avtab.specs.AvKeys.{kind_of, key_of, same_key, has_key, with_key, word_of}
use Rattle.pol_avtab.specs.AvRecord.{is_extended, is_kind, specified_test, part_at, av_at}
use Rattle.pol_avtab.specs.AvTables.{rule_at, after_rule, placed_rules_at}
use Rattle.pol_avtab.specs.Inner.DuplicateKeys.{rule_behind, after_collecting, rules_behind, words_of}

-- ---- what was read was read by parts

then_same : {A B : Type 0} (o : Outcome A) (f g : A → ℕ → Outcome B) (y : B) (end : ℕ) → ((x : A) (n : ℕ) → f x n ≡ Got y end → g x n ≡ Got y end) → and_then o f ≡ Got y end → and_then o g ≡ Got y end
then_same (Got x n) f g y end more e = more x n e
then_same (Bad b) f g y end more e = absurd cc

-- a part whose test names no cause, and then none by another test
judged_same : {B : Type 0} (cause other : Option Cause) (d : Field) (x place n : ℕ) (f : ℕ → ℕ → Outcome B) (y : B) (end : ℕ) → (f x n ≡ Got y end → cause ≡ None → other ≡ None)
    → and_then (judged cause d x place n) f ≡ Got y end → and_then (judged other d x place n) f ≡ Got y end
judged_same None other d x place n f y end none e = rw (none e refl) e
judged_same (Some c) other d x place n f y end none e = absurd cc

checked_same : {B : Type 0} (o : Outcome ℕ) (test other : ℕ → Option Cause) (d : Field) (place : ℕ) (f : ℕ → ℕ → Outcome B) (y : B) (end : ℕ) → ((x n : ℕ) → f x n ≡ Got y end → test x ≡ None → other x ≡ None)
    → and_then (and_then o (λ x n. judged (test x) d x place n)) f ≡ Got y end → and_then (and_then o (λ x n. judged (other x) d x place n)) f ≡ Got y end
checked_same (Got x n) test other d place f y end none e = judged_same (test x) (other x) d x place n f y end (none x n) e
checked_same (Bad b) test other d place f y end none e = absurd cc

-- ---- one rule

-- a kind that may stand behind no key may stand behind keys that it does not have
plain_same : (kind extended has : Bool) (c d : Cause) → (extended ≡ false → has ≡ false) → (if kind then unless (extended || not false) c else Some d) ≡ None → (if kind then unless (extended || not has) c else Some d) ≡ None
plain_same false extended has c d differs e = absurd cc
plain_same true true has c d differs e = refl
plain_same true false has c d differs e = rw (differs refl) refl

-- the key of the rule that was read
part_key : (o : Outcome AvPart) (source target class specified : ℕ) (av : AvRec) (end : ℕ)
    → and_then o (λ part n. Got (record { source = source; target = target; class = class; specified = specified; part = part }) n) ≡ Got av end
    → record { source = source; target = target; class = class; specified = kind_of specified } ≡ key_of av
part_key (Got part n) source target class specified av end e =
    let is : record { source = source; target = target; class = class; specified = specified; part = part } ≡ av = cc in
    ap key_of is
part_key (Bad b) source target class specified av end e = absurd cc

-- A rule that is read as the first one is read behind keys that it does not have.
rule_same : (version : ℕ) (keys : List AvKey) (bytes : List ℕ) (place : ℕ) (av : AvRec) (end : ℕ) → (is_extended (key_of av).specified ≡ false → has_key keys (key_of av) ≡ false)
    → av_at version (Some []) bytes place ≡ Got av end → av_at version (Some keys) bytes place ≡ Got av end
unfolding av_at
rule_same version keys bytes place av end differs =
    then_same (number AV_SOURCE 2 bytes place) _ _ av end λ source second.
    then_same (number AV_TARGET 2 bytes second) _ _ av end λ target third.
    then_same (number AV_CLASS 2 bytes third) _ _ av end λ class fourth.
    let key : ℕ → AvKey = λ specified. record { source = source; target = target; class = class; specified = kind_of specified } in
    checked_same (number AV_SPECIFIED 2 bytes fourth) (λ specified. specified_test version (Some []) (key specified)) (λ specified. specified_test version (Some keys) (key specified)) AV_SPECIFIED fourth _ av end λ specified fifth e.
    let same = part_key (part_at (is_extended specified) bytes fifth) source target class specified av end e in
    let other : is_extended (kind_of specified) ≡ false → has_key keys (key specified) ≡ false = subst (λ (k : AvKey). is_extended k.specified ≡ false → has_key keys k ≡ false) (sym same) differs in
    plain_same (is_kind version (kind_of specified)) (is_extended (kind_of specified)) (has_key keys (key specified)) DuplicateRule BadSpecified other

-- ---- keys that differ

-- no rule that is not extended has one of the keys
Apart : List AvKey → List (Placed AvRec) → Type 0
Apart keys [] = Unit {0}
Apart keys (r ∷ rs) = (is_extended (key_of r.value).specified ≡ false → has_key keys (key_of r.value) ≡ false) × Apart keys rs

apart_none : (rules : List (Placed AvRec)) → Apart [] rules
unfolding Apart
apart_none [] = tt
apart_none (r ∷ rs) = ((λ plain. refl), apart_none rs)

either_false : (a b : Bool) → a ≡ false → b ≡ false → (a || (b || false)) ≡ false
either_false false false p q = refl
either_false true b p q = absurd cc
either_false false true p q = absurd cc

-- one more key that it does not have
has_more : (there : Bool) (keys : List AvKey) (new key : AvKey) → has_key keys key ≡ false → same_key key new ≡ false → has_key (if there then keys else keys ++ new ∷ []) key ≡ false
has_more true keys new key none differs = none
has_more false keys new key none differs =
    let one : (list_any (same_key key) keys || list_any (same_key key) (new ∷ [])) ≡ false = either_false (list_any (same_key key) keys) (same_key key new) none differs in
    list_any-append (same_key key) keys (new ∷ []) ∙ one

all_four : (a b c d : Bool) → (a && b && c && d) ≡ true → (a ≡ true) × (b ≡ true) × (c ≡ true) × (d ≡ true)
all_four true true true d e = (refl, refl, refl, e)
all_four true true false d e = absurd cc
all_four true false c d e = absurd cc
all_four false b c d e = absurd cc

-- keys whose words differ
module _ (new key : AvKey) (differs : (word_of new == word_of key) ≡ false) where
  no_same : (b : Bool) → same_key key new ≡ b → b ≡ false
  no_same false e = refl
  no_same true e =
      let four = all_four (key.source == new.source) (key.target == new.target) (key.class == new.class) (key.specified == new.specified) e in
      let p = eqb-true _ _ four.0 in
      let q = eqb-true _ _ four.1 in
      let r = eqb-true _ _ four.2 in
      let s = eqb-true _ _ four.3 in
      let same : word_of new ≡ word_of key = rw (p, q, r, s) refl in
      absurd (true≢false (sym (eq-eqb (word_of new) (word_of key) same) ∙ differs))

  differ : same_key key new ≡ false
  differ = no_same (same_key key new) refl

-- a fact of the words of rules, by the first one
all_words : (Q : ℕ → Type 0) (plain : Bool) (key : AvKey) (keys : List AvKey) → AllByRecursion Q (map word_of (cond plain (key ∷ keys) keys)) → (plain ≡ true → Q (word_of key)) × AllByRecursion Q (map word_of keys)
all_words Q true key keys all = ((λ e. all.0), all.1)
all_words Q false key keys all = ((λ e. absurd cc), all)

distinct_words : (plain : Bool) (key : AvKey) (keys : List AvKey) → IsDistinct ◌==◌ (map word_of (cond plain (key ∷ keys) keys))
    → (plain ≡ true → AllByRecursion (λ word. (word_of key == word) ≡ false) (map word_of keys)) × IsDistinct ◌==◌ (map word_of keys)
unfolding IsDistinct
distinct_words true key keys distinct = ((λ e. distinct.0), distinct.1)
distinct_words false key keys distinct = ((λ e. absurd cc), distinct)

-- the key of an extended rule is none of a rule that is not
other_kind : (new key : AvKey) (b : Bool) → same_key key new ≡ b → is_extended new.specified ≡ true → is_extended key.specified ≡ false → b ≡ false
other_kind new key false e extended plain = refl
other_kind new key true e extended plain =
    let four = all_four (key.source == new.source) (key.target == new.target) (key.class == new.class) (key.specified == new.specified) e in
    absurd (true≢false (sym extended ∙ ap is_extended (sym (eqb-true _ _ four.3)) ∙ plain))

-- a rule whose word is none of theirs, or an extended one
apart_more : (extended : Bool) (keys : List AvKey) (new : AvKey) (rules : List (Placed AvRec)) → is_extended new.specified ≡ extended → (not extended ≡ true → AllByRecursion (λ word. (word_of new == word) ≡ false) (words_of rules))
    → Apart keys rules → Apart (with_key keys new) rules
unfolding Apart
apart_more extended keys new [] kind differs apart = tt
apart_more true keys new (r ∷ rs) kind differs apart = (
  (λ plain. has_more (has_key keys new) keys new (key_of r.value) (apart.0 plain) (other_kind new (key_of r.value) (same_key (key_of r.value) new) refl kind plain)),
  apart_more true keys new rs kind (λ e. absurd cc) apart.1,
)
apart_more false keys new (r ∷ rs) kind differs apart =
    let words = all_words (λ word. (word_of new == word) ≡ false) (not (is_extended (key_of r.value).specified)) (key_of r.value) (filter (λ (key : AvKey). not (is_extended key.specified)) (map (λ (rule : Placed AvRec). key_of rule.value) rs)) (differs refl) in (
      (λ plain. has_more (has_key keys new) keys new (key_of r.value) (apart.0 plain) (differ new (key_of r.value) (words.0 (ap not plain)))),
      apart_more false keys new rs kind (λ e. words.1) apart.1,
    )

-- ---- the rules

abbrev pub kept : ℕ → ℕ → List ℕ → ℕ → Outcome (List (Placed AvRec))
kept version n bytes place = list_of (λ left context. placed (rule_behind context)) (λ context (r : Placed AvRec). after_collecting context r.value) n (record { version = version; keys = []; collects = false }) bytes place

abbrev behind : ℕ → List AvKey → ℕ → List ℕ → ℕ → Outcome (List (Placed AvRec))
behind version keys n bytes place = list_of (λ left context. placed (rule_at context)) (λ context (r : Placed AvRec). after_rule context r.value) n (record { version = version; keys = keys }) bytes place

-- a rule and the others, by what is read of each
abbrev both : ℕ → Outcome AvRec → (AvRec → ℕ → Outcome (List (Placed AvRec))) → Outcome (List (Placed AvRec))
both place o others = and_then (and_then o (λ x n. Got (record { place = place; value = x }) n)) (λ (r : Placed AvRec) n. and_then (others r.value n) (λ rs k. Got (r ∷ rs) k))

module _ (P : List (Placed AvRec) → Type 0) (place : ℕ) (rules : List (Placed AvRec)) (end : ℕ) (holds : P rules) where
  rest_same : (av : AvRec) (m : ℕ) (o : Outcome AvRec) (others : AvRec → ℕ → Outcome (List (Placed AvRec))) (rest : Outcome (List (Placed AvRec)))
      → ((more : List (Placed AvRec)) (k : ℕ) → rest ≡ Got more k → P (record { place = place; value = av } ∷ more) → (o ≡ Got av m) × (others av m ≡ Got more k))
      → and_then rest (λ rs k. Got (record { place = place; value = av } ∷ rs) k) ≡ Got rules end → both place o others ≡ Got rules end
  rest_same av m o others (Bad b) same e = absurd cc
  rest_same av m o others (Got more k) same e =
      let is : rules ≡ record { place = place; value = av } ∷ more = cc in
      let s = same more k refl (subst P is holds) in
      rw (s.0, s.1) e

  pub both_same : (first o : Outcome AvRec) (firsts others : AvRec → ℕ → Outcome (List (Placed AvRec)))
      → ((av : AvRec) (m : ℕ) (more : List (Placed AvRec)) (k : ℕ) → first ≡ Got av m → firsts av m ≡ Got more k → P (record { place = place; value = av } ∷ more) → (o ≡ Got av m) × (others av m ≡ Got more k))
      → both place first firsts ≡ Got rules end → both place o others ≡ Got rules end
  both_same (Bad b) o firsts others same e = absurd cc
  both_same (Got av m) o firsts others same e = rest_same av m o others (firsts av m) (λ more k. same av m more k refl) e

-- Rules whose keys differ, from keys on that none of them has, but for extended ones.
behind_same : (version n : ℕ) (keys : List AvKey) (bytes : List ℕ) (place : ℕ) (rules : List (Placed AvRec)) (end : ℕ) → Apart keys rules → IsDistinct ◌==◌ (words_of rules)
    → kept version n bytes place ≡ Got rules end → behind version keys n bytes place ≡ Got rules end
unfolding list_of placed Apart
behind_same version zero keys bytes place rules end apart distinct e = e
behind_same version (suc n) keys bytes place rules end apart distinct e =
    both_same (λ rs. Apart keys rs × IsDistinct ◌==◌ (words_of rs)) place rules end (apart, distinct)
    (av_at version (Some []) bytes place) (av_at version (Some keys) bytes place) (λ av m. kept version n bytes m) (λ av m. behind version (with_key keys (key_of av)) n bytes m)
    (λ av m more k read others h.
    let key = key_of av in
    let words = distinct_words (not (is_extended key.specified)) key (filter (λ other. not (is_extended other.specified)) (map (λ (rule : Placed AvRec). key_of rule.value) more)) h.1 in
    (rule_same version keys bytes place av m h.0.0 read, behind_same version n (with_key keys key) bytes m more k (apart_more (is_extended key.specified) keys key more refl words.0 h.0.1) words.1 others))
    e

pub distinct_read : (version n : ℕ) (bytes : List ℕ) (place : ℕ) (rules : List (Placed AvRec)) (end : ℕ) → IsDistinct ◌==◌ (words_of rules) → rules_behind version false n bytes place ≡ Got rules end → placed_rules_at version n bytes place ≡ Got rules end
unfolding rules_behind placed_rules_at records_after
distinct_read version n bytes place rules end distinct e = behind_same version n [] bytes place rules end (apart_none rules) distinct e

-- Rules whose keys are collected are those of the table.
then_alike : {A B : Type 0} (o : Outcome A) (f g : A → ℕ → Outcome B) → ((x : A) (n : ℕ) → f x n ≡ g x n) → and_then o f ≡ and_then o g
then_alike (Got x n) f g same = same x n
then_alike (Bad b) f g same = refl

collected : (version n : ℕ) (keys : List AvKey) (bytes : List ℕ) (place : ℕ)
    → list_of (λ left context. placed (rule_behind context)) (λ context (r : Placed AvRec). after_collecting context r.value) n (record { version = version; keys = keys; collects = true }) bytes place ≡ behind version keys n bytes place
unfolding list_of
collected version zero keys bytes place = refl
collected version (suc n) keys bytes place =
    then_alike (placed (av_at version (Some keys)) bytes place) _ _ λ r m.
    ap (λ (o : Outcome (List (Placed AvRec))). and_then o (λ rs k. Got (r ∷ rs) k)) (collected version n (with_key keys (key_of r.value)) bytes m)

pub collected_read : (version n : ℕ) (bytes : List ℕ) (place : ℕ) → rules_behind version true n bytes place ≡ placed_rules_at version n bytes place
unfolding rules_behind placed_rules_at records_after
collected_read version n bytes place = collected version n [] bytes place

-- ---- words that rise differ

flips : (x y : ℕ) → (x == y) ≡ (y == x)
flips x y = elim (eqb_tells x y) [
  | inl same ↦ rw same.1 refl
  | inr differs ↦ differs.0 ∙ sym (ne_eqb y x (λ e. differs.1 (sym e)))
]

pub distinct_of_rising : (words sorted : List ℕ) → IsPermutation words sorted → AllAdjacentBelow (λ x y. true ≡ nat_lt x y) sorted (length sorted) → IsDistinct ◌==◌ words
distinct_of_rising words sorted moved rises =
    let up = sorted_from_strictly_increasing sorted (λ k lt. ltb-true _ _ (sym (rises k 0 lt))) in
    IsDistinct-IsPermutation ◌==◌ flips sorted words (IsPermutation-sym words sorted moved)
    (IsDistinct-from_apart ◌==◌ sorted (λ i j d before within. ne_eqb _ _ (λ e. let below = below_from_sorted sorted i j d up before within in omega (arith, e, below))))

-- ---- the words, rule by rule

word_front : (plain : Bool) (key : AvKey) (keys others : List AvKey) (words : List ℕ) → map word_of keys ≡ map word_of others ++ words → map word_of (cond plain (key ∷ keys) keys) ≡ map word_of (cond plain (key ∷ others) others) ++ words
word_front true key keys others words e = ap (λ (rest : List ℕ). word_of key ∷ rest) e
word_front false key keys others words e = e

pub words_pushed : (extended : Bool) (rules : List (Placed AvRec)) (rule : Placed AvRec) → is_extended (key_of rule.value).specified ≡ extended → words_of (rules ++ rule ∷ []) ≡ words_of rules ++ (if extended then [] else word_of (key_of rule.value) ∷ [])
words_pushed true [] rule kind = rw kind refl
words_pushed false [] rule kind = rw kind refl
words_pushed extended (r ∷ rs) rule kind =
    word_front (not (is_extended (key_of r.value).specified)) (key_of r.value) (filter (λ (key : AvKey). not (is_extended key.specified)) (map (λ (rule : Placed AvRec). key_of rule.value) (rs ++ rule ∷ [])))
    (filter (λ (key : AvKey). not (is_extended key.specified)) (map (λ (rule : Placed AvRec). key_of rule.value) rs)) _ (words_pushed extended rs rule kind)

pub rule_more : (rules : List (Placed AvRec)) (i : ℕ) (rule : Placed AvRec) → slice_get rules i ≡ Some rule → take (i + 1) rules ≡ take i rules ++ rule ∷ []
rule_more rules i rule e = take_more rules i rule (slice_get_within rules i rule e) ∙ ap (λ (r : Placed AvRec). take i rules ++ r ∷ []) (get_or_from_slice_get rules i rule rule e)
