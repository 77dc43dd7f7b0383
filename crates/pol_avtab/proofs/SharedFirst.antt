-- Words whose buckets are shared are put together at the front.
use Rattle.std.proofs.Common.{◌≡◌, ℕ, ◌+◌, ◌<◌, ◌≤◌, Bool, true, false, List, [], ◌∷◌, ◌++◌, length, get_or, set, take, drop, refl, sym, ap, ◌∙◌, append-nil, arith}
use Rattle.std.specs.Int.{from_bool}
use Rattle.std.specs.List.{filter}
use Rattle.std.proofs.lemmas.List.{get_or-drop, take-set-le, take_more, take_more_set, drop-drop, drop-set-lt, length-set}
use Rattle.std.proofs.lemmas.List.Elements.{filter-append}

-- of the first i words, those that pass the test stand at the front, and those behind are as they were
pub record AreSifted (test : ℕ → Bool) (old : List ℕ) (i count : ℕ) (words : List ℕ) : Type 0 where
  pub few : count ≤ i
  pub front : take count words ≡ filter test (take i old)
  pub rest : drop i words ≡ drop i old
  pub long : length words ≡ length old

word_front : (xs : List ℕ) (i : ℕ) → get_or (drop i xs) 0 0 ≡ get_or xs i 0
word_front xs i = get_or-drop i xs 0 0 ∙ ap (λ (k : ℕ). get_or xs k 0) (omega arith)

rest_more : (i : ℕ) (xs ys : List ℕ) → drop i xs ≡ drop i ys → drop (i + 1) xs ≡ drop (i + 1) ys
rest_more i xs ys e = let on = λ (zs : List ℕ). drop-drop 1 i zs in sym (on xs) ∙ ap (drop 1) e ∙ on ys

-- one word more
module _ (test : ℕ → Bool) (old : List ℕ) (i count : ℕ) (words : List ℕ) (are : AreSifted test old i count words) (lt : i < length words) where
  word_was : get_or words i 0 ≡ get_or old i 0
  word_was = sym (word_front words i) ∙ ap (λ (rest : List ℕ). get_or rest 0 0) are.rest ∙ word_front old i

  front_more : (word : ℕ) (passes : Bool) → test word ≡ passes → take (count + from_bool passes) (set words count word) ≡ take count words ++ filter test (word ∷ [])
  front_more word true e = let at : count < length words = omega (arith, are.few, lt) in rw e (take_more_set words count word at)
  front_more word false e = rw e (ap (λ (n : ℕ). take n (set words count word)) (omega arith) ∙ take-set-le count words count word (omega arith) ∙ sym (append-nil (take count words)))

  pub sifted_more : AreSifted test old (i + 1) (count + from_bool (test (get_or words i 0))) (set words count (get_or words i 0))
  sifted_more =
      let word = get_or words i 0 in
      let there : i < length old = omega (arith, lt, are.long) in
      record {
        few = few_more (test word);
        front = front_more word (test word) refl ∙ ap (λ (xs : List ℕ). xs ++ filter test (word ∷ [])) are.front ∙ ap (λ (w : ℕ). filter test (take i old) ++ filter test (w ∷ [])) word_was ∙ sym (filter-append test (take i old) (get_or old i 0 ∷ [])) ∙ ap (filter test) (sym (take_more old i 0 there));
        rest = drop-set-lt (i + 1) words count word (omega (arith, are.few)) ∙ rest_more i words old are.rest;
        long = length-set words count word ∙ are.long;
      }
    where
      few_more : (b : Bool) → count + from_bool b ≤ i + 1
      few_more true = omega (arith, are.few)
      few_more false = omega (arith, are.few)
