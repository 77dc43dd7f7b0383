-- A text without its ending, and the states of elements up to one more.
use Rattle.std.proofs.Common.{◌≡◌, ◌<◌, ◌≤◌, ◌+◌, ◌-◌, ◌++◌, ◌∷◌, [], ℕ, List, length, take, map, get_or, Option, Some, None, option_map, true, false, nat_lt, refl, sym, ◌∙◌, ap, arith}
use Rattle.std.specs.Prelude.{nat_eq}
use Rattle.std.specs.List.{ends_with, filter_map}
use Rattle.std.specs.Option.{option_to_list}
use Rattle.std.proofs.lemmas.Bool.{ltb-true, lt-ltb}
use Rattle.std.proofs.lemmas.List.{append-nil, map-append, take_more}
use Rattle.std.proofs.lemmas.List.Elements.{filter_map-append}
use Rattle.std.proofs.lemmas.Str.Pattern.{ends_text}
use Rattle.std.specs.Str.Pattern.{FindsTextSuffix, StripsSuffix}
use Rattle.se_words.specs.Values.{name_before}
use Rattle.se_words.specs.States.{State, state_in, state_view}
use Rattle.se_words.specs.declared.states.State.{State as StateCode}

-- ---- what stands before an ending

ended : (ending text rest : List ℕ) → StripsSuffix (FindsTextSuffix ending) text rest → ends_with nat_eq text ending ≡ true
ended ending text rest strips =
    let found = strips.1 in
    let lengths : length rest + strips.0 ≡ length text = strips.3 in
    sym (ends_text true ending text (strips.0, found, omega (arith, lengths), rw found.0 found.2))

rest-is : (ending text rest : List ℕ) → StripsSuffix (FindsTextSuffix ending) text rest → rest ≡ take (length text - length ending) text
rest-is ending text rest strips = strips.2 ∙ ap (λ k. take (length text - k) text) strips.1.0

shorter : (ending text rest : List ℕ) → StripsSuffix (FindsTextSuffix ending) text rest → length rest + length ending ≡ length text
shorter ending text rest strips = ap (λ k. length rest + k) (sym strips.1.0) ∙ strips.3

-- something stands before the ending
pub before-some : (ending text rest : List ℕ) → StripsSuffix (FindsTextSuffix ending) text rest → 0 < length rest → Some rest ≡ name_before ending text
unfolding name_before
before-some ending text rest strips some =
    let lt : nat_lt (length ending) (length text) ≡ true = lt-ltb (length ending) (length text) (omega (arith, some, shorter ending text rest strips)) in
    rw (ended ending text rest strips, lt) (ap Some (rest-is ending text rest strips))

not-below : (a b : ℕ) → b ≤ a → nat_lt a b ≡ false
not-below a b le = grind (arith, ltb-true)

-- nothing does
pub before-nothing : (ending text rest : List ℕ) → StripsSuffix (FindsTextSuffix ending) text rest → length rest ≡ 0 → None ≡ name_before ending text
unfolding name_before
before-nothing ending text rest strips empty =
    let le : length text ≤ length ending = omega (arith, empty, shorter ending text rest strips) in
    rw (ended ending text rest strips, not-below (length ending) (length text) le) refl

-- the text has no such ending
pub before-none : (ending text : List ℕ) → FindsTextSuffix ending text None → None ≡ name_before ending text
unfolding name_before
before-none ending text none = rw (sym (ends_text false ending text none)) refl

-- ---- the states of elements

one : (word : ℕ) (element : List ℕ) (found : Option State) → found ≡ state_in word element → option_to_list found ≡ filter_map (state_in word) (element ∷ [])
one word element None is = rw (← is) refl
one word element (Some said) is = rw (← is) refl

views-more : (states : List StateCode) (found : Option StateCode) → map state_view (states ++ option_to_list found) ≡ map state_view states ++ option_to_list (option_map state_view found)
views-more states None = rw (append-nil states) (sym (append-nil (map state_view states)))
views-more states (Some said) = map-append state_view states (said ∷ [])

-- the states of the elements up to one more
pub states-more : {E : Type 0} (text_of : E → List ℕ) (word : ℕ) (elements : List E) (i : ℕ) (d : E) (found : Option StateCode) (states more : List StateCode) → i < length elements
    → option_map state_view found ≡ state_in word (text_of (get_or elements i d)) → more ≡ states ++ option_to_list found → map state_view states ≡ filter_map (state_in word) (map text_of (take i elements))
    → map state_view more ≡ filter_map (state_in word) (map text_of (take (i + 1) elements))
states-more text_of word elements i d found states more lt here added so_far =
    rw (
      added,
      views-more states found,
      so_far,
      one word (text_of (get_or elements i d)) (option_map state_view found) here,
      take_more elements i d lt,
      map-append text_of (take i elements) (get_or elements i d ∷ []),
      filter_map-append (state_in word) (map text_of (take i elements)) (text_of (get_or elements i d) ∷ []),
    ) refl
