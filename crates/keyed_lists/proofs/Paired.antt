-- The keys of two lists that are added to an empty map are all keys in order, each with its places.
use Rattle.std.proofs.Common.{◌≡◌, ℕ, ◌+◌, Bool, true, false, cond, Option, Some, None, List, [], ◌∷◌, ◌++◌, map, refl, sym, ap, ◌∙◌}
use Rattle.std.specs.declared.cmp.Ordering.{Ordering}
use Rattle.std.specs.declared.cmp.Ordering.TheVariants.{Less, Equal, Greater}
use Rattle.std.specs.Ordering.{is_eq}
use Rattle.std.specs.List.{position_from}
use Rattle.std.specs.Cmp.{IsTotalOrder}
use Rattle.std.specs.Map.{lookup, values_of}
use Rattle.std.specs.BTreeMap.{is_at}
use Rattle.std.proofs.lemmas.Cmp.{alike_right}
use Rattle.keyed_lists.specs.declared.pairing.Places.{Places}
use Rattle.keyed_lists.specs.declared.pairing.Side.{Side}
use Rattle.keyed_lists.specs.declared.pairing.Side.TheVariants.{First, Second}
use Rattle.keyed_lists.specs.KeyOrder.{with_key, keys_in_order, keys_of_both, places_of}
use Rattle.keyed_lists.specs.Inner.Adding.{added, known, put_at, with_place}
use Rattle.keyed_lists.proofs.Rising.{Rises, rises_with, in_order_rises}
use Rattle.keyed_lists.proofs.Inserting.{entry, equal_of, inserted, found_after, values_are}

module _ {K : Type 0} (cmp : K → K → Ordering) (order : IsTotalOrder cmp) where
  -- the keys of a list, put among those that are there
  abbrev pub with_keys : List K → List K → List K
  with_keys [] there = there
  with_keys (key ∷ keys) there = with_key cmp key (with_keys keys there)

  -- where a list has a key, from a place on
  abbrev place_from : ℕ → List K → K → Option ℕ
  place_from place keys q = position_from (λ other. is_eq (cmp other q)) place keys

  abbrev put_if : Side → Option ℕ → Places → Places
  put_if side None places = places
  put_if side (Some place) places = put_at side place places

  put_again : (side : Side) (place : ℕ) (found : Option ℕ) (places : Places) → put_at side place (put_if side found places) ≡ put_at side place places
  put_again First place None places = refl
  put_again First place (Some other) places = refl
  put_again Second place None places = refl
  put_again Second place (Some other) places = refl

  -- keys that compare as equal have the same places
  same_place : (a b : K) → is_eq (cmp a b) ≡ true → (place : ℕ) (keys : List K) → place_from place keys a ≡ place_from place keys b
  same_place a b same place [] = refl
  same_place a b same place (other ∷ keys) =
      rw (ap is_eq (alike_right order a b other (equal_of (cmp a b) same)), same_place a b same (place + 1) keys) refl

  module _ (side : Side) (there : K → Places) (respects : (a b : K) → is_eq (cmp a b) ≡ true → there a ≡ there b) where
    -- the places of a key, where a list's keys are added to those that are there
    abbrev places_from : ℕ → List K → K → Places
    places_from place keys q = put_if side (place_from place keys q) (there q)

    -- a map has all keys in order with their places
    record Holds (ks : List K) (f : K → Places) (entries : List (K × Places)) : Type 0 where
      rises : Rises cmp ks
      are : entries ≡ map (entry f) ks
      knows : (q : K) → known (lookup (is_at (cmp q)) entries) ≡ f q

    changed : (place : ℕ) (key : K) (keys : List K) (q : K) → places_from place (key ∷ keys) q ≡ cond (is_eq (cmp key q)) (put_at side place (places_from (place + 1) keys key)) (places_from (place + 1) keys q)
    changed place key keys q = by (is_eq (cmp key q)) refl
      where
        by : (b : Bool) → is_eq (cmp key q) ≡ b → put_if side (cond b (Some place) (place_from (place + 1) keys q)) (there q) ≡ cond b (put_at side place (places_from (place + 1) keys key)) (places_from (place + 1) keys q)
        by true same = rw (respects key q same) (sym (put_again side place (place_from (place + 1) keys key) (there q)))
        by false same = refl

    known_if : (b : Bool) (v : Places) (o : Option Places) → known (cond b (Some v) o) ≡ cond b v (known o)
    known_if true v o = refl
    known_if false v o = refl

    holds_more : (place : ℕ) (key : K) (keys ks : List K) (entries : List (K × Places)) → Holds ks (places_from (place + 1) keys) entries
        → Holds (with_key cmp key ks) (places_from place (key ∷ keys)) (with_place cmp side place key entries)
    holds_more place key keys ks entries h =
        let value : put_at side place (known (lookup (is_at (cmp key)) entries)) ≡ put_at side place (places_from (place + 1) keys key) = ap (put_at side place) (h.knows key) in
        record {
          rises = rises_with cmp order key ks h.rises;
          are = rw (value, h.are) (inserted cmp order (places_from (place + 1) keys) (places_from place (key ∷ keys)) key (put_at side place (places_from (place + 1) keys key)) (changed place key keys) ks h.rises);
          knows = λ q. ap known (found_after cmp order entries key (put_at side place (known (lookup (is_at (cmp key)) entries))) q)
              ∙ known_if (is_eq (cmp key q)) (put_at side place (known (lookup (is_at (cmp key)) entries))) (lookup (is_at (cmp q)) entries)
              ∙ rw (value, h.knows q) (sym (changed place key keys q));
        }

    holds_added : (place : ℕ) (keys ks : List K) (entries : List (K × Places)) → Holds ks there entries → Holds (with_keys keys ks) (places_from place keys) (added cmp side place keys entries)
    unfolding added
    holds_added place [] ks entries h = h
    holds_added place (key ∷ keys) ks entries h = holds_more place key keys (with_keys keys ks) (added cmp side (place + 1) keys entries) (holds_added (place + 1) keys ks entries h)

  -- no place in either list
  abbrev nowhere : Places
  nowhere = record { first = None; second = None }

  in_order_put : (keys : List K) → with_keys keys [] ≡ keys_in_order cmp keys
  in_order_put [] = refl
  in_order_put (key ∷ keys) = ap (with_key cmp key) (in_order_put keys)

  both_put : (first second : List K) → with_keys first (with_keys second []) ≡ keys_of_both cmp first second
  both_put [] second = in_order_put second
  both_put (key ∷ first) second = ap (with_key cmp key) (both_put first second)

  both_known : (a b : Option ℕ) → put_if First a (put_if Second b nowhere) ≡ record { first = a; second = b }
  both_known None None = refl
  both_known None (Some b) = refl
  both_known (Some a) None = refl
  both_known (Some a) (Some b) = refl

  same_values : (f g : K → Places) → ((q : K) → f q ≡ g q) → (keys : List K) → map f keys ≡ map g keys
  same_values f g h [] = refl
  same_values f g h (key ∷ keys) = rw (h key, same_values f g h keys) refl

  -- the places in the second list alone
  abbrev in_second : List K → K → Places
  in_second second q = put_if Second (place_from 0 second q) nowhere

  in_second_respects : (second : List K) (a b : K) → is_eq (cmp a b) ≡ true → in_second second a ≡ in_second second b
  in_second_respects second a b same = ap (λ o. put_if Second o nowhere) (same_place a b same 0 second)

  second_added : (second : List K) → Holds Second (λ q. nowhere) (λ a b e. refl) (with_keys second []) (in_second second) (added cmp Second 0 second [])
  second_added second = holds_added Second (λ q. nowhere) (λ a b e. refl) 0 second [] [] (record { rises = tt; are = refl; knows = λ q. refl })

  both_added : (first second : List K) → Holds First (in_second second) (in_second_respects second) (with_keys first (with_keys second []))
      (λ q. put_if First (place_from 0 first q) (in_second second q)) (added cmp First 0 first (added cmp Second 0 second []))
  both_added first second =
      let h = second_added second in
      holds_added First (in_second second) (in_second_respects second) 0 first (with_keys second []) (added cmp Second 0 second []) (record { rises = h.rises; are = h.are; knows = h.knows })

  -- the values of the map, in the order of the keys
  pub paired : (first second : List K) → values_of (added cmp First 0 first (added cmp Second 0 second [])) ≡ map (places_of cmp first second) (keys_of_both cmp first second)
  paired first second =
      ap values_of (both_added first second).are
      ∙ values_are (λ q. put_if First (place_from 0 first q) (in_second second q)) (with_keys first (with_keys second []))
      ∙ same_values (λ q. put_if First (place_from 0 first q) (in_second second q)) (places_of cmp first second) (λ q. both_known (place_from 0 first q) (place_from 0 second q)) (with_keys first (with_keys second []))
      ∙ ap (map (places_of cmp first second)) (both_put first second)
