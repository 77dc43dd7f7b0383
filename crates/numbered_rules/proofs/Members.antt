-- Keys that are members of lists, by a test. Lists that rise strictly are the same where they have the same members.
use Rattle.std.proofs.Common.{◌≡◌, Bool, true, false, cond, List, [], ◌∷◌, refl, sym, ap, subst, ◌∙◌}
use Rattle.std.specs.Prelude.{◌||◌, ◌&&◌}
use Rattle.std.specs.List.{filter, list_any}
use Rattle.std.specs.declared.cmp.Ordering.{Ordering}
use Rattle.std.specs.declared.cmp.Ordering.TheVariants.{Less, Equal, Greater}
use Rattle.std.specs.Ordering.{is_eq, match_ordering}
use Rattle.std.proofs.lemmas.Cmp.{tied_itself}
use Rattle.keyed_lists.specs.KeyOrder.{IsKeyOrder, with_key, keys_in_order}
use Rattle.keyed_lists.proofs.Inserting.{equal_of}
use Rattle.keyed_lists.proofs.Rising.{IsBelowAll, Rises, below_lower, in_order_rises, turned_greater, turned_less}
use Rattle.numbered_rules.proofs.Tests.{false_or_true, or_left, or_right}

module _ {K : Type 0} (cmp : K → K → Ordering) where
  abbrev pub is_key : K → K → Bool
  is_key key other = is_eq (cmp other key)

  abbrev pub member : List K → K → Bool
  member keys key = list_any (is_key key) keys

  module _ (order : IsKeyOrder cmp) where
    pub itself : (key : K) → is_key key key ≡ true
    itself key = ap is_eq (tied_itself order.total key)

    pub same_key : (key other : K) → is_key key other ≡ true → other ≡ key
    same_key key other e = order.same other key (equal_of (cmp other key) e)

    member_with : (key k : K) (keys : List K) → member (with_key cmp k keys) key ≡ (is_key key k || member keys key)
    member_with key k [] = refl
    member_with key k (other ∷ keys) = by (cmp k other) refl (member_with key k keys)
      where
        again : (a b : Bool) → a ≡ b → (b || member keys key) ≡ (a || (b || member keys key))
        again true b e = rw (sym e) refl
        again false b e = refl

        past : (a b c : Bool) → (a || (b || c)) ≡ (b || (a || c))
        past true true c = refl
        past true false c = refl
        past false b c = refl

        by : (r : Ordering) → cmp k other ≡ r → member (with_key cmp k keys) key ≡ (is_key key k || member keys key)
            → member (match_ordering r (k ∷ other ∷ keys) (other ∷ keys) (other ∷ with_key cmp k keys)) key ≡ (is_key key k || (is_key key other || member keys key))
        by Less e more = refl
        by Equal e more = again (is_key key k) (is_key key other) (ap (is_key key) (order.same k other e))
        by Greater e more = ap (λ b. is_key key other || b) more ∙ past (is_key key other) (is_key key k) (member keys key)

    pub member_in_order : (key : K) (keys : List K) → member (keys_in_order cmp keys) key ≡ member keys key
    member_in_order key [] = refl
    member_in_order key (k ∷ keys) = member_with key k (keys_in_order cmp keys) ∙ ap (λ b. is_key key k || b) (member_in_order key keys)

    -- a key that is below all of some is none of them
    pub below_none : (key : K) (keys : List K) → IsBelowAll cmp key keys → member keys key ≡ false
    below_none key [] h = refl
    below_none key (other ∷ keys) h = rw (turned_less cmp order.total key other h.0, below_none key keys h.1) refl

    not_first : (key other : K) (keys others : List K) → cmp key other ≡ Less → IsBelowAll cmp other others → ((q : K) → member (key ∷ keys) q ≡ member (other ∷ others) q) → ⊥
    not_first key other keys others e h same =
        false_or_true (member (other ∷ others) key)
        (sym (same key) ∙ or_left (is_key key key) (member keys key) (itself key))
        (below_none key (other ∷ others) (e, below_lower cmp order.total key other others e h))

    rest_same : (key : K) (keys others : List K) → IsBelowAll cmp key keys → IsBelowAll cmp key others → ((q : K) → member (key ∷ keys) q ≡ member (key ∷ others) q) → (q : K) → member keys q ≡ member others q
    rest_same key keys others h k same q = by (is_key q key) refl (same q)
      where
        by : (b : Bool) → is_key q key ≡ b → (b || member keys q) ≡ (b || member others q) → member keys q ≡ member others q
        by true e f =
            let is : key ≡ q = same_key q key e in
            ap (member keys) (sym is) ∙ below_none key keys h ∙ sym (below_none key others k) ∙ ap (member others) is
        by false e f = f

    pub same_rising : (keys others : List K) → Rises cmp keys → Rises cmp others → ((q : K) → member keys q ≡ member others q) → keys ≡ others
    same_rising [] [] h k same = refl
    same_rising [] (other ∷ others) h k same = absurd (false_or_true (member (other ∷ others) other) (or_left (is_key other other) (member others other) (itself other)) (sym (same other)))
    same_rising (key ∷ keys) [] h k same = absurd (false_or_true (member (key ∷ keys) key) (or_left (is_key key key) (member keys key) (itself key)) (same key))
    same_rising (key ∷ keys) (other ∷ others) h k same = by (cmp key other) refl (same_rising keys others h.1 k.1)
      where
        by : (r : Ordering) → cmp key other ≡ r → (((q : K) → member keys q ≡ member others q) → keys ≡ others) → key ∷ keys ≡ other ∷ others
        by Less e more = absurd (not_first key other keys others e k.0 same)
        by Greater e more = absurd (not_first other key others keys (turned_greater cmp order.total key other e) h.0 (λ q. sym (same q)))
        by Equal e more =
            let is : key ≡ other = order.same key other e in
            let below : IsBelowAll cmp key others = subst (λ k. IsBelowAll cmp k others) (sym is) k.0 in
            let agree : (q : K) → member (key ∷ keys) q ≡ member (key ∷ others) q = λ q. same q ∙ ap (λ k. member (k ∷ others) q) (sym is) in
            ap (λ k. k ∷ keys) is ∙ ap (λ ks. other ∷ ks) (more (rest_same key keys others h.0 below agree))

    -- a list that rises strictly is some keys in order, where it has their members
    pub in_order_is : (keys others : List K) → Rises cmp keys → ((q : K) → member keys q ≡ member others q) → keys ≡ keys_in_order cmp others
    in_order_is keys others h same = same_rising keys (keys_in_order cmp others) h (in_order_rises cmp order.total others) (λ q. same q ∙ sym (member_in_order q others))

    pub in_order_same : (keys others : List K) → ((q : K) → member keys q ≡ member others q) → keys_in_order cmp keys ≡ keys_in_order cmp others
    in_order_same keys others same = in_order_is (keys_in_order cmp keys) others (in_order_rises cmp order.total keys) (λ q. member_in_order q keys ∙ same q)

    below_filter : (p : K → Bool) (key : K) (keys : List K) → IsBelowAll cmp key keys → IsBelowAll cmp key (filter p keys)
    below_filter p key [] h = tt
    below_filter p key (other ∷ keys) h = by (p other) (below_filter p key keys h.1)
      where
        by : (b : Bool) → IsBelowAll cmp key (filter p keys) → IsBelowAll cmp key (cond b (other ∷ filter p keys) (filter p keys))
        by true rest = (h.0, rest)
        by false rest = rest

    pub rises_filter : (p : K → Bool) (keys : List K) → Rises cmp keys → Rises cmp (filter p keys)
    rises_filter p [] h = tt
    rises_filter p (key ∷ keys) h = by (p key) (rises_filter p keys h.1)
      where
        by : (b : Bool) → Rises cmp (filter p keys) → Rises cmp (cond b (key ∷ filter p keys) (filter p keys))
        by true rest = (below_filter p key keys h.0, rest)
        by false rest = rest

    -- a member of the list passes a test that it passes
    pub at_member : (p : K → Bool) (key : K) (keys : List K) → member keys key ≡ true → p key ≡ true → list_any p keys ≡ true
    at_member p key [] there e = there
    at_member p key (k ∷ keys) there e = by (is_key key k) refl there (at_member p key keys)
      where
        by : (b : Bool) → is_key key k ≡ b → (b || member keys key) ≡ true → (member keys key ≡ true → p key ≡ true → list_any p keys ≡ true) → (p k || list_any p keys) ≡ true
        by true is there more = or_left (p k) (list_any p keys) (ap p (same_key key k is) ∙ e)
        by false is there more = or_right (p k) (list_any p keys) (more there e)

    -- what is kept of a list has a key where the list has it, and it passes
    pub member_kept : (p : K → Bool) (key : K) (keys : List K) → member (filter p keys) key ≡ (p key && member keys key)
    member_kept p key [] = none (p key)
      where
        none : (b : Bool) → false ≡ (b && false)
        none true = refl
        none false = refl
    member_kept p key (k ∷ keys) = by (p k) (is_key key k) refl refl (member_kept p key keys)
      where
        by : (b c : Bool) → p k ≡ b → is_key key k ≡ c → member (filter p keys) key ≡ (p key && member keys key)
            → member (cond b (k ∷ filter p keys) (filter p keys)) key ≡ (p key && (c || member keys key))
        by true true e f rest =
            let passes : p key ≡ true = ap p (sym (same_key key k f)) ∙ e in
            ap (λ b. b || member (filter p keys) key) f ∙ sym (ap (λ b. b && true) passes)
        by true false e f rest = ap (λ b. b || member (filter p keys) key) f ∙ rest
        by false true e f rest =
            let fails : p key ≡ false = ap p (sym (same_key key k f)) ∙ e in
            rest ∙ ap (λ b. b && member keys key) fails ∙ sym (ap (λ b. b && true) fails)
        by false false e f rest = rest

    -- two lists that rise and have all keys that pass keep the same
    pub kept_same : (p : K → Bool) (keys others : List K) → Rises cmp keys → Rises cmp others
        → ((q : K) → p q ≡ true → member keys q ≡ true) → ((q : K) → p q ≡ true → member others q ≡ true) → filter p keys ≡ filter p others
    kept_same p keys others h k all every =
        same_rising (filter p keys) (filter p others) (rises_filter p keys h) (rises_filter p others k)
        (λ q. member_kept p q keys ∙ by q (p q) refl ∙ sym (member_kept p q others))
      where
        by : (q : K) (b : Bool) → p q ≡ b → (p q && member keys q) ≡ (p q && member others q)
        by q true e = ap (λ b. p q && b) (all q e ∙ sym (every q e))
        by q false e = ap (λ b. b && member keys q) e ∙ sym (ap (λ b. b && member others q) e)
