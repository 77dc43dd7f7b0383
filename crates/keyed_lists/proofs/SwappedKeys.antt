-- The keys of two lists are in one order, whichever list comes first.
use Rattle.std.proofs.Common.{◌≡◌, List, [], ◌∷◌, ◌++◌, refl, sym, ap, ◌∙◌}
use Rattle.std.specs.declared.cmp.Ordering.{Ordering}
use Rattle.std.specs.declared.cmp.Ordering.TheVariants.{Less, Equal, Greater}
use Rattle.std.specs.Ordering.{match_ordering}
use Rattle.std.proofs.lemmas.List.{append-nil}
use Rattle.std.proofs.lemmas.Cmp.{tied_back}
use Rattle.keyed_lists.specs.KeyOrder.{IsKeyOrder, with_key, keys_in_order, keys_of_both}
use Rattle.keyed_lists.proofs.Rising.{turned_less, turned_greater}

module _ {K : Type 0} (cmp : K → K → Ordering) (order : IsKeyOrder cmp) where
  less : (a b : K) → cmp a b ≡ Less → cmp b a ≡ Greater
  less a b e = turned_less cmp order.total a b e

  greater : (a b : K) → cmp a b ≡ Greater → cmp b a ≡ Less
  greater a b e = turned_greater cmp order.total a b e

  -- a is below c, and c is below b
  between : (a b c : K) → cmp a c ≡ Less → cmp b c ≡ Greater → cmp a b ≡ Less
  between a b c e f = order.total.trans a c b e (greater b c f)

  two : (a b : K) → with_key cmp a (b ∷ []) ≡ with_key cmp b (a ∷ [])
  two a b = by (cmp a b) refl
    where
      by : (r : Ordering) → cmp a b ≡ r → with_key cmp a (b ∷ []) ≡ with_key cmp b (a ∷ [])
      by Less e = simp (e, less a b e)
      by Equal e = rw (order.same a b e) refl
      by Greater e = simp (e, greater a b e)

  commute : (a b : K) (keys : List K) → with_key cmp a (with_key cmp b keys) ≡ with_key cmp b (with_key cmp a keys)
  commute a b [] = two a b
  commute a b (k ∷ keys) = by (cmp a k) (cmp b k) refl refl (commute a b keys)
    where
      both_less : (t : Ordering) → cmp a b ≡ t → cmp a k ≡ Less → cmp b k ≡ Less → with_key cmp a (with_key cmp b (k ∷ keys)) ≡ with_key cmp b (with_key cmp a (k ∷ keys))
      both_less Less g e f = simp (e, f, g, less a b g)
      both_less Equal g e f =
          let h : cmp b a ≡ Equal = tied_back order.total a b g in
          simp (e, f, g, h) (ap (λ (x : K). x ∷ k ∷ keys) (sym (order.same a b g)))
      both_less Greater g e f = simp (e, f, g, greater a b g)

      by : (r s : Ordering) → cmp a k ≡ r → cmp b k ≡ s → with_key cmp a (with_key cmp b keys) ≡ with_key cmp b (with_key cmp a keys)
          → with_key cmp a (with_key cmp b (k ∷ keys)) ≡ with_key cmp b (with_key cmp a (k ∷ keys))
      by Less Less e f more = both_less (cmp a b) refl e f
      by Less Equal e f more =
          let h : cmp b a ≡ Greater = order.total.congr b k a f ∙ less a k e in
          simp (e, f, h)
      by Less Greater e f more =
          let h : cmp b a ≡ Greater = less a b (between a b k e f) in
          simp (e, f, h)
      by Equal Less e f more =
          let h : cmp a b ≡ Greater = order.total.congr a k b e ∙ less b k f in
          simp (e, f, h)
      by Equal Equal e f more = simp (e, f)
      by Equal Greater e f more = simp (e, f)
      by Greater Less e f more =
          let h : cmp a b ≡ Greater = less b a (between b a k f e) in
          simp (e, f, h)
      by Greater Equal e f more = simp (e, f)
      by Greater Greater e f more = simp (e, f) (ap (λ ks. k ∷ ks) more)

  moved : (key : K) (front back : List K) → keys_in_order cmp (front ++ key ∷ back) ≡ with_key cmp key (keys_in_order cmp (front ++ back))
  moved key [] back = refl
  moved key (k ∷ front) back = ap (with_key cmp k) (moved key front back) ∙ commute k key (keys_in_order cmp (front ++ back))

  pub swapped : (first second : List K) → keys_of_both cmp first second ≡ keys_of_both cmp second first
  swapped [] second = ap (keys_in_order cmp) (sym (append-nil second))
  swapped (key ∷ first) second = ap (with_key cmp key) (swapped first second) ∙ sym (moved key second first)
