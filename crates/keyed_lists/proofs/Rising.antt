-- Keys that rise strictly: those that are put in order do.
use Rattle.std.proofs.Common.{◌≡◌, List, [], ◌∷◌, ◌++◌, refl, sym, ap, ◌∙◌}
use Rattle.std.specs.declared.cmp.Ordering.{Ordering}
use Rattle.std.specs.declared.cmp.Ordering.TheVariants.{Less, Equal, Greater}
use Rattle.std.specs.Ordering.{match_ordering, ordering_reverse}
use Rattle.std.specs.Cmp.{IsTotalOrder}
use Rattle.keyed_lists.specs.KeyOrder.{with_key, keys_in_order}

module _ {K : Type 0} (cmp : K → K → Ordering) where
  -- a key is below each of these
  abbrev pub IsBelowAll : K → List K → Type 0
  IsBelowAll key [] = Unit {0}
  IsBelowAll key (other ∷ keys) = (cmp key other ≡ Less) × IsBelowAll key keys

  -- each is below those behind it
  abbrev pub Rises : List K → Type 0
  Rises [] = Unit {0}
  Rises (key ∷ keys) = IsBelowAll key keys × Rises keys

  module _ (order : IsTotalOrder cmp) where
    pub below_lower : (low key : K) (keys : List K) → cmp low key ≡ Less → IsBelowAll key keys → IsBelowAll low keys
    below_lower low key [] e h = tt
    below_lower low key (other ∷ keys) e h = (order.trans low key other e h.0, below_lower low key keys e h.1)

    pub below_same : (a b : K) (keys : List K) → cmp a b ≡ Equal → IsBelowAll b keys → IsBelowAll a keys
    below_same a b [] e h = tt
    below_same a b (other ∷ keys) e h = (order.congr a b other e ∙ h.0, below_same a b keys e h.1)

    pub turned_greater : (a b : K) → cmp a b ≡ Greater → cmp b a ≡ Less
    turned_greater a b e = order.antisymm b a ∙ ap ordering_reverse e

    pub turned_less : (a b : K) → cmp a b ≡ Less → cmp b a ≡ Greater
    turned_less a b e = order.antisymm b a ∙ ap ordering_reverse e

    below_with : (low key : K) (keys : List K) → cmp low key ≡ Less → IsBelowAll low keys → IsBelowAll low (with_key cmp key keys)
    below_with low key [] e h = (e, tt)
    below_with low key (other ∷ keys) e h = by (cmp key other) (below_with low key keys e h.1)
      where
        by : (r : Ordering) → IsBelowAll low (with_key cmp key keys) → IsBelowAll low (match_ordering r (key ∷ other ∷ keys) (other ∷ keys) (other ∷ with_key cmp key keys))
        by Less more = (e, h)
        by Equal more = h
        by Greater more = (h.0, more)

    pub rises_with : (key : K) (keys : List K) → Rises keys → Rises (with_key cmp key keys)
    rises_with key [] h = (tt, tt)
    rises_with key (other ∷ keys) h = by (cmp key other) refl (rises_with key keys h.1)
      where
        by : (r : Ordering) → cmp key other ≡ r → Rises (with_key cmp key keys) → Rises (match_ordering r (key ∷ other ∷ keys) (other ∷ keys) (other ∷ with_key cmp key keys))
        by Less e more = ((e, below_lower key other keys e h.0), h)
        by Equal e more = h
        by Greater e more = (below_with other key keys (turned_greater key other e) h.0, more)

    -- keys that are put in order rise strictly
    pub in_order_rises : (keys : List K) → Rises (keys_in_order cmp keys)
    in_order_rises [] = tt
    in_order_rises (key ∷ keys) = rises_with key (keys_in_order cmp keys) (in_order_rises keys)
