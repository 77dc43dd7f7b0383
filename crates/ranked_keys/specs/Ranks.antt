-- Keys that rise strictly and are few enough to be numbered.
use Rattle.std.specs.Prelude.{◌+◌, ◌<◌, ◌^◌, ℕ, List, unwrap_or, [], ◌∷◌, length}
use Rattle.std.specs.declared.cmp.Ordering.{Ordering}
use Rattle.keyed_lists.specs.KeyOrder.{place_in, with_key}
use Rattle.keyed_lists.proofs.Rising.{Rises}

-- they rise, and each has a number of 32 bits, where 0 is left to none
pub record AreRanked {K : Type 0} (cmp : K → K → Ordering) (keys : List K) : Type 0 where
  pub rises : Rises cmp keys
  pub few : length keys + 1 < 2 ^ 32

-- the keys of a list, put among those that are there
abbrev pub with_keys : {K : Type 0} → (K → K → Ordering) → List K → List K → List K
with_keys cmp [] there = there
with_keys cmp (key ∷ keys) there = with_key cmp key (with_keys cmp keys there)

-- the rank of a key among keys in order, and the first one where it is not there
abbrev pub rank_among : {K : Type 0} → (K → K → Ordering) → List K → K → ℕ
rank_among cmp keys key = unwrap_or (place_in cmp keys key) 0
