-- A counted list, as a loop reads it.
use Rattle.std.proofs.Common.{◌≡◌, ℕ, zero, suc, ◌+◌, ◌-◌, ◌<◌, ◌≤◌, List, [], ◌∷◌, ◌++◌, refl, sym, ap, ◌∙◌, append_assoc, arith}
use Rattle.std.proofs.Common.{subst}
use Rattle.std.specs.Prelude.{map}
use Rattle.std.specs.List.{AllByRecursion}
use Rattle.std.proofs.lemmas.List.{append-nil, map_push}
use Rattle.pol_fields.specs.declared.fault.Fault.{Fault}
use Rattle.pol_cursor.specs.Outcome.{Position, Outcome, Got, Bad, Reader, and_then}
use Rattle.pol_cursor.specs.Parts.{list_of, records_at}
use Rattle.pol_cursor.specs.References.{Placed, placed, without_places}

-- a value was read, and nothing of it is kept but that it was
pub record Skips {A : Type 0} (old new : Position) (r : Reader A) : Type 0 where
  pub value : A
  pub read : r old.bytes old.place ≡ Got value new.place
  pub same : new.bytes ≡ old.bytes

-- A list that is being read from a first position: i items were read, they are the front, and reading the rest from where
-- the cursor stands now makes the whole.
pub record Going {S A : Type 0} (item : ℕ → S → Reader A) (step : S → A → S) (count : ℕ) (start : S) (first : Position) (i : ℕ) (context : S) (now : Position) (front : List A) : Type 0 where
  pub same : now.bytes ≡ first.bytes
  pub rest : and_then (list_of item step (count - i) context now.bytes now.place) (λ xs next. Got (front ++ xs) next) ≡ list_of item step count start first.bytes first.place

-- a list that is being read, where no item is kept
pub record Passing {S A : Type 0} (item : ℕ → S → Reader A) (step : S → A → S) (count : ℕ) (start : S) (first : Position) (i : ℕ) (context : S) (now : Position) : Type 0 where
  pub front : List A
  pub going : Going item step count start first i context now front

-- The records of a list were read, and of each its place is kept: by x_in they are what stands there.
pub record GoingAt {S A : Type 0} (x_in : List ℕ → ℕ → A) (has : List ℕ → ℕ → Type 0) (item : ℕ → S → Reader A) (step : S → A → S) (count : ℕ) (start : S) (first : Position) (bytes : List ℕ) (i : ℕ) (context : S) (now : Position) (places : List ℕ) : Type 0 where
  pub buffer : bytes ≡ first.bytes
  pub going : Going item step count start first i context now (map (x_in bytes) places)
  pub stand : AllByRecursion (has bytes) places

keep : {A : Type 0} (o : Outcome (List A)) → and_then o (λ xs next. Got ([] ++ xs) next) ≡ o
keep (Got x n) = refl
keep (Bad e) = refl

regroup : {A : Type 0} (front : List A) (x : A) (o : Outcome (List A)) → and_then (and_then o (λ xs next. Got (x ∷ xs) next)) (λ xs next. Got (front ++ xs) next) ≡ and_then o (λ xs next. Got ((front ++ x ∷ []) ++ xs) next)
regroup front x (Got xs n) = ap (λ (ys : List _). Got ys n) (simp append_assoc)
regroup front x (Bad e) = refl

-- the item that the code has read, and the cursor after it
abbrev pub Gave : {A : Type 0} → Reader A → A → Position → Position → Type 0
Gave r x old new = (r old.bytes old.place ≡ Got x new.place) × (new.bytes ≡ old.bytes)

module _ {S A : Type 0} (item : ℕ → S → Reader A) (step : S → A → S) (count : ℕ) (start : S) (first : Position) where
  abbrev Whole : Outcome (List A)
  Whole = list_of item step count start first.bytes first.place

  -- nothing has been read yet
  pub Going-start : Going item step count start first 0 start first []
  Going-start = record { same = refl; rest = let e : count - 0 ≡ count = omega arith in rw e (keep Whole) }

  -- the outcome of what is left, by that of the next item
  unfolded : (n : ℕ) (c : S) (now : Position) (front : List A) (o : Outcome A) → item n c now.bytes now.place ≡ o
      → and_then (list_of item step (suc n) c now.bytes now.place) (λ xs k. Got (front ++ xs) k) ≡ and_then (and_then o (λ y m. and_then (list_of item step n (step c y) now.bytes m) (λ ys k. Got (y ∷ ys) k))) (λ xs k. Got (front ++ xs) k)
  unfolding list_of
  unfolded n c now front o e = ap (λ (o : Outcome A). and_then (and_then o (λ y m. and_then (list_of item step n (step c y) now.bytes m) (λ ys k. Got (y ∷ ys) k))) (λ xs k. Got (front ++ xs) k)) e

  -- one more item
  pub Going-next : (i : ℕ) (c : S) (now : Position) (front : List A) (x : A) (next : Position) → i < count → Gave (item (count - i - 1) c) x now next → Going item step count start first i c now front → Going item step count start first (i + 1) (step c x) next (front ++ x ∷ [])
  Going-next i c now front x next lt e h =
      let n = count - i - 1 in
      let k : count - i ≡ suc n = omega arith in
      let k' : count - (i + 1) ≡ n = omega arith in
      record { same = e.1 ∙ h.same; rest = rw (k', e.1) (sym (regroup front x (list_of item step n (step c x) now.bytes next.place)) ∙ sym (unfolded n c now front (Got x next.place) e.0) ∙ (rw k at h.rest)) }

  -- an item is bad
  pub Going-bad : (i : ℕ) (c : S) (now : Position) (front : List A) (f : Fault) → i < count → item (count - i - 1) c now.bytes now.place ≡ Bad f → Going item step count start first i c now front → Whole ≡ Bad f
  Going-bad i c now front f lt e h =
      let k : count - i ≡ suc (count - i - 1) = omega arith in
      sym (rw k at h.rest) ∙ unfolded (count - i - 1) c now front (Bad f) e

  -- no item is left
  pub Going-end : (i : ℕ) (c : S) (now : Position) (front : List A) → count ≤ i → Going item step count start first i c now front → Whole ≡ Got front now.place
  unfolding list_of
  Going-end i c now front le h =
      let k : count - i ≡ 0 = omega arith in
      sym (rw k at h.rest) ∙ ap (λ (ys : List A). Got ys now.place) (append-nil front)

  -- ---- a list that is being read, where no item is kept

  pub Passing-start : Passing item step count start first 0 start first
  Passing-start = record { front = []; going = Going-start }

  pub Passing-next : (i : ℕ) (c : S) (now : Position) (x : A) (next : Position) → i < count → Gave (item (count - i - 1) c) x now next → Passing item step count start first i c now → Passing item step count start first (i + 1) (step c x) next
  Passing-next i c now x next lt e h = record { front = h.front ++ x ∷ []; going = Going-next i c now h.front x next lt e h.going }

  pub Passing-bad : (i : ℕ) (c : S) (now : Position) (f : Fault) → i < count → item (count - i - 1) c now.bytes now.place ≡ Bad f → Passing item step count start first i c now → Whole ≡ Bad f
  Passing-bad i c now f lt e h = Going-bad i c now h.front f lt e h.going

  pub Passing-end : (i : ℕ) (c : S) (now : Position) → count ≤ i → Passing item step count start first i c now → Skips first now (list_of item step count start)
  Passing-end i c now le h = record { value = h.front; read = Going-end i c now h.front le h.going; same = h.going.same }

-- ---- lists that keep places

AllByRecursion-push : (P : ℕ → Type 0) (xs : List ℕ) (x : ℕ) → AllByRecursion P xs → P x → AllByRecursion P (xs ++ x ∷ [])
AllByRecursion-push P [] x h one = (one, tt)
AllByRecursion-push P (y ∷ ys) x h one = (h.0, AllByRecursion-push P ys x h.1 one)

module _ {S A : Type 0} (x_in : List ℕ → ℕ → A) (has : List ℕ → ℕ → Type 0) (item : ℕ → S → Reader A) (step : S → A → S) (count : ℕ) (start : S) (first : Position) where
  pub GoingAt-next : (bytes : List ℕ) (i : ℕ) (c : S) (now : Position) (places : List ℕ) (x : A) (next : Position) (p : ℕ) → p ≡ now.place → i < count
      → Gave (item (count - i - 1) c) x now next → has now.bytes now.place × (x ≡ x_in now.bytes now.place) → GoingAt x_in has item step count start first bytes i c now places
      → GoingAt x_in has item step count start first bytes (i + 1) (step c x) next (places ++ p ∷ [])
  GoingAt-next bytes i c now places x next p at lt e s h =
      let same : now.bytes ≡ bytes = h.going.same ∙ sym h.buffer in
      let stands : has bytes p = rw at (subst (λ (b : List ℕ). has b now.place) same s.0) in
      let is : x ≡ x_in bytes p = rw at (s.1 ∙ ap (λ (b : List ℕ). x_in b now.place) same) in
      let one = Going-next item step count start first i c now (map (x_in bytes) places) x next lt e h.going in
      let whole : map (x_in bytes) (places ++ p ∷ []) ≡ map (x_in bytes) places ++ x ∷ [] = map_push (x_in bytes) places p ∙ ap (λ (y : A). map (x_in bytes) places ++ y ∷ []) (sym is) in
      record { buffer = h.buffer; going = rw whole one; stand = AllByRecursion-push (has bytes) places p h.stand stands }

  pub GoingAt-bad : (bytes : List ℕ) (i : ℕ) (c : S) (now : Position) (places : List ℕ) (f : Fault) → i < count → item (count - i - 1) c now.bytes now.place ≡ Bad f → GoingAt x_in has item step count start first bytes i c now places → list_of item step count start first.bytes first.place ≡ Bad f
  GoingAt-bad bytes i c now places f lt e h = Going-bad item step count start first i c now (map (x_in bytes) places) f lt e h.going

  pub GoingAt-end : (bytes : List ℕ) (i : ℕ) (c : S) (now : Position) (places : List ℕ) → count ≤ i → GoingAt x_in has item step count start first bytes i c now places → Gave (list_of item step count start) (map (x_in bytes) places) first now
  GoingAt-end bytes i c now places le h = (Going-end item step count start first i c now (map (x_in bytes) places) le h.going, h.going.same)

-- ---- records with their places

abbrev pub placed_in : {A : Type 0} → (List ℕ → ℕ → A) → List ℕ → ℕ → Placed A
placed_in x_in bytes place = record { place = place; value = x_in bytes place }

pub placed_got : {A : Type 0} (r : Reader A) (x : A) (old new : Position) → Gave r x old new → Gave (placed r) (record { place = old.place; value = x }) old new
unfolding placed
placed_got {A} r x old new h = (ap (λ (o : Outcome A). and_then o (λ y next. Got (record { place = old.place; value = y }) next)) h.0, h.1)

pub placed_bad : {A : Type 0} (r : Reader A) (f : Fault) (bytes : List ℕ) (place : ℕ) → r bytes place ≡ Bad f → placed r bytes place ≡ Bad f
unfolding placed
placed_bad {A} r f bytes place e = ap (λ (o : Outcome A). and_then o (λ y next. Got (record { place = place; value = y }) next)) e

-- the rest of a list, by the outcome of its first record
unplaced-cons : {A : Type 0} (p : Placed A) (o : Outcome (List (Placed A))) → without_places (and_then o (λ ps next. Got (p ∷ ps) next)) ≡ and_then (without_places o) (λ xs next. Got (p.value ∷ xs) next)
unplaced-cons p (Got ps next) = refl
unplaced-cons p (Bad f) = refl

-- one record, and others of which that is known
pub unplaced_rest : {A : Type 0} (place : ℕ) (others : A → ℕ → Outcome (List (Placed A))) (plain : A → ℕ → Outcome (List A)) → ((x : A) (next : ℕ) → without_places (others x next) ≡ plain x next) → (o : Outcome A)
    → without_places (and_then (and_then o (λ x next. Got (record { place = place; value = x }) next)) (λ p next. and_then (others p.value next) (λ ps k. Got (p ∷ ps) k))) ≡ and_then o (λ x next. and_then (plain x next) (λ xs k. Got (x ∷ xs) k))
unplaced_rest place others plain same (Bad f) = refl
unplaced_rest {A} place others plain same (Got x next) =
    unplaced-cons (record { place = place; value = x }) (others x next) ∙ ap (λ (o : Outcome (List A)). and_then o (λ xs k. Got (x ∷ xs) k)) (same x next)

-- Records that are read with their places are the records that are read.
pub records_unplaced : {A : Type 0} (r : Reader A) (n : ℕ) (bytes : List ℕ) (place : ℕ) → without_places (records_at (placed r) n bytes place) ≡ records_at r n bytes place
unfolding records_at list_of placed
records_unplaced r zero bytes place = refl
records_unplaced {A} r (suc n) bytes place =
    unplaced_rest place (λ x next. records_at (placed r) n bytes next) (λ x next. records_at r n bytes next) (λ x next. records_unplaced r n bytes next) (r bytes place)
