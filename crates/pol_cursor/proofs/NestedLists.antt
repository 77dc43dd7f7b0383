-- Records that stand one behind the other, as a loop goes through them.
use Rattle.std.proofs.Common.{◌≡◌, ◌≢◌, ℕ, zero, suc, ◌+◌, ◌-◌, ◌<◌, ◌≤◌, List, [], ◌∷◌, ◌++◌, length, refl, sym, ap, subst, ◌∙◌, append_assoc, add-one, arith}
use Rattle.std.specs.Prelude.{slice_get, Some}
use Rattle.std.proofs.lemmas.List.{append-nil, map_push}
use Rattle.pol_fields.specs.declared.fault.Fault.{Fault}
use Rattle.pol_cursor.specs.Outcome.{Position, Reader, Got, Bad}
use Rattle.pol_cursor.specs.Parts.{records_at}
use Rattle.pol_cursor.specs.References.{Placed, values_of}
use Rattle.pol_cursor.specs.NestedRecords.{nested_in, nested_end, HasNested}
use Rattle.pol_cursor.proofs.Lists.{Going, Going-start, Going-next, Going-bad, Going-end, Gave, placed_in}

pub length_nested_in : {A : Type 0} (standing : List ℕ → ℕ → A) (ends : List ℕ → ℕ → ℕ) (bytes : List ℕ) (place n : ℕ) → length (nested_in standing ends bytes place n) ≡ n
unfolding nested_in
length_nested_in standing ends bytes place zero = refl
length_nested_in standing ends bytes place (suc n) = ap suc (length_nested_in standing ends bytes (ends bytes place) n)

-- the record of a number stands behind so many
pub get_nested_in : {A : Type 0} (standing : List ℕ → ℕ → A) (ends : List ℕ → ℕ → ℕ) (bytes : List ℕ) (place n i : ℕ) → i < n → slice_get (nested_in standing ends bytes place n) i ≡ Some (placed_in standing bytes (nested_end ends bytes place i))
unfolding nested_in nested_end
get_nested_in standing ends bytes place zero i lt = absurd (omega arith)
get_nested_in standing ends bytes place (suc n) zero lt = refl
get_nested_in standing ends bytes place (suc n) (suc i) lt = get_nested_in standing ends bytes (ends bytes place) n i (omega arith)

pub left_is : (count i : ℕ) → i < count → count - i ≡ suc (count - (i + 1))
left_is count i lt = omega arith

-- the place behind one more
pub nested_end_next : (ends : List ℕ → ℕ → ℕ) (bytes : List ℕ) (place i : ℕ) → nested_end ends bytes place (i + 1) ≡ ends bytes (nested_end ends bytes place i)
unfolding nested_end
nested_end_next ends bytes place i = rw add-one (next place i)
  where
    next : (place i : ℕ) → nested_end ends bytes place (suc i) ≡ ends bytes (nested_end ends bytes place i)
    next place zero = refl
    next place (suc i) = next (ends bytes place) i

-- of the first records of a run, and of the record behind them
pub nested_has : (has : List ℕ → ℕ → Type 0) (ends : List ℕ → ℕ → ℕ) (bytes : List ℕ) (place n i : ℕ) → i < n → HasNested has ends bytes place n → has bytes (nested_end ends bytes place i)
unfolding HasNested nested_end
nested_has has ends bytes place zero i lt h = absurd (omega arith)
nested_has has ends bytes place (suc n) zero lt h = h.0
nested_has has ends bytes place (suc n) (suc i) lt h = nested_has has ends bytes (ends bytes place) n i (omega arith) h.1

pub nested_front : (has : List ℕ → ℕ → Type 0) (ends : List ℕ → ℕ → ℕ) (bytes : List ℕ) (place n i : ℕ) → i ≤ n → HasNested has ends bytes place n → HasNested has ends bytes place i
unfolding HasNested
nested_front has ends bytes place n zero le h = tt
nested_front has ends bytes place zero (suc i) le h = absurd (omega arith)
nested_front has ends bytes place (suc n) (suc i) le h = (h.0, nested_front has ends bytes (ends bytes place) n i (omega arith) h.1)

-- ---- the first of the records that are left, and the others

module _ {A : Type 0} (standing : List ℕ → ℕ → A) (has : List ℕ → ℕ → Type 0) (ends : List ℕ → ℕ → ℕ) (bytes : List ℕ) (place count i : ℕ) (lt : i < count) where
  pub run_left : nested_in standing ends bytes place (count - i) ≡ placed_in standing bytes place ∷ nested_in standing ends bytes (ends bytes place) (count - (i + 1))
  unfolding nested_in
  run_left = rw (left_is count i lt) refl

  pub run_left_end : nested_end ends bytes place (count - i) ≡ nested_end ends bytes (ends bytes place) (count - (i + 1))
  unfolding nested_end
  run_left_end = rw (left_is count i lt) refl

  pub run_left_made : has bytes place → HasNested has ends bytes (ends bytes place) (count - (i + 1)) → HasNested has ends bytes place (count - i)
  unfolding HasNested
  run_left_made one others = rw (left_is count i lt) (one, others)

-- ---- records that are passed over

pub record PassingNested {A : Type 0} (record_at : Reader A) (standing : List ℕ → ℕ → A) (has : List ℕ → ℕ → Type 0) (ends : List ℕ → ℕ → ℕ) (count : ℕ) (first : Position) (i : ℕ) (now : Position) : Type 0 where
  pub front : List (Placed A)
  pub going : Going {S = Unit {0}} (λ left context. record_at) (λ context x. context) count tt first i tt now (values_of front)
  pub whole : front ++ nested_in standing ends first.bytes now.place (count - i) ≡ nested_in standing ends first.bytes first.place count
  pub stand : HasNested has ends first.bytes now.place (count - i) → HasNested has ends first.bytes first.place count
  pub end : nested_end ends first.bytes now.place (count - i) ≡ nested_end ends first.bytes first.place count

module _ {A : Type 0} (record_at : Reader A) (standing : List ℕ → ℕ → A) (has : List ℕ → ℕ → Type 0) (ends : List ℕ → ℕ → ℕ) (count : ℕ) (first : Position) where
  pub PassingNested-start : PassingNested record_at standing has ends count first 0 first
  PassingNested-start =
      let all : count - 0 ≡ count = omega arith in
      record {
        front = [];
        going = Going-start {S = Unit {0}} (λ left context. record_at) (λ context x. context) count tt first;
        whole = rw all refl;
        stand = λ h. rw all at h;
        end = rw all refl;
      }

  pub PassingNested-next : (i : ℕ) (now next : Position) → i < count → Gave record_at (standing now.bytes now.place) now next → has now.bytes now.place → next.place ≡ ends now.bytes now.place → PassingNested record_at standing has ends count first i now
      → PassingNested record_at standing has ends count first (i + 1) next
  PassingNested-next i now next lt e one behind h =
      let same : now.bytes ≡ first.bytes = h.going.same in
      let behind' : next.place ≡ ends first.bytes now.place = behind ∙ ap (λ (b : List ℕ). ends b now.place) same in
      let one' : has first.bytes now.place = subst (λ (b : List ℕ). has b now.place) same one in
      let is : standing now.bytes now.place ≡ standing first.bytes now.place = ap (λ (b : List ℕ). standing b now.place) same in
      let p = placed_in standing first.bytes now.place in
      let values : values_of (h.front ++ p ∷ []) ≡ values_of h.front ++ standing now.bytes now.place ∷ [] = map_push (λ (r : Placed A). r.value) h.front p ∙ ap (λ (x : A). values_of h.front ++ x ∷ []) (sym is) in
      let left : nested_in standing ends first.bytes now.place (count - i) ≡ p ∷ nested_in standing ends first.bytes next.place (count - (i + 1)) =
      run_left standing has ends first.bytes now.place count i lt ∙ ap (λ (q : ℕ). p ∷ nested_in standing ends first.bytes q (count - (i + 1))) (sym behind') in
      record {
        front = h.front ++ p ∷ [];
        going = rw values (Going-next {S = Unit {0}} (λ left context. record_at) (λ context x. context) count tt first i tt now (values_of h.front) (standing now.bytes now.place) next lt e h.going);
        whole = append_assoc h.front (p ∷ []) (nested_in standing ends first.bytes next.place (count - (i + 1))) ∙ ap (λ (rs : List (Placed A)). h.front ++ rs) (sym left) ∙ h.whole;
        stand = λ others. h.stand (run_left_made standing has ends first.bytes now.place count i lt one' (subst (λ (q : ℕ). HasNested has ends first.bytes q (count - (i + 1))) behind' others));
        end = ap (λ (q : ℕ). nested_end ends first.bytes q (count - (i + 1))) behind' ∙ sym (run_left_end standing has ends first.bytes now.place count i lt) ∙ h.end;
      }

  pub PassingNested-bad : (i : ℕ) (now : Position) (f : Fault) → i < count → record_at now.bytes now.place ≡ Bad f → PassingNested record_at standing has ends count first i now → records_at record_at count first.bytes first.place ≡ Bad f
  unfolding records_at
  PassingNested-bad i now f lt e h = Going-bad {S = Unit {0}} (λ left context. record_at) (λ context x. context) count tt first i tt now (values_of h.front) f lt e h.going

  -- all of them were passed over
  pub record PassedRun (now : Position) : Type 0 where
    pub read : Gave (records_at record_at count) (values_of (nested_in standing ends first.bytes first.place count)) first now
    pub stand : HasNested has ends first.bytes first.place count
    pub end : now.place ≡ nested_end ends first.bytes first.place count

  pub PassingNested-end : (i : ℕ) (now : Position) → count ≤ i → PassingNested record_at standing has ends count first i now → PassedRun now
  unfolding records_at nested_in nested_end HasNested
  PassingNested-end i now le h =
      let none : count - i ≡ 0 = omega arith in
      let all : h.front ≡ nested_in standing ends first.bytes first.place count = sym (append-nil h.front) ∙ (rw none at h.whole) in
      let read = Going-end {S = Unit {0}} (λ left context. record_at) (λ context x. context) count tt first i tt now (values_of h.front) le h.going in
      record {
        read = (read ∙ ap (λ (rs : List (Placed A)). Got (values_of rs) now.place) all, h.going.same);
        stand = (rw none at h.stand) tt;
        end = rw none at h.end;
      }

-- ---- the first record of a run that has one, and the others

module _ {A : Type 0} (standing : List ℕ → ℕ → A) (has : List ℕ → ℕ → Type 0) (ends : List ℕ → ℕ → ℕ) (bytes : List ℕ) (place count : ℕ) (some : count ≢ 0) where
  count_is : count ≡ suc (count - 1)
  count_is = omega (arith, some)

  pub nested_first : nested_in standing ends bytes place count ≡ placed_in standing bytes place ∷ nested_in standing ends bytes (ends bytes place) (count - 1)
  unfolding nested_in
  nested_first = ap (nested_in standing ends bytes place) count_is

  pub nested_first_has : HasNested has ends bytes place count → has bytes place
  unfolding HasNested
  nested_first_has h = (subst (λ (n : ℕ). HasNested has ends bytes place n) count_is h).0

  pub nested_others_stand : HasNested has ends bytes place count → HasNested has ends bytes (ends bytes place) (count - 1)
  unfolding HasNested
  nested_others_stand h = (subst (λ (n : ℕ). HasNested has ends bytes place n) count_is h).1

-- no record
pub nested_none : {A : Type 0} (standing : List ℕ → ℕ → A) (ends : List ℕ → ℕ → ℕ) (bytes : List ℕ) (place count : ℕ) → count ≡ 0 → nested_in standing ends bytes place count ≡ []
unfolding nested_in
nested_none standing ends bytes place count none = ap (nested_in standing ends bytes place) none
