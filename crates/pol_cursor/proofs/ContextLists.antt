-- Lists of records that are read under what the records before them made of a context.
use Rattle.std.proofs.Common.{◌≡◌, ℕ, zero, suc, ◌+◌, ◌<◌, ◌≤◌, List, [], ◌∷◌, ◌++◌, refl, sym, ap, ◌∙◌}
use Rattle.std.specs.Prelude.{map}
use Rattle.std.proofs.lemmas.List.{map_push}
use Rattle.pol_cursor.specs.declared.read_error.ReadError.{ReadError}
use Rattle.pol_cursor.specs.declared.read_error.ReadError.TheVariants as errors
use Rattle.pol_cursor.specs.Outcome.{Position, Reader, Fails}
use Rattle.pol_cursor.specs.Parts.{list_of}
use Rattle.pol_cursor.specs.References.{Placed, placed, without_places}
use Rattle.pol_cursor.specs.Contexts.{context_after, records_after}
use Rattle.pol_cursor.proofs.Lists.{Going-start, GoingAt, GoingAt-next, GoingAt-bad, GoingAt-end, Gave, placed_in, placed_got, placed_bad, unplaced_rest}

-- the context after one more record
pub context_next : {S A : Type 0} (after : S → A → S) (context : S) (rs : List (Placed A)) (r : Placed A) → context_after after context (rs ++ r ∷ []) ≡ after (context_after after context rs) r.value
unfolding context_after
context_next after context [] r = refl
context_next after context (s ∷ rs) r = context_next after (after context s.value) rs r

-- Records that are read with their places are the records that are read.
pub records_after_unplaced : {S A : Type 0} (record_at : S → Reader A) (after : S → A → S) (n : ℕ) (context : S) (bytes : List ℕ) (place : ℕ)
    → without_places (records_after record_at after n context bytes place) ≡ list_of (λ left context. record_at context) after n context bytes place
unfolding records_after list_of placed
records_after_unplaced record_at after zero context bytes place = refl
records_after_unplaced {S} {A} record_at after (suc n) context bytes place =
    unplaced_rest place (λ x next. records_after record_at after n (after context x) bytes next) (λ x next. list_of (λ left context. record_at context) after n (after context x) bytes next)
    (λ x next. records_after_unplaced record_at after n (after context x) bytes next) (record_at context bytes place)

-- ---- as a loop reads them

pub record GoingAfter {S A : Type 0} (standing : List ℕ → ℕ → A) (has : List ℕ → ℕ → Type 0) (record_at : S → Reader A) (after : S → A → S) (count : ℕ) (start : S) (first : Position) (bytes : List ℕ) (i : ℕ) (context : S) (now : Position) (places : List ℕ) : Type 0 where
  pub list : GoingAt (placed_in standing) has (λ left context. placed (record_at context)) (λ context r. after context r.value) count start first bytes i context now places
  pub made : context ≡ context_after after start (map (placed_in standing bytes) places)

module _ {S A : Type 0} (standing : List ℕ → ℕ → A) (has : List ℕ → ℕ → Type 0) (record_at : S → Reader A) (after : S → A → S) (count : ℕ) (start : S) (first : Position) (bytes : List ℕ) where
  pub GoingAfter-next : (i : ℕ) (context : S) (now : Position) (places : List ℕ) (next : Position) (p : ℕ) (context' : S) → p ≡ now.place → i < count
      → Gave (record_at context) (standing now.bytes now.place) now next → has now.bytes now.place → context' ≡ after context (standing now.bytes now.place)
      → GoingAfter standing has record_at after count start first bytes i context now places → GoingAfter standing has record_at after count start first bytes (i + 1) context' next (places ++ p ∷ [])
  unfolding context_after
  GoingAfter-next i context now places next p context' at lt read one is h =
      let same : now.bytes ≡ bytes = h.list.going.same ∙ sym h.list.buffer in
      let r = placed_in standing now.bytes now.place in
      let r' : placed_in standing bytes p ≡ r = ap (λ (b : List ℕ). placed_in standing b p) (sym same) ∙ ap (placed_in standing now.bytes) at in
      let whole : map (placed_in standing bytes) (places ++ p ∷ []) ≡ map (placed_in standing bytes) places ++ r ∷ [] = map_push (placed_in standing bytes) places p ∙ ap (λ (y : Placed A). map (placed_in standing bytes) places ++ y ∷ []) r' in
      rw is (record {
        list = GoingAt-next (placed_in standing) has (λ left context. placed (record_at context)) (λ context r. after context r.value) count start first bytes i context now places r next p at lt
            (placed_got (record_at context) (standing now.bytes now.place) now next read) (one, refl) h.list;
        made = ap (λ (s : S). after s (standing now.bytes now.place)) h.made ∙ sym (context_next after start (map (placed_in standing bytes) places) r) ∙ ap (context_after after start) (sym whole);
      })

  -- nothing has been read yet
  pub GoingAfter-start : bytes ≡ first.bytes → GoingAfter standing has record_at after count start first bytes 0 start first []
  unfolding context_after
  GoingAfter-start same = record {
    list = record { buffer = same; going = Going-start (λ left context. placed (record_at context)) (λ context r. after context r.value) count start first; stand = tt };
    made = refl;
  }

  -- a record is refused, or there is no memory
  pub GoingAfter-fails : (i : ℕ) (context : S) (now : Position) (places : List ℕ) (e : ReadError) → i < count → Fails e (record_at context now.bytes now.place)
      → GoingAfter standing has record_at after count start first bytes i context now places → Fails e (records_after record_at after count start first.bytes first.place)
  unfolding records_after
  GoingAfter-fails i context now places errors.Memory lt bad h = tt
  GoingAfter-fails i context now places (errors.Fault f) lt bad h =
      GoingAt-bad (placed_in standing) has (λ left context. placed (record_at context)) (λ context r. after context r.value) count start first bytes i context now places f lt (placed_bad (record_at context) f now.bytes now.place bad) h.list

  -- no record is left
  pub GoingAfter-end : (i : ℕ) (context : S) (now : Position) (places : List ℕ) → count ≤ i → GoingAfter standing has record_at after count start first bytes i context now places
      → Gave (records_after record_at after count start) (map (placed_in standing bytes) places) first now
  unfolding records_after
  GoingAfter-end i context now places le h = GoingAt-end (placed_in standing) has (λ left context. placed (record_at context)) (λ context r. after context r.value) count start first bytes i context now places le h.list
