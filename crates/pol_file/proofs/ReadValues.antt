-- What is true of each value that a reader gives: of parts, of records with their places, and of lists.
use Rattle.std.proofs.Common.{◌≡◌, ℕ, zero, suc, List, [], ◌∷◌, All, length, refl, subst, ap}
use Rattle.std.proofs.lemmas.List.Elements.{All-nil, All-cons}
use Rattle.pol_cursor.specs.Outcome.{Got, Reader, ◌>>=◌}
use Rattle.pol_cursor.specs.Parts.{list_of}
use Rattle.pol_cursor.specs.References.{Placed, placed}
use Rattle.pol_cursor.specs.Contexts.{records_after}
use Rattle.pol_cursor.proofs.Laws.{and_then_got}
use Rattle.pol_symtab.specs.Inner.Freshness.{Gives}
use Rattle.pol_symtab.proofs.FreshRecords.{Gives-part, Gives-any, Gives-done}

-- a part of which nothing is said, and then the others
pub gives-others : {A B : Type 0} (r : Reader A) {f : A → Reader B} {Q : B → Type 0} → ((x : A) → Gives (f x) Q) → Gives (r >>= f) Q
gives-others r others = Gives-part (Gives-any r) λ x known. others x

-- what follows from a fact of the value
pub gives-weaker : {A : Type 0} {r : Reader A} {P Q : A → Type 0} → Gives r P → ((x : A) → P x → Q x) → Gives r Q
gives-weaker gives follows = record { each = λ bytes place x next e. follows x (gives.each bytes place x next e) }

-- a record with the place where it was read
pub gives-placed : {A : Type 0} {record_at : Reader A} {P : A → Type 0} → Gives record_at P → Gives (placed record_at) (λ r. P r.value)
unfolding placed
gives-placed {A} {record_at} {P} gives = record {
  each = λ bytes place r next e.
      let g = and_then_got (record_at bytes place) (λ x next. Got (record { place = place; value = x }) next) r next e in
      subst P (value_same (record { place = place; value = g.0 }) r g.1 next g.3) (gives.each bytes place g.0 g.1 g.2);
}
  where
    value_same : {A : Type 0} (r s : Placed A) (n m : ℕ) → Got r n ≡ Got s m → r.value ≡ s.value
    value_same r s n m e = cc

-- so many items, of each of which the fact is true
pub record AreSoMany {A : Type 0} (n : ℕ) (P : A → Type 0) (xs : List A) : Type 0 where
  pub count : length xs ≡ n
  pub each : All P xs

-- items that are read under what the ones before them made of a context, of which something stays true
pub gives-list_of : {S A : Type 0} (item : ℕ → S → Reader A) (step : S → A → S) (Under : S → Type 0) (P : A → Type 0) → ((left : ℕ) (context : S) → Under context → Gives (item left context) P)
    → ((context : S) (x : A) → Under context → Under (step context x)) → (n : ℕ) (context : S) → Under context → Gives (list_of item step n context) (AreSoMany n P)
unfolding list_of
gives-list_of item step Under P each still zero context under = Gives-done _ [] (record { count = refl; each = All-nil P })
gives-list_of item step Under P each still (suc n) context under =
    Gives-part (each n context under) λ x x-has.
    Gives-part (gives-list_of item step Under P each still n (step context x) (still context x under)) λ xs xs-have.
    Gives-done _ (x ∷ xs) (record { count = ap suc xs-have.count; each = All-cons P x xs x-has xs-have.each })

-- the same of records with their places
pub gives-records_after : {S A : Type 0} (record_at : S → Reader A) (after : S → A → S) (Under : S → Type 0) (P : A → Type 0) → ((context : S) → Under context → Gives (record_at context) P)
    → ((context : S) (x : A) → Under context → Under (after context x)) → (n : ℕ) (context : S) → Under context → Gives (records_after record_at after n context) (AreSoMany n (λ r. P r.value))
unfolding records_after
gives-records_after record_at after Under P each still n context under =
    gives-list_of (λ left context. placed (record_at context)) (λ context r. after context r.value) Under (λ r. P r.value) (λ left context known. gives-placed (each context known)) (λ context r known. still context r.value known) n context under
