-- A value that was read from a text somewhere is read from it everywhere.
use Rattle.std.proofs.Common.{◌≡◌, ℕ, ◌+◌, Option, None, List, [], ◌∷◌, ◌++◌, length, refl, sym, ap, subst, ◌∙◌, append_assoc, arith}
use Rattle.std.specs.Prelude.{map}
use Rattle.std.specs.List.{flat_map, AllByRecursion}
use Rattle.std.proofs.lemmas.List.{length-append, append-nil, length-map}
use Rattle.std.proofs.lemmas.List.Concat.{flat_map-cons}
use Rattle.pol_fields.specs.declared.Field.{Field}
use Rattle.pol_fields.specs.declared.Cause.{Cause}
use Rattle.pol_cursor.specs.Outcome.{Outcome, Reader, Got, Bad, and_then, ◌>>=◌, done, judged, checked}
use Rattle.pol_cursor.specs.Parts.{list_of, records_at}
use Rattle.pol_cursor.specs.Laws.{IsOf, Again, IsReadAgain}
use Rattle.pol_cursor.proofs.Laws.{and_then_got, judged_got, Again-list_of}
use Rattle.pol_write.proofs.Findings.{Finds, FindsAgain}
use Rattle.pol_moved.proofs.Granted.{IsGiven, GrantsOf, EachUnder, grants-list_of}
use Rattle.pol_moved.proofs.Moves.{AreMoved, MovesTo, Moves}

-- the value was read from the text where it stood
pub record Stood {A : Type 0} (r : Reader A) (x : A) (text : List ℕ) : Type 0 where
  pub before : List ℕ
  pub after : List ℕ
  pub got : r (before ++ (text ++ after)) (length before) ≡ Got x (length before + length text)

-- ---- it is read everywhere

got-is : {A : Type 0} (x : A) (n : ℕ) (y : A) (m : ℕ) → Got x n ≡ Got y m → (x ≡ y) × (n ≡ m)
got-is x n y m e = (cc, cc)

-- what is read where nothing stands before it is so much nearer
got-nearer : {A : Type 0} (n k : ℕ) (x : A) (o p : Outcome A) → AreMoved n o p → p ≡ Got x (n + k) → o ≡ Got x k
got-nearer n k x (Got z m) (Got y after) h e =
    let same = got-is y after x (n + k) e in
    let near : m ≡ k = omega (arith, h.1, same.1) in
    rw (h.0, same.0, near) refl
got-nearer n k x (Got z m) (Bad g) h e = absurd h
got-nearer n k x (Bad f) (Got y after) h e = absurd h
got-nearer n k x (Bad f) (Bad g) h e = absurd cc

given-farther : {A : Type 0} (n k : ℕ) (x : A) (o p : Outcome A) → AreMoved n o p → o ≡ Got x k → IsGiven (λ y. y ≡ x) (n + k) p
given-farther n k x (Got z m) (Got y after) h e =
    let same = got-is z m x k e in
    (sym h.0 ∙ same.0, sym h.1 ∙ ap (λ (i : ℕ). n + i) same.1)
given-farther n k x (Got z m) (Bad g) h e = absurd h
given-farther n k x (Bad f) p h e = absurd cc

-- A value that is read again if at all, and was read where it stood, is read by any reader that reads it farther on.
pub grants-moved_to : {A : Type 0} {r s : Reader A} {x : A} {text : List ℕ} → Moves r → MovesTo r s → Again r x text → Stood r x text → GrantsOf s x text
grants-moved_to {A} {r} {s} {x} {text} moves moves_to again stood =
    let settled = again.settled stood.before in
    let there = length stood.before in
    let seen : (after : List ℕ) → r (stood.before ++ (text ++ after)) (there + 0) ≡ Got x (there + length text) = λ after.
    ap (λ (i : ℕ). r (stood.before ++ (text ++ after)) i) (omega arith) ∙ settled.always after ∙ sym (settled.always stood.after) ∙ stood.got
    in
    let alone : (after : List ℕ) → r (text ++ after) 0 ≡ Got x (length text) = λ after. got-nearer there (length text) x (r (text ++ after) 0) (r (stood.before ++ (text ++ after)) (there + 0)) (moves.moves stood.before (text ++ after) 0) (seen after) in
    record {
      gives = λ before after.
          let farther = given-farther (length before) (length text) x (r (text ++ after) 0) (s (before ++ (text ++ after)) (length before + 0)) (moves_to.moves before (text ++ after) 0) (alone after) in
          let place : length before + 0 ≡ length before = omega arith in
          subst (λ (i : ℕ). IsGiven (λ y. y ≡ x) (length before + length text) (s (before ++ (text ++ after)) i)) place farther;
    }

-- by the reader itself
pub grants-moved : {A : Type 0} {r : Reader A} {x : A} {text : List ℕ} → Moves r → Again r x text → Stood r x text → GrantsOf r x text
grants-moved moves again stood = grants-moved_to moves moves again stood

-- ---- parts of what was read

-- a text, grouped in another way
pub stood-as : {A : Type 0} {r : Reader A} {x : A} {s t : List ℕ} → Stood r x s → s ≡ t → Stood r x t
stood-as {A} {r} {x} h e = subst (λ (u : List ℕ). Stood r x u) e h

-- the last part ends with nothing
pub stood-last : {A : Type 0} {r : Reader A} {x : A} {s : List ℕ} → Stood r x s → Stood r x (s ++ [])
stood-last {A} {r} {x} {s} h = stood-as h (sym (append-nil s))

-- a part of which the fact is true, and then the others
pub record StoodFound {A B : Type 0} (r : Reader A) (f : A → Reader B) (Q : A → Type 0) (y : B) (s t : List ℕ) : Type 0 where
  pub value : A
  pub is : Q value
  pub first : Stood r value s
  pub others : Stood (f value) y t

pub finds-got : {A : Type 0} (Q : A → Type 0) (n : ℕ) (o : Outcome A) (x : A) (next : ℕ) → Finds Q n o → o ≡ Got x next → Q x × (next ≡ n)
finds-got {A} Q n o x next h e = subst (λ (o : Outcome A). Finds Q n o) e h

-- They stand where a part that is read again is found by its text.
pub stood-found : {A B : Type 0} {r : Reader A} (f : A → Reader B) {Q : A → Type 0} {y : B} {s : List ℕ} (t : List ℕ) → FindsAgain r Q s → Stood (r >>= f) y (s ++ t) → StoodFound r f Q y s t
stood-found {A} {B} {r} f {Q} {y} {s} t found stood =
    let before = stood.before in
    let after = stood.after in
    let end = length before + length s in
    let bytes = before ++ ((s ++ t) ++ after) in
    let whole : bytes ≡ before ++ (s ++ (t ++ after)) = ap (λ (u : List ℕ). before ++ u) (append_assoc s t after) in
    let regrouped : bytes ≡ (before ++ s) ++ (t ++ after) = simp append_assoc in
    let g = and_then_got (r bytes (length before)) (λ x next. f x bytes next) y (length before + length (s ++ t)) stood.got in
    let first : r (before ++ (s ++ (t ++ after))) (length before) ≡ Got g.0 g.1 = ap (λ (u : List ℕ). r u (length before)) (sym whole) ∙ g.2 in
    let is = finds-got Q end (r (before ++ (s ++ (t ++ after))) (length before)) g.0 g.1 (found.finds before (t ++ after)) first in
    let place : g.1 ≡ length (before ++ s) = is.1 ∙ sym (length-append before s) in
    let ends : length before + length (s ++ t) ≡ length (before ++ s) + length t = omega (arith, length-append before s, length-append s t) in
    let behind : f g.0 ((before ++ s) ++ (t ++ after)) (length (before ++ s)) ≡ Got y (length (before ++ s) + length t) =
    ap (λ (u : List ℕ). f g.0 u (length (before ++ s))) (sym regrouped)
    ∙ ap (λ (i : ℕ). f g.0 bytes i) (sym place)
    ∙ g.3
    ∙ ap (λ (i : ℕ). Got y i) ends
    in
    record {
      value = g.0;
      is = is.0;
      first = record { before = before; after = t ++ after; got = first ∙ ap (λ (n : ℕ). Got g.0 n) is.1 };
      others = record { before = before ++ s; after = after; got = behind };
    }

pub record StoodParts {A B : Type 0} (r : Reader A) (f : A → Reader B) (x : A) (y : B) (s t : List ℕ) : Type 0 where
  pub first : Stood r x s
  pub others : Stood (f x) y t

finds-of : {A : Type 0} (x : A) (n : ℕ) (o : Outcome A) → IsOf x n o → Finds (λ y. y ≡ x) n o
finds-of x n (Got y next) h = h
finds-of x n (Bad f) h = tt

-- a part that is read again as this value, and then the others
pub stood-part : {A B : Type 0} {r : Reader A} (f : A → Reader B) {x : A} {y : B} {s : List ℕ} (t : List ℕ) → Again r x s → Stood (r >>= f) y (s ++ t) → StoodParts r f x y s t
stood-part {A} {B} {r} f {x} {y} {s} t again stood =
    let found : FindsAgain r (λ y. y ≡ x) s = record {
      finds = λ before after.
          let settled = again.settled before in
          let n = length before + length s in
          subst (λ (o : Outcome A). Finds (λ y. y ≡ x) n o) (sym (settled.always after)) (finds-of x n settled.outcome settled.is_of);
    } in
    let there = stood-found f t found stood in
    record { first = subst (λ (z : A). Stood r z s) there.is there.first; others = subst (λ (z : A). Stood (f z) y t) there.is there.others }

-- what was read under conditions meets them
pub stood-checked : {A : Type 0} (d : Field) (r : Reader A) (test : A → Option Cause) {x : A} {text : List ℕ} → Stood (checked d r test) x text → test x ≡ None
stood-checked {A} d r test {x} {text} stood =
    let bytes = stood.before ++ (text ++ stood.after) in
    let place = length stood.before in
    let g = and_then_got (r bytes place) (λ x next. judged (test x) d x place next) x (place + length text) stood.got in
    let j = judged_got (test g.0) d g.0 place g.1 x (place + length text) g.3 in
    subst (λ (y : A). test y ≡ None) j.1 j.0

-- ---- lists

-- each was read, under what the ones before it made of the context
pub stood-list_of : {S A : Type 0} (item : ℕ → S → Reader A) (step : S → A → S) (spell : A → List ℕ) (fits : A → Type 0) → ((left : ℕ) (context : S) (x : A) → fits x → Again (item left context) x (spell x))
    → (xs : List A) (context : S) → AllByRecursion fits xs → Stood (list_of item step (length xs) context) xs (flat_map spell xs) → EachUnder (λ left context x. fits x × Stood (item left context) x (spell x)) step context xs
unfolding list_of
stood-list_of item step spell fits again [] context all stood = tt
stood-list_of {S} {A} item step spell fits again (x ∷ xs) context all stood =
    let whole : flat_map spell (x ∷ xs) ≡ spell x ++ (flat_map spell xs ++ []) = rw (append-nil, flat_map-cons) refl in
    let first = stood-part (λ y. list_of item step (length xs) (step context y) >>= λ ys. done (y ∷ ys)) (flat_map spell xs ++ []) (again (length xs) context x all.0) (stood-as stood whole) in
    let others = stood-part (λ ys. done (x ∷ ys)) [] (Again-list_of item step spell fits again xs (step context x) all.1) first.others in
    ((all.0, first.first), stood-list_of item step spell fits again xs (step context x) all.1 others.first)

-- records of which none is read under what another one made
pub stood-records : {A : Type 0} (r : Reader A) (spell : A → List ℕ) (fits : A → Type 0) → IsReadAgain r spell fits → (xs : List A) → AllByRecursion fits xs → Stood (records_at r (length xs)) xs (flat_map spell xs)
    → EachUnder {S = Unit {0}} (λ left context x. fits x × Stood r x (spell x)) (λ context x. context) tt xs
unfolding records_at
stood-records r spell fits again xs all stood = stood-list_of {S = Unit {0}} (λ left context. r) (λ context x. context) spell fits (λ left context. again) xs tt all stood

-- ---- readers whose values are seen as other ones

seen-got : {X Y : Type 0} (view : X → Y) (o : Outcome X) (p : Outcome Y) (x : X) (n : ℕ) → and_then o (λ x next. Got (view x) next) ≡ p → o ≡ Got x n → p ≡ Got (view x) n
seen-got {X} {Y} view o p x n seen e = sym seen ∙ ap (λ (o : Outcome X). and_then o (λ x next. Got (view x) next)) e

-- the other value was read by the other reader
pub stood-through : {X Y : Type 0} (r : Reader X) (plain : Reader Y) (view : X → Y) {x : X} {text : List ℕ} → ((bytes : List ℕ) (place : ℕ) → and_then (r bytes place) (λ x next. Got (view x) next) ≡ plain bytes place) → Stood r x text
    → Stood plain (view x) text
stood-through r plain view {x} {text} same stood =
    let bytes = stood.before ++ (text ++ stood.after) in
    let place = length stood.before in
    record { before = stood.before; after = stood.after; got = seen-got view (r bytes place) (plain bytes place) x (place + length text) (same bytes place) stood.got }

-- ---- a part behind which nothing is read

-- the value that was made of the part, and the part
pub record StoodWhole {A B : Type 0} (r : Reader A) (make : A → B) (y : B) (text : List ℕ) : Type 0 where
  pub part : A
  pub made : make part ≡ y
  pub stood : Stood r part text

pub stood-whole : {A B : Type 0} (r : Reader A) (make : A → B) {y : B} {text : List ℕ} → Stood (r >>= λ x. done (make x)) y text → StoodWhole r make y text
stood-whole {A} {B} r make {y} {text} stood =
    let bytes = stood.before ++ (text ++ stood.after) in
    let place = length stood.before in
    let g = and_then_got (r bytes place) (λ x next. Got (make x) next) y (place + length text) stood.got in
    let same = got-is (make g.0) g.1 y (place + length text) g.3 in
    record { part = g.0; made = same.0; stood = record { before = stood.before; after = stood.after; got = g.2 ∙ ap (λ (n : ℕ). Got g.0 n) same.1 } }

-- ---- parts of parts

then-regrouped : {A B C : Type 0} (o : Outcome A) (f : A → ℕ → Outcome B) (g : B → ℕ → Outcome C) → and_then (and_then o f) g ≡ and_then o (λ x next. and_then (f x next) g)
then-regrouped (Got x next) f g = refl
then-regrouped (Bad d) f g = refl

-- the first part of a part, and then what stands behind it
pub stood-regrouped : {A B C : Type 0} (r : Reader A) (f : A → Reader B) (g : B → Reader C) {y : C} {text : List ℕ} → Stood ((r >>= f) >>= g) y text → Stood (r >>= λ x. f x >>= g) y text
stood-regrouped r f g {y} {text} stood =
    let bytes = stood.before ++ (text ++ stood.after) in
    let place = length stood.before in
    record { before = stood.before; after = stood.after; got = sym (then-regrouped (r bytes place) (λ x next. f x bytes next) (λ x next. g x bytes next)) ∙ stood.got }

-- ---- other items under other contexts

-- what may be read of each item is granted of another one under another context
pub each-other : {S T A B : Type 0} (may : ℕ → S → A → Type 0) (step : S → A → S) (may_other : ℕ → T → B → Type 0) (step_other : T → B → T) (other : A → B) (R : S → T → Type 0)
    → ((left : ℕ) (context : S) (under : T) (x : A) → R context under → may left context x → may_other left under (other x)) → ((context : S) (under : T) (x : A) → R context under → R (step context x) (step_other under (other x)))
    → (xs : List A) (context : S) (under : T) → R context under → EachUnder may step context xs → EachUnder may_other step_other under (map other xs)
each-other may step may_other step_other other R each steps [] context under related h = tt
each-other {S} {T} {A} {B} may step may_other step_other other R each steps (x ∷ xs) context under related h = (
  subst (λ (n : ℕ). may_other n under (other x)) (sym (length-map xs other)) (each (length xs) context under x related h.0),
  each-other may step may_other step_other other R each steps xs (step context x) (step_other under (other x)) (steps context under x related) h.1,
)

-- items under another context
pub each-under : {S T A : Type 0} (may : ℕ → S → A → Type 0) (step : S → A → S) (may_other : ℕ → T → A → Type 0) (step_other : T → A → T) (R : S → T → Type 0)
    → ((left : ℕ) (context : S) (under : T) (x : A) → R context under → may left context x → may_other left under x) → ((context : S) (under : T) (x : A) → R context under → R (step context x) (step_other under x))
    → (xs : List A) (context : S) (under : T) → R context under → EachUnder may step context xs → EachUnder may_other step_other under xs
each-under may step may_other step_other R each steps [] context under related h = tt
each-under may step may_other step_other R each steps (x ∷ xs) context under related h =
    (each (length xs) context under x related h.0, each-under may step may_other step_other R each steps xs (step context x) (step_other under x) (steps context under x related) h.1)

-- Items of which each is read under its context are read together.
pub grants-each : {S A : Type 0} (item : ℕ → S → Reader A) (step : S → A → S) (spell : A → List ℕ) (xs : List A) (context : S) → EachUnder (λ left context x. GrantsOf (item left context) x (spell x)) step context xs
    → GrantsOf (list_of item step (length xs) context) xs (flat_map spell xs)
grants-each item step spell xs context h = grants-list_of item step spell (λ left context x. GrantsOf (item left context) x (spell x)) (λ left context x granted. granted) xs context h
