-- What reading a text gives where no condition refuses it: a value of which a fact is true, wherever the text stands.
use Rattle.std.proofs.Common.{◌≡◌, ℕ, ◌+◌, ◌^◌, ◌<◌, true, false, ltb, Option, Some, None, List, [], ◌∷◌, ◌++◌, length, refl, sym, ap, subst, ◌∙◌, append_assoc, arith}
use Rattle.std.specs.List.{flat_map, AllByRecursion}
use Rattle.std.proofs.lemmas.Bool.{le-ltb}
use Rattle.std.proofs.lemmas.List.{take_at, drop_at, length-append, append-nil}
use Rattle.std.proofs.lemmas.List.Concat.{flat_map-cons}
use Rattle.pol_fields.specs.declared.Field.{Field}
use Rattle.pol_fields.specs.declared.Cause.{Cause}
use Rattle.pol_cursor.specs.Outcome.{Outcome, Reader, Got, Bad, and_then, ◌>>=◌, done, judged, checked}
use Rattle.pol_cursor.specs.Parts.{number, string, end_at, list_of, records_at, counted, spell_counted, optional}
use Rattle.pol_cursor.specs.Spelling.{bytes_of}
use Rattle.pol_cursor.proofs.Numbers.{length-bytes_of, num-bytes_of}

-- ---- what reading a text gives

-- an outcome that is a value of which the fact is true, and this place after it
abbrev pub IsGiven : {A : Type 0} → (A → Type 0) → ℕ → Outcome A → Type 0
IsGiven Q n (Got x next) = Q x × (next ≡ n)
IsGiven Q n (Bad f) = ⊥

-- so it is wherever the text stands
pub record Grants {A : Type 0} (r : Reader A) (Q : A → Type 0) (text : List ℕ) : Type 0 where
  pub gives : (before after : List ℕ) → IsGiven Q (length before + length text) (r (before ++ (text ++ after)) (length before))

-- so it is where the text stands at the end
pub record GrantsLast {A : Type 0} (r : Reader A) (Q : A → Type 0) (text : List ℕ) : Type 0 where
  pub gives : (before : List ℕ) → IsGiven Q (length before + length text) (r (before ++ (text ++ [])) (length before))

-- the value that is read is this one
abbrev pub GrantsOf : {A : Type 0} → Reader A → A → List ℕ → Type 0
GrantsOf r x text = Grants r (λ y. y ≡ x) text

given-got : {A : Type 0} (x : A) (n : ℕ) (o : Outcome A) → IsGiven (λ y. y ≡ x) n o → o ≡ Got x n
given-got x n (Got y next) h = rw (h.0, h.1) refl
given-got x n (Bad f) h = absurd h

pub granted-got : {A : Type 0} {r : Reader A} {x : A} {text : List ℕ} → GrantsOf r x text → (before after : List ℕ) → r (before ++ (text ++ after)) (length before) ≡ Got x (length before + length text)
granted-got {A} {r} {x} {text} h before after = given-got x (length before + length text) (r (before ++ (text ++ after)) (length before)) (h.gives before after)

-- a weaker fact
given-so : {A : Type 0} {Q R : A → Type 0} (n : ℕ) (o : Outcome A) → ((x : A) → Q x → R x) → IsGiven Q n o → IsGiven R n o
given-so n (Got x next) so h = (so x h.0, h.1)
given-so n (Bad f) so h = absurd h

pub grants-so : {A : Type 0} {r : Reader A} {Q R : A → Type 0} {text : List ℕ} → Grants r Q text → ((x : A) → Q x → R x) → Grants r R text
grants-so {A} {r} {Q} {R} {text} h so = record { gives = λ before after. given-so (length before + length text) (r (before ++ (text ++ after)) (length before)) so (h.gives before after) }

-- ---- parts one after the other

pub grants-done : {A : Type 0} {Q : A → Type 0} (x : A) → Q x → Grants (done x) Q []
grants-done x h = record { gives = λ before after. (h, omega arith) }

-- what stands behind a part is read behind it
given-behind : {A B : Type 0} (f : A → Reader B) (Q : A → Type 0) (R : B → Type 0) (s t before after : List ℕ)
    → ((x : A) → Q x → IsGiven R (length (before ++ s) + length t) (f x ((before ++ s) ++ (t ++ after)) (length (before ++ s)))) → (o : Outcome A) → IsGiven Q (length before + length s) o
    → IsGiven R (length before + length (s ++ t)) (and_then o (λ x next. f x (before ++ ((s ++ t) ++ after)) next))
given-behind f Q R s t before after others (Bad d) h = absurd h
given-behind {A} {B} f Q R s t before after others (Got x next) h =
    let place : length (before ++ s) ≡ next = length-append before s ∙ sym h.1 in
    let end : length (before ++ s) + length t ≡ length before + length (s ++ t) = omega (arith, length-append before s, length-append s t) in
    let whole : (before ++ s) ++ (t ++ after) ≡ before ++ ((s ++ t) ++ after) = simp append_assoc in
    let one = subst (λ (n : ℕ). IsGiven R n (f x ((before ++ s) ++ (t ++ after)) (length (before ++ s)))) end (others x h.0) in
    let two = subst (λ (u : List ℕ). IsGiven R (length before + length (s ++ t)) (f x u (length (before ++ s)))) whole one in
    subst (λ (i : ℕ). IsGiven R (length before + length (s ++ t)) (f x (before ++ ((s ++ t) ++ after)) i)) place two

-- a part of which something stands behind it
given-first : {A : Type 0} {r : Reader A} {Q : A → Type 0} (s t before after : List ℕ) → Grants r Q s → IsGiven Q (length before + length s) (r (before ++ ((s ++ t) ++ after)) (length before))
given-first {A} {r} {Q} s t before after h =
    let whole : before ++ (s ++ (t ++ after)) ≡ before ++ ((s ++ t) ++ after) = ap (λ (u : List ℕ). before ++ u) (sym (append_assoc s t after)) in
    subst (λ (u : List ℕ). IsGiven Q (length before + length s) (r u (length before))) whole (h.gives before (t ++ after))

-- a part, and then the others
pub grants-part : {A B : Type 0} {r : Reader A} (f : A → Reader B) {Q : A → Type 0} {R : B → Type 0} {s t : List ℕ} → Grants r Q s → ((x : A) → Q x → Grants (f x) R t) → Grants (r >>= f) R (s ++ t)
grants-part {A} {B} {r} f {Q} {R} {s} {t} first others = record {
  gives = λ before after. given-behind f Q R s t before after (λ x h. (others x h).gives (before ++ s) after) (r (before ++ ((s ++ t) ++ after)) (length before)) (given-first s t before after first);
}

-- a part of this value, and then the others
pub grants-then : {A B : Type 0} {r : Reader A} (f : A → Reader B) {x : A} {R : B → Type 0} {s t : List ℕ} → GrantsOf r x s → Grants (f x) R t → Grants (r >>= f) R (s ++ t)
grants-then {A} {B} {r} f {x} {R} {s} {t} first others = grants-part f first λ y e. subst (λ (z : A). Grants (f z) R t) (sym e) others

-- a part, and then the last ones
pub grants-to_last : {A B : Type 0} {r : Reader A} (f : A → Reader B) {Q : A → Type 0} {R : B → Type 0} {s t : List ℕ} → Grants r Q s → ((x : A) → Q x → GrantsLast (f x) R t) → GrantsLast (r >>= f) R (s ++ t)
grants-to_last {A} {B} {r} f {Q} {R} {s} {t} first others = record {
  gives = λ before. given-behind f Q R s t before [] (λ x h. (others x h).gives (before ++ s)) (r (before ++ ((s ++ t) ++ [])) (length before)) (given-first s t before [] first);
}

-- a text, grouped in another way
pub grants-as : {A : Type 0} {r : Reader A} {Q : A → Type 0} {s t : List ℕ} → Grants r Q s → s ≡ t → Grants r Q t
grants-as {A} {r} {Q} h e = subst (λ (u : List ℕ). Grants r Q u) e h

pub grants-last-as : {A : Type 0} {r : Reader A} {Q : A → Type 0} {s t : List ℕ} → GrantsLast r Q s → s ≡ t → GrantsLast r Q t
grants-last-as {A} {r} {Q} h e = subst (λ (u : List ℕ). GrantsLast r Q u) e h

-- ---- conditions

given-judged : {A : Type 0} (d : Field) (test : A → Option Cause) (Q : A → Type 0) (place n : ℕ) (o : Outcome A) → ((x : A) → Q x → test x ≡ None) → IsGiven Q n o → IsGiven Q n (and_then o (λ x next. judged (test x) d x place next))
given-judged d test Q place n (Got x next) meets h = rw (meets x h.0) h
given-judged d test Q place n (Bad f) meets h = absurd h

-- a value that meets its conditions
pub grants-checked : {A : Type 0} (d : Field) {r : Reader A} (test : A → Option Cause) {Q : A → Type 0} {text : List ℕ} → Grants r Q text → ((x : A) → Q x → test x ≡ None) → Grants (checked d r test) Q text
grants-checked {A} d {r} test {Q} {text} h meets = record {
  gives = λ before after. given-judged d test Q (length before) (length before + length text) (r (before ++ (text ++ after)) (length before)) meets (h.gives before after);
}

-- this value, which meets its conditions
pub grants-if : {A : Type 0} (d : Field) {r : Reader A} (test : A → Option Cause) {x : A} {text : List ℕ} → GrantsOf r x text → test x ≡ None → GrantsOf (checked d r test) x text
grants-if {A} d {r} test {x} {text} h meets = grants-checked d test h λ y e. subst (λ (z : A). test z ≡ None) (sym e) meets

-- ---- numbers and bytes

pub grants-number : (d : Field) (w n : ℕ) → n < 256 ^ w → GrantsOf (number d w) n (bytes_of w n)
unfolding number
grants-number d w n fits = record {
  gives = λ before after.
      let len = length-bytes_of w n in
      let long : ltb (length (before ++ (bytes_of w n ++ after))) (length before + w) ≡ false = le-ltb _ _ (omega (arith, len, length-append before (bytes_of w n ++ after), length-append (bytes_of w n) after)) in
      rw (long, num-bytes_of before w n after fits) (refl, omega (arith, len));
}

pub grants-number_if : (d : Field) (w n : ℕ) (test : ℕ → Option Cause) → n < 256 ^ w → test n ≡ None → GrantsOf (checked d (number d w) test) n (bytes_of w n)
grants-number_if d w n test fits meets = grants-if d test (grants-number d w n fits) meets

pub grants-string : (d : Field) (s : List ℕ) → GrantsOf (string d (length s)) s s
unfolding string
grants-string d s = record {
  gives = λ before after.
      let long : ltb (length (before ++ (s ++ after))) (length before + length s) ≡ false = le-ltb _ _ (omega (arith, length-append before (s ++ after), length-append s after)) in
      rw (long, drop_at before (s ++ after) (length before) refl, take_at s after (length s) refl) (refl, refl);
}

pub grants-string_if : (d : Field) (s : List ℕ) (test : List ℕ → Option Cause) → test s ≡ None → GrantsOf (checked d (string d (length s)) test) s s
grants-string_if d s test meets = grants-if d test (grants-string d s) meets

-- ---- optional parts

pub grants-some : {A : Type 0} {r : Reader A} {x : A} {text : List ℕ} → GrantsOf r x text → GrantsOf (optional true r) (Some x) text
unfolding optional
grants-some {A} {r} {x} {text} h = grants-as (grants-then _ h (grants-done (Some x) refl)) (append-nil text)

pub grants-none : {A : Type 0} (r : Reader A) → GrantsOf (optional false r) None []
unfolding optional
grants-none r = grants-done None refl

-- ---- lists

-- Each of these may be read under what the ones before it made of a context, with so many behind it.
abbrev pub EachUnder : {S A : Type 0} → (ℕ → S → A → Type 0) → (S → A → S) → S → List A → Type 0
EachUnder may step context [] = Unit {0}
EachUnder may step context (x ∷ xs) = may (length xs) context x × EachUnder may step (step context x) xs

pub grants-list_of : {S A : Type 0} (item : ℕ → S → Reader A) (step : S → A → S) (spell : A → List ℕ) (may : ℕ → S → A → Type 0) → ((left : ℕ) (context : S) (x : A) → may left context x → GrantsOf (item left context) x (spell x))
    → (xs : List A) (context : S) → EachUnder may step context xs → GrantsOf (list_of item step (length xs) context) xs (flat_map spell xs)
unfolding list_of
grants-list_of item step spell may each [] context h = grants-done [] refl
grants-list_of {S} {A} item step spell may each (x ∷ xs) context h =
    let behind = grants-then (λ ys. done (x ∷ ys)) (grants-list_of item step spell may each xs (step context x) h.1) (grants-done {Q = λ ys. ys ≡ x ∷ xs} (x ∷ xs) refl) in
    let whole = grants-then (λ y. list_of item step (length xs) (step context y) >>= λ ys. done (y ∷ ys)) (each (length xs) context x h.0) behind in
    let same : spell x ++ (flat_map spell xs ++ []) ≡ flat_map spell (x ∷ xs) = rw (append-nil, flat_map-cons) refl in
    grants-as whole same

-- each of them may be read anywhere
pub each-anywhere : {S A : Type 0} (P : A → Type 0) (step : S → A → S) (xs : List A) (context : S) → AllByRecursion P xs → EachUnder (λ left context x. P x) step context xs
each-anywhere P step [] context h = tt
each-anywhere P step (x ∷ xs) context h = (h.0, each-anywhere P step xs (step context x) h.1)

-- records of which none is read under what another one made
pub grants-records : {A : Type 0} (r : Reader A) (spell : A → List ℕ) (P : A → Type 0) → ((x : A) → P x → GrantsOf r x (spell x)) → (xs : List A) → AllByRecursion P xs → GrantsOf (records_at r (length xs)) xs (flat_map spell xs)
unfolding records_at
grants-records r spell P each xs h =
    grants-list_of {S = Unit {0}} (λ left context. r) (λ context x. context) spell (λ left context x. P x) (λ left context x may. each x may) xs tt (each-anywhere P (λ context x. context) xs tt h)

-- a list behind its count
pub grants-counted : {A : Type 0} (d : Field) (items_at : ℕ → Reader (List A)) (spell : A → List ℕ) (xs : List A) → length xs < 2 ^ 32 → GrantsOf (items_at (length xs)) xs (flat_map spell xs) → GrantsOf (counted d items_at) xs (spell_counted spell xs)
grants-counted d items_at spell xs few items = grants-then items_at (grants-number d 4 (length xs) few) items

-- ---- readers whose values are seen as other ones

given-seen : {X Y : Type 0} (view : X → Y) (Q : Y → Type 0) (n : ℕ) (o : Outcome X) → IsGiven Q n (and_then o (λ x next. Got (view x) next)) → IsGiven (λ x. Q (view x)) n o
given-seen view Q n (Got x next) h = h
given-seen view Q n (Bad f) h = absurd h

-- They are granted where the other ones are.
pub grants-through : {X Y : Type 0} (r : Reader X) (plain : Reader Y) (view : X → Y) (Q : Y → Type 0) (text : List ℕ) → ((bytes : List ℕ) (place : ℕ) → and_then (r bytes place) (λ x next. Got (view x) next) ≡ plain bytes place)
    → Grants plain Q text → Grants r (λ x. Q (view x)) text
grants-through {X} {Y} r plain view Q text same h = record {
  gives = λ before after.
      let bytes = before ++ (text ++ after) in
      let n = length before + length text in
      given-seen view Q n (r bytes (length before)) (subst (λ (o : Outcome Y). IsGiven Q n o) (sym (same bytes (length before))) (h.gives before after));
}

-- ---- the end

-- no byte is left
pub grants-end : {A : Type 0} {Q : A → Type 0} (d : Field) (x : A) → Q x → GrantsLast (end_at d >>= λ ended. done x) Q []
unfolding end_at
grants-end d x h = record {
  gives = λ before.
      let ended : ltb (length before) (length (before ++ [])) ≡ false = le-ltb _ _ (omega (arith, length-append before [])) in
      rw ended (h, omega arith);
}
