-- What reading a text again gives, seen without the places of the records: it is bad, or a value of which a fact is true.
use Rattle.std.proofs.Common.{◌≡◌, ℕ, ◌+◌, List, [], ◌++◌, length, refl, sym, ap, subst, ◌∙◌, append_assoc, arith}
use Rattle.std.proofs.lemmas.List.{length-append}
use Rattle.pol_cursor.specs.Outcome.{Outcome, Reader, Got, Bad, and_then, ◌>>=◌, done}
use Rattle.pol_cursor.specs.Laws.{Reads, IsOf, IsSpelling, IsReadAgain, IsReadFromSpelling}

-- ---- what reading a text again gives

-- an outcome that is bad, or a value of which the fact is true, and this place after it
abbrev pub Finds : {A : Type 0} → (A → Type 0) → ℕ → Outcome A → Type 0
Finds Q n (Got x next) = Q x × (next ≡ n)
Finds Q n (Bad f) = Unit {0}

-- so it is wherever the text stands
pub record FindsAgain {A : Type 0} (r : Reader A) (Q : A → Type 0) (text : List ℕ) : Type 0 where
  pub finds : (before after : List ℕ) → Finds Q (length before + length text) (r (before ++ (text ++ after)) (length before))

pub finds-done : {A : Type 0} {Q : A → Type 0} (x : A) → Q x → FindsAgain (done x) Q []
finds-done x h = record { finds = λ before after. (h, omega arith) }

finds-behind : {A B : Type 0} (f : A → Reader B) (Q : A → Type 0) (R : B → Type 0) (s t before after : List ℕ) → ((x : A) → Q x → FindsAgain (f x) R t) → (o : Outcome A) → Finds Q (length before + length s) o
    → Finds R (length before + length (s ++ t)) (and_then o (λ x next. f x (before ++ ((s ++ t) ++ after)) next))
finds-behind f Q R s t before after others (Bad d) h = tt
finds-behind {A} {B} f Q R s t before after others (Got x next) h =
    let place : length (before ++ s) ≡ next = length-append before s ∙ sym h.1 in
    let end : length (before ++ s) + length t ≡ length before + length (s ++ t) = omega (arith, length-append before s, length-append s t) in
    let whole : (before ++ s) ++ (t ++ after) ≡ before ++ ((s ++ t) ++ after) = simp append_assoc in
    let one = (others x h.0).finds (before ++ s) after in
    let two = subst (λ (n : ℕ). Finds R n (f x ((before ++ s) ++ (t ++ after)) (length (before ++ s)))) end one in
    let three = subst (λ (u : List ℕ). Finds R (length before + length (s ++ t)) (f x u (length (before ++ s)))) whole two in
    subst (λ (i : ℕ). Finds R (length before + length (s ++ t)) (f x (before ++ ((s ++ t) ++ after)) i)) place three

-- a part, and then the others
pub finds-part : {A B : Type 0} {r : Reader A} (f : A → Reader B) {Q : A → Type 0} {R : B → Type 0} {s t : List ℕ} → FindsAgain r Q s → ((x : A) → Q x → FindsAgain (f x) R t) → FindsAgain (r >>= f) R (s ++ t)
finds-part {A} {B} {r} f {Q} {R} {s} {t} first others = record {
  finds = λ before after.
      let whole : before ++ (s ++ (t ++ after)) ≡ before ++ ((s ++ t) ++ after) = ap (λ (u : List ℕ). before ++ u) (sym (append_assoc s t after)) in
      let one = subst (λ (u : List ℕ). Finds Q (length before + length s) (r u (length before))) whole (first.finds before (t ++ after)) in
      finds-behind f Q R s t before after others (r (before ++ ((s ++ t) ++ after)) (length before)) one;
}

-- a text, grouped in another way
pub finds-as : {A : Type 0} {r : Reader A} {Q : A → Type 0} {s t : List ℕ} → FindsAgain r Q s → s ≡ t → FindsAgain r Q t
finds-as {A} {r} {Q} h e = subst (λ (u : List ℕ). FindsAgain r Q u) e h

-- ---- both laws, for a reader whose values are seen as other ones

pub record HasLaws {X Y : Type 0} (r : Reader X) (view : X → Y) (spell : Y → List ℕ) (fits : Y → Type 0) : Type 0 where
  pub spelled : Reads r (IsSpelling (λ x. spell (view x)) (λ x. fits (view x)))
  pub again : (y : Y) → fits y → FindsAgain r (λ x. view x ≡ y) (spell y)

seen-as : {X Y : Type 0} (view : X → Y) (y : Y) (n : ℕ) (o : Outcome X) → IsOf y n (and_then o (λ x next. Got (view x) next)) → Finds (λ x. view x ≡ y) n o
seen-as view y n (Got x next) h = h
seen-as view y n (Bad f) h = tt

-- They follow from those of a reader that gives the other values.
pub laws-through : {X Y : Type 0} (r : Reader X) (plain : Reader Y) (view : X → Y) (spell : Y → List ℕ) (fits : Y → Type 0) → ((bytes : List ℕ) (place : ℕ) → and_then (r bytes place) (λ x next. Got (view x) next) ≡ plain bytes place)
    → IsReadFromSpelling plain spell fits → IsReadAgain plain spell fits → HasLaws r view spell fits
laws-through {X} {Y} r plain view spell fits same spelled again = record {
  spelled = record {
    spelled = λ bytes place x next are e.
        let first = spelled.spelled bytes place (view x) next are (sym (same bytes place) ∙ ap (λ (o : Outcome X). and_then o (λ x next. Got (view x) next)) e) in
        record { text = first.text; stands = first.stands; holds = record { same = first.holds.same; fitting = first.holds.fitting } };
  };
  again = λ y y-fits. record {
    finds = λ before after.
        let settled = (again y y-fits).settled before in
        let bytes = before ++ (spell y ++ after) in
        let e = same bytes (length before) ∙ settled.always after in
        seen-as view y (length before + length (spell y)) (r bytes (length before)) (subst (λ (o : Outcome Y). IsOf y (length before + length (spell y)) o) (sym e) settled.is_of);
  };
}

seen-itself : {A : Type 0} (o : Outcome A) → and_then o (λ x next. Got x next) ≡ o
seen-itself (Got x next) = refl
seen-itself (Bad f) = refl

-- the laws of a reader whose values are seen as they are
pub laws-alone : {A : Type 0} (r : Reader A) (spell : A → List ℕ) (fits : A → Type 0) → IsReadFromSpelling r spell fits → IsReadAgain r spell fits → HasLaws r (λ x. x) spell fits
laws-alone r spell fits spelled again = laws-through r r (λ x. x) spell fits (λ bytes place. seen-itself (r bytes place)) spelled again
