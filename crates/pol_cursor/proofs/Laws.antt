-- The two laws for parts, and for parts read one after the other.
use Rattle.std.proofs.Common.{inl, inr, ◌⊎◌, ◌≡◌, ℕ, zero, suc, ◌+◌, ◌^◌, ◌<◌, ◌≤◌, Bool, true, false, cond, ltb, List, [], ◌∷◌, ◌++◌, length, take, drop, Option, Some, None, refl, sym, ap, subst, ◌∙◌, append_assoc, arith}
use Rattle.std.proofs.lemmas.Bool.{ltb-false, le-ltb}
use Rattle.std.proofs.lemmas.List.{take_at, drop_at, take-append-drop, length-append, length-take, length-drop, drop-drop, append-nil}
use Rattle.pol_fields.specs.declared.fault.Fault.{Fault}
use Rattle.pol_fields.specs.declared.field.Field.{Field}
use Rattle.pol_fields.specs.declared.fault.Cause.{Cause}
use Rattle.pol_fields.specs.declared.fault.Cause.TheVariants.{Short}
use Rattle.pol_cursor.specs.Outcome.{Outcome, Got, Bad, Reader, fault, and_then, ◌>>=◌, done, judged, checked}
use Rattle.pol_cursor.specs.Parts.{num, number, string, list_of, records_at, counted, spell_counted, CountedFits, optional, spell_optional, OptionFits}
use Rattle.pol_cursor.specs.Spelling.{bytes_of}
use Rattle.pol_cursor.specs.Laws.{Stands, Reads, IsOf, Again, IsSpelling, IsReadAgain, IsReadFromSpelling}
use Rattle.std.specs.List.{flat_map, AllByRecursion}
use Rattle.std.proofs.lemmas.List.Concat.{flat_map-cons}
use Rattle.pol_cursor.proofs.Numbers.{length-bytes_of, num-lt, num-bytes_of, bytes_of-num}

-- ---- outcomes, by cases

pub and_then_got : {A B : Type 0} (o : Outcome A) (f : A → ℕ → Outcome B) (y : B) (n : ℕ) → and_then o f ≡ Got y n → (x : A) × (m : ℕ) × (o ≡ Got x m) × (f x m ≡ Got y n)
and_then_got (Got x m) f y n e = (x, m, refl, e)
and_then_got (Bad d) f y n e = absurd cc

pub judged_got : {A : Type 0} (o : Option Cause) (d : Field) (x : A) (place next : ℕ) (y : A) (n : ℕ) → judged o d x place next ≡ Got y n → (o ≡ None) × (x ≡ y) × (next ≡ n)
judged_got None d x place next y n e = (refl, cc, cc)
judged_got (Some c) d x place next y n e = absurd cc

pub guard_got : {A : Type 0} (b : Bool) (d : Fault) (x : A) (next : ℕ) (y : A) (n : ℕ) → cond b (Bad d) (Got x next) ≡ Got y n → (b ≡ false) × (x ≡ y) × (next ≡ n)
guard_got true d x next y n e = absurd cc
guard_got false d x next y n e = (refl, cc, cc)

got_is : {A : Type 0} (x : A) (n : ℕ) (y : A) (m : ℕ) → Got x n ≡ Got y m → (x ≡ y) × (n ≡ m)
got_is x n y m e = (cc, cc)

-- ---- what was read is spelled so

pub Stands-then : (bytes : List ℕ) (place next end : ℕ) (s t : List ℕ) → Stands bytes place next s → Stands bytes next end t → Stands bytes place end (s ++ t)
Stands-then bytes place next end s t p q = record {
  parts = p.parts ∙ ap (λ (x : List ℕ). s ++ x) q.parts ∙ sym (append_assoc s t (drop end bytes));
  ends = omega (arith, p.ends, q.ends, length-append s t);
}

pub Reads-done : {A : Type 0} (P : List ℕ → A → Type 0) (x : A) → P [] x → Reads (done x) P
Reads-done {A} P x h = record {
  spelled = λ bytes place y next are e.
      let g = got_is x place y next e in
      record { text = []; stands = record { parts = ap (λ (i : ℕ). drop i bytes) g.1; ends = omega (arith, g.1) }; holds = subst (λ (z : A). P [] z) g.0 h };
}

pub Reads-then : {A B : Type 0} (r : Reader A) (f : A → Reader B) (P : List ℕ → A → Type 0) (Q : List ℕ → B → Type 0) → Reads r P → ((s : List ℕ) (x : A) → P s x → Reads (f x) (λ t y. Q (s ++ t) y)) → Reads (r >>= f) Q
Reads-then r f P Q hr hf = record {
  spelled = λ bytes place y end are e.
      let g = and_then_got (r bytes place) (λ x next. f x bytes next) y end e in
      let first = hr.spelled bytes place g.0 g.1 are g.2 in
      let second = (hf first.text g.0 first.holds).spelled bytes g.1 y end are g.3 in
      record { text = first.text ++ second.text; stands = Stands-then bytes place g.1 end first.text second.text first.stands second.stands; holds = second.holds };
}

pub Reads-checked : {A : Type 0} (d : Field) (r : Reader A) (test : A → Option Cause) (sp : A → List ℕ) (fits : A → Type 0) → Reads r (IsSpelling sp fits) → Reads (checked d r test) (IsSpelling sp (λ x. fits x × (test x ≡ None)))
Reads-checked {A} d r test sp fits hr = record {
  spelled = λ bytes place y end are e.
      let g = and_then_got (r bytes place) (λ x next. judged (test x) d x place next) y end e in
      let j = judged_got (test g.0) d g.0 place g.1 y end g.3 in
      let first = hr.spelled bytes place g.0 g.1 are g.2 in
      let whole : IsSpelling sp (λ x. fits x × (test x ≡ None)) first.text g.0 = record { same = first.holds.same; fitting = (first.holds.fitting, j.0) } in
      record { text = first.text; stands = subst (λ (n : ℕ). Stands bytes place n first.text) j.2 first.stands; holds = subst (λ (x : A). IsSpelling sp (λ x. fits x × (test x ≡ None)) first.text x) j.1 whole };
}

-- a part that is spelled so, and then the others
pub Reads-part : {A B : Type 0} {r : Reader A} {f : A → Reader B} {sp : A → List ℕ} {fits : A → Type 0} {Q : List ℕ → B → Type 0} → Reads r (IsSpelling sp fits) → ((x : A) → fits x → Reads (f x) (λ t y. Q (sp x ++ t) y)) → Reads (r >>= f) Q
Reads-part {A} {B} {r} {f} {sp} {fits} {Q} hr hf =
    Reads-then r f (IsSpelling sp fits) Q hr (λ s x h. subst (λ (u : List ℕ). Reads (f x) (λ t y. Q (u ++ t) y)) (sym h.same) (hf x h.fitting))

-- a weaker fact
pub Reads-as : {A : Type 0} {r : Reader A} {P Q : List ℕ → A → Type 0} → Reads r P → ((s : List ℕ) (x : A) → P s x → Q s x) → Reads r Q
Reads-as h weaker = record {
  spelled = λ bytes place x next are e.
      let first = h.spelled bytes place x next are e in
      record { text = first.text; stands = first.stands; holds = weaker first.text x first.holds };
}

taken : (bytes : List ℕ) (place n : ℕ) → place + n ≤ length bytes → Stands bytes place (place + n) (take n (drop place bytes))
taken bytes place n le = record {
  parts = sym (take-append-drop n (drop place bytes)) ∙ ap (λ (x : List ℕ). take n (drop place bytes) ++ x) (drop-drop n place bytes);
  ends = omega (arith, length-take n (drop place bytes), length-drop place bytes);
}

pub Reads-number : (d : Field) (w : ℕ) → Reads (number d w) (IsSpelling (bytes_of w) (λ n. n < 256 ^ w))
unfolding number
Reads-number d w = record {
  spelled = λ bytes place n next are e.
      let g = guard_got (ltb (length bytes) (place + w)) (fault place d Short) (num bytes place w) (place + w) n next e in
      let long : place + w ≤ length bytes = ltb-false _ _ g.0 in
      let text = take w (drop place bytes) in
      record {
        text = text;
        stands = subst (λ (m : ℕ). Stands bytes place m text) g.2 (taken bytes place w long);
        holds = subst (λ (m : ℕ). IsSpelling (bytes_of w) (λ n. n < 256 ^ w) text m) g.1 (record { same = sym (bytes_of-num bytes place w are long); fitting = num-lt bytes place w are });
      };
}

pub Reads-string : (d : Field) (k : ℕ) → Reads (string d k) (IsSpelling (λ x. x) (λ x. length x ≡ k))
unfolding string
Reads-string d k = record {
  spelled = λ bytes place x next are e.
      let g = guard_got (ltb (length bytes) (place + k)) (fault place d Short) (take k (drop place bytes)) (place + k) x next e in
      let long : place + k ≤ length bytes = ltb-false _ _ g.0 in
      let text = take k (drop place bytes) in
      record {
        text = text;
        stands = subst (λ (m : ℕ). Stands bytes place m text) g.2 (taken bytes place k long);
        holds = subst (λ (y : List ℕ). IsSpelling (λ x. x) (λ x. length x ≡ k) text y) g.1 (record { same = refl; fitting = omega (arith, length-take k (drop place bytes), length-drop place bytes) });
      };
}

-- ---- what is spelled is read again

-- an outcome after a first part
IsOf-then : {A : Type 0} (o : Outcome A) (x : A) (n : ℕ) → IsOf x n o → ((d : Fault) × (o ≡ Bad d)) ⊎ (o ≡ Got x n)
IsOf-then (Got y m) x n h = inr (rw (h.0, h.1) refl)
IsOf-then (Bad d) x n h = inl (d, refl)

pub Again-done : {A : Type 0} (x : A) → Again (done x) x []
Again-done x = record { settled = λ before. record { outcome = Got x (length before); is_of = (refl, omega arith); always = λ after. refl } }

regroup : (before s t after : List ℕ) → before ++ ((s ++ t) ++ after) ≡ (before ++ s) ++ (t ++ after)
regroup before s t after = simp append_assoc

pub Again-then : {A B : Type 0} (r : Reader A) (f : A → Reader B) (x : A) (y : B) (s t : List ℕ) → Again r x s → Again (f x) y t → Again (r >>= f) y (s ++ t)
Again-then {A} {B} r f x y s t hr hf = record {
  settled = λ before.
      let one = hr.settled before in
      let two = hf.settled (before ++ s) in
      let place : length (before ++ s) ≡ length before + length s = length-append before s in
      let whole : List ℕ → List ℕ = λ after. before ++ ((s ++ t) ++ after) in
      let seen : (after : List ℕ) → r (whole after) (length before) ≡ one.outcome = λ after. ap (λ (u : List ℕ). r u (length before)) (ap (λ (u : List ℕ). before ++ u) (append_assoc s t after)) ∙ one.always (t ++ after) in
      elim (IsOf-then one.outcome x (length before + length s) one.is_of) [
        | inl b ↦ record { outcome = Bad b.0; is_of = tt; always = λ after. ap (λ (o : Outcome A). and_then o (λ x next. f x (whole after) next)) (seen after ∙ b.1) }
        | inr e ↦ record {
          outcome = two.outcome;
          is_of = subst (λ (n : ℕ). IsOf y n two.outcome) (omega (arith, length-append before s, length-append s t)) two.is_of;
          always = λ after. ap (λ (o : Outcome A). and_then o (λ x next. f x (whole after) next)) (seen after ∙ e) ∙ ap (λ (u : List ℕ). f x u (length before + length s)) (regroup before s t after) ∙ ap (λ (i : ℕ). f x ((before ++ s) ++ (t ++ after)) i) (sym place) ∙ two.always after;
        }
      ];
}

pub Again-checked : {A : Type 0} (d : Field) (r : Reader A) (test : A → Option Cause) (x : A) (s : List ℕ) → Again r x s → Again (checked d r test) x s
Again-checked {A} d r test x s hr = record {
  settled = λ before.
      let one = hr.settled before in
      let end = length before + length s in
      let seen : (after : List ℕ) → checked d r test (before ++ (s ++ after)) (length before) ≡ and_then one.outcome (λ x next. judged (test x) d x (length before) next) =
      λ after. ap (λ (o : Outcome A). and_then o (λ x next. judged (test x) d x (length before) next)) (one.always after) in
      record { outcome = and_then one.outcome (λ x next. judged (test x) d x (length before) next); is_of = IsOf-judged one.outcome test d x (length before) end one.is_of; always = seen };
}
  where
    IsOf-one : {A : Type 0} (v : Option Cause) (d : Field) (y : A) (place m : ℕ) (x : A) (n : ℕ) → (y ≡ x) × (m ≡ n) → IsOf x n (judged v d y place m)
    IsOf-one None d y place m x n h = h
    IsOf-one (Some c) d y place m x n h = tt

    IsOf-judged : {A : Type 0} (o : Outcome A) (test : A → Option Cause) (d : Field) (x : A) (place n : ℕ) → IsOf x n o → IsOf x n (and_then o (λ x next. judged (test x) d x place next))
    IsOf-judged (Got y m) test d x place n h = IsOf-one (test y) d y place m x n h
    IsOf-judged (Bad e) test d x place n h = tt

pub Again-number : (d : Field) (w n : ℕ) → n < 256 ^ w → Again (number d w) n (bytes_of w n)
unfolding number
Again-number d w n fits = record {
  settled = λ before.
      let len = length-bytes_of w n in
      record {
        outcome = Got n (length before + w);
        is_of = (refl, omega (arith, len));
        always = λ after.
            let long : ltb (length (before ++ (bytes_of w n ++ after))) (length before + w) ≡ false = le-ltb _ _ (omega (arith, len, length-append before (bytes_of w n ++ after), length-append (bytes_of w n) after)) in
            rw (long, num-bytes_of before w n after fits) refl;
      };
}

pub Again-string : (d : Field) (s : List ℕ) → Again (string d (length s)) s s
unfolding string
Again-string d s = record {
  settled = λ before.
      record {
        outcome = Got s (length before + length s);
        is_of = (refl, refl);
        always = λ after.
            let long : ltb (length (before ++ (s ++ after))) (length before + length s) ≡ false = le-ltb _ _ (omega (arith, length-append before (s ++ after), length-append s after)) in
            rw (long, drop_at before (s ++ after) (length before) refl, take_at s after (length s) refl) refl;
      };
}

-- by the length
pub Again-string-of : (d : Field) (k : ℕ) (s : List ℕ) → length s ≡ k → Again (string d k) s s
Again-string-of d k s e = subst (λ (n : ℕ). Again (string d n) s s) e (Again-string d s)

-- ---- the same with what can be left out left out: what the proofs of the records cite

-- a number under conditions
pub Reads-number_if : (d : Field) (w : ℕ) {test : ℕ → Option Cause} → Reads (checked d (number d w) test) (IsSpelling (bytes_of w) (λ n. (n < 256 ^ w) × (test n ≡ None)))
Reads-number_if d w {test} = Reads-checked d (number d w) test (bytes_of w) (λ n. n < 256 ^ w) (Reads-number d w)

-- bytes under conditions
pub Reads-string_if : (d : Field) (k : ℕ) {test : List ℕ → Option Cause} → Reads (checked d (string d k) test) (IsSpelling (λ x. x) (λ x. (length x ≡ k) × (test x ≡ None)))
Reads-string_if d k {test} = Reads-checked d (string d k) test (λ x. x) (λ x. length x ≡ k) (Reads-string d k)

pub Again-number_if : (d : Field) (w n : ℕ) (test : ℕ → Option Cause) → n < 256 ^ w → Again (checked d (number d w) test) n (bytes_of w n)
Again-number_if d w n test fits = Again-checked d (number d w) test n (bytes_of w n) (Again-number d w n fits)

pub Again-string_if : (d : Field) (s : List ℕ) (test : List ℕ → Option Cause) → Again (checked d (string d (length s)) test) s s
Again-string_if d s test = Again-checked d (string d (length s)) test s s (Again-string d s)

-- a part, and then the others
pub Again-part : {A B : Type 0} {r : Reader A} (f : A → Reader B) {x : A} {y : B} {s t : List ℕ} → Again r x s → Again (f x) y t → Again (r >>= f) y (s ++ t)
Again-part {A} {B} {r} f {x} {y} {s} {t} hr hf = Again-then r f x y s t hr hf

-- a text, grouped in another way
pub Again-as : {A : Type 0} {r : Reader A} {x : A} {s t : List ℕ} → Again r x s → s ≡ t → Again r x t
Again-as {A} {r} {x} h e = subst (λ (u : List ℕ). Again r x u) e h

-- ---- lists

pub Reads-list_of : {S A : Type 0} (item : ℕ → S → Reader A) (step : S → A → S) (sp : A → List ℕ) (fits : A → Type 0) → ((n : ℕ) (c : S) → Reads (item n c) (IsSpelling sp fits)) → (n : ℕ) (c : S)
    → Reads (list_of item step n c) (IsSpelling (flat_map sp) (λ xs. (length xs ≡ n) × AllByRecursion fits xs))
unfolding list_of
Reads-list_of item step sp fits each zero c = Reads-done _ [] (record { same = refl; fitting = (refl, tt) })
Reads-list_of {S} {A} item step sp fits each (suc n) c =
    Reads-part (each n c) (λ x x-fits. Reads-part (Reads-list_of item step sp fits each n (step c x)) (λ xs xs-fits. Reads-done _ (x ∷ xs)
    (record { same = rw (append-nil, flat_map-cons) refl; fitting = (ap suc xs-fits.0, (x-fits, xs-fits.1)) })))

pub Again-list_of : {S A : Type 0} (item : ℕ → S → Reader A) (step : S → A → S) (sp : A → List ℕ) (fits : A → Type 0) → ((n : ℕ) (c : S) (x : A) → fits x → Again (item n c) x (sp x)) → (xs : List A) (c : S) → AllByRecursion fits xs
    → Again (list_of item step (length xs) c) xs (flat_map sp xs)
unfolding list_of
Again-list_of item step sp fits each [] c h = Again-done []
Again-list_of {S} {A} item step sp fits each (x ∷ xs) c h =
    let rest = Again-then (list_of item step (length xs) (step c x)) (λ ys. done (x ∷ ys)) xs (x ∷ xs) (flat_map sp xs) [] (Again-list_of item step sp fits each xs (step c x) h.1) (Again-done (x ∷ xs)) in
    let all = Again-then (item (length xs) c) (λ y. list_of item step (length xs) (step c y) >>= λ ys. done (y ∷ ys)) x (x ∷ xs) (sp x) (flat_map sp xs ++ []) (each (length xs) c x h.0) rest in
    let same : sp x ++ (flat_map sp xs ++ []) ≡ flat_map sp (x ∷ xs) = rw (append-nil, flat_map-cons) refl in
    subst (λ (t : List ℕ). Again (list_of item step (suc (length xs)) c) (x ∷ xs) t) same all

-- ---- records of which none is read under what another one made

pub records_spelled : {A : Type 0} (r : Reader A) (sp : A → List ℕ) (fits : A → Type 0) → Reads r (IsSpelling sp fits) → (n : ℕ) → Reads (records_at r n) (IsSpelling (flat_map sp) (λ xs. (length xs ≡ n) × AllByRecursion fits xs))
unfolding records_at
records_spelled r sp fits each n = Reads-list_of {S = Unit {0}} (λ left context. r) (λ context x. context) sp fits (λ left context. each) n tt

pub records_again : {A : Type 0} (r : Reader A) (sp : A → List ℕ) (fits : A → Type 0) → IsReadAgain r sp fits → (xs : List A) → AllByRecursion fits xs → Again (records_at r (length xs)) xs (flat_map sp xs)
unfolding records_at
records_again r sp fits each xs h = Again-list_of {S = Unit {0}} (λ left context. r) (λ context x. context) sp fits (λ left context. each) xs tt h

-- ---- lists behind their count

pub counted_spelled : {A : Type 0} (d : Field) (items_at : ℕ → Reader (List A)) (sp : A → List ℕ) (fits : A → Type 0) → ((n : ℕ) → Reads (items_at n) (IsSpelling (flat_map sp) (λ xs. (length xs ≡ n) × AllByRecursion fits xs))) → IsReadFromSpelling (counted d items_at) (spell_counted sp) (CountedFits fits)
counted_spelled d items_at sp fits each =
    Reads-part (Reads-number d 4) λ count count-fits.
    Reads-as (each count) λ text items h.
    record { same = rw (h.fitting.0, h.same) refl; fitting = record { count = rw (h.fitting.0) count-fits; items = h.fitting.1 } }

pub counted_again : {A : Type 0} (d : Field) (items_at : ℕ → Reader (List A)) (sp : A → List ℕ) (fits : A → Type 0) → ((xs : List A) → AllByRecursion fits xs → Again (items_at (length xs)) xs (flat_map sp xs)) → IsReadAgain (counted d items_at) (spell_counted sp) (CountedFits fits)
counted_again d items_at sp fits each xs h = Again-part _ (Again-number d 4 (length xs) h.count) (each xs h.items)

-- by the laws of a record
pub counted_records_spelled : {A : Type 0} (d : Field) (r : Reader A) (sp : A → List ℕ) (fits : A → Type 0) → IsReadFromSpelling r sp fits → IsReadFromSpelling (counted d (records_at r)) (spell_counted sp) (CountedFits fits)
counted_records_spelled d r sp fits each = counted_spelled d (records_at r) sp fits (records_spelled r sp fits each)

pub counted_records_again : {A : Type 0} (d : Field) (r : Reader A) (sp : A → List ℕ) (fits : A → Type 0) → IsReadAgain r sp fits → IsReadAgain (counted d (records_at r)) (spell_counted sp) (CountedFits fits)
counted_records_again d r sp fits each = counted_again d (records_at r) sp fits (records_again r sp fits each)

-- ---- optional parts

pub Reads-optional : {A : Type 0} (there : Bool) {r : Reader A} {sp : A → List ℕ} {fits : A → Type 0} → Reads r (IsSpelling sp fits) → Reads (optional there r) (IsSpelling (spell_optional sp) (OptionFits there fits))
unfolding optional
Reads-optional {A} true h = Reads-part h λ x x-fits. Reads-done _ (Some x) (record { same = append-nil _; fitting = (refl, x-fits) })
Reads-optional {A} false h = Reads-done _ None (record { same = refl; fitting = refl })

pub Again-optional : {A : Type 0} (there : Bool) {r : Reader A} (sp : A → List ℕ) (fits : A → Type 0) (o : Option A) → ((x : A) → fits x → Again r x (sp x)) → OptionFits there fits o → Again (optional there r) o (spell_optional sp o)
unfolding optional
Again-optional true sp fits (Some x) each h = Again-as (Again-part _ (each x h.1) (Again-done (Some x))) (append-nil (sp x))
Again-optional true sp fits None each h = absurd cc
Again-optional false sp fits (Some x) each h = absurd (let e = h.0 in cc)
Again-optional false sp fits None each h = Again-done None
