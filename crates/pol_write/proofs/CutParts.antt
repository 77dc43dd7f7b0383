-- What a reader gives of bytes that are cut short, where it gives a value of all of them.
use Rattle.std.proofs.Common.{inl, inr, ◌⊎◌, ◌≡◌, ℕ, zero, suc, ◌+◌, ◌-◌, ◌<◌, ◌≤◌, Bool, true, false, cond, ltb, List, [], ◌∷◌, length, take, drop, Option, Some, None, refl, sym, ap, subst, ◌∙◌, arith}
use Rattle.std.proofs.lemmas.Bool.{ltb-false, le-ltb, lt-ltb, cases_lt}
use Rattle.std.proofs.lemmas.List.{length-take, take-take, drop-take}
use Rattle.pol_fields.specs.declared.Field.{Field}
use Rattle.pol_fields.specs.declared.Cause.{Cause}
use Rattle.pol_fields.specs.declared.Cause.TheVariants.{Short, Trailing}
use Rattle.pol_fields.specs.declared.field.Field.{Field}
use Rattle.pol_cursor.specs.Outcome.{Outcome, Got, Bad, Reader, fault, and_then, ◌>>=◌, done, judged, checked}
use Rattle.pol_cursor.specs.Parts.{num, number, string, end_at, list_of, records_at, counted, optional}
use Rattle.pol_cursor.specs.References.{placed}
use Rattle.pol_cursor.specs.Contexts.{records_after}
use Rattle.pol_cursor.specs.FileNames.{name_length_at, name_bytes_at, name_at}
use Rattle.pol_cursor.proofs.Facts.{number_is, number_of_string}
use Rattle.pol_cursor.proofs.Laws.{and_then_got, guard_got, judged_got}

-- what an outcome was read up to: the end of its value, or the place of its fault
abbrev pub Reaches : {A : Type 0} → ℕ → Outcome A → Type 0
Reaches place (Got x next) = place ≤ next
Reaches place (Bad f) = place ≤ f.place

-- the part within which n bytes end, of a value that is read from place to next
pub record CutPart {A : Type 0} (r : Reader A) (bytes : List ℕ) (place next n : ℕ) : Type 0 where
  pub field : Field
  pub start : ℕ
  pub ends : ℕ
  pub after : place ≤ start
  pub begins : start ≤ n
  pub lacks : n < ends
  pub before : ends ≤ next
  pub within : (m : ℕ) → start ≤ m → m < ends → r (take m bytes) place ≡ Bad (fault start field Short)
  pub behind : (m : ℕ) → ends ≤ m → Reaches ends (r (take m bytes) place)

-- a value that was read from place to next is read again where the bytes are cut behind it, and where they are cut within it, one of
-- its parts is short
pub record IsReadLocally {A : Type 0} (r : Reader A) (bytes : List ℕ) (place : ℕ) (x : A) (next : ℕ) : Type 0 where
  pub same : (m : ℕ) → next ≤ m → r (take m bytes) place ≡ Got x next
  pub cut : (n : ℕ) → place ≤ n → n < next → CutPart r bytes place next n

-- A reader reads onward from its place, and looks at no byte behind the value that it gives.
pub record IsLocal {A : Type 0} (r : Reader A) : Type 0 where
  pub onward : (bytes : List ℕ) (place : ℕ) → Reaches place (r bytes place)
  pub read : (bytes : List ℕ) (place : ℕ) (x : A) (next : ℕ) → r bytes place ≡ Got x next → IsReadLocally r bytes place x next

got_is : {A : Type 0} (x : A) (n : ℕ) (y : A) (m : ℕ) → Got x n ≡ Got y m → (x ≡ y) × (n ≡ m)
got_is x n y m e = (cc, cc)

-- ---- how far an outcome reaches

reaches_less : {A : Type 0} (less more : ℕ) (o : Outcome A) → less ≤ more → Reaches more o → Reaches less o
reaches_less less more (Got x next) le h = omega (arith, le, h)
reaches_less less more (Bad f) le h = omega (arith, le, h)

reaches_then : {A B : Type 0} (place : ℕ) (o : Outcome A) (f : A → ℕ → Outcome B) → Reaches place o → ((x : A) (next : ℕ) → place ≤ next → Reaches place (f x next)) → Reaches place (and_then o f)
reaches_then place (Got x next) f h each = each x next h
reaches_then place (Bad e) f h each = h

reaches_same : {A : Type 0} (place : ℕ) (o o' : Outcome A) → o ≡ o' → Reaches place o' → Reaches place o
reaches_same {A} place o o' e h = subst (λ (o : Outcome A). Reaches place o) (sym e) h

reaches_got : {A : Type 0} (place : ℕ) (o : Outcome A) (x : A) (next : ℕ) → o ≡ Got x next → Reaches place o → place ≤ next
reaches_got {A} place o x next e h = subst (λ (o : Outcome A). Reaches place o) e h

-- ---- no part, and a part before others

pub local-done : {A : Type 0} (x : A) → IsLocal (done x)
local-done {A} x = record {
  onward = λ bytes place. omega arith;
  read = λ bytes place y next e.
      let g = got_is x place y next e in
      record { same = λ m le. e; cut = λ n le lt. absurd (omega (arith, le, lt, g.1)) };
}

module _ {A B : Type 0} (r : Reader A) (f : A → Reader B) (r_local : IsLocal r) (f_local : (x : A) → IsLocal (f x)) (bytes : List ℕ) (place mid next : ℕ) (x : A) (y : B) (first : r bytes place ≡ Got x mid) (second : f x bytes mid ≡ Got y next) where
  from_first : IsReadLocally r bytes place x mid
  from_first = r_local.read bytes place x mid first

  from_second : IsReadLocally (f x) bytes mid y next
  from_second = (f_local x).read bytes mid y next second

  first_onward : place ≤ mid
  first_onward = reaches_got place (r bytes place) x mid first (r_local.onward bytes place)

  second_onward : mid ≤ next
  second_onward = reaches_got mid (f x bytes mid) y next second ((f_local x).onward bytes mid)

  -- the bytes are cut behind the first part
  past_first : (m : ℕ) → mid ≤ m → (r >>= f) (take m bytes) place ≡ f x (take m bytes) mid
  past_first m le = ap (λ (o : Outcome A). and_then o (λ x next. f x (take m bytes) next)) (from_first.same m le)

  cut_in_first : (n : ℕ) → CutPart r bytes place mid n → CutPart (r >>= f) bytes place next n
  cut_in_first n c = record {
    field = c.field;
    start = c.start;
    ends = c.ends;
    after = c.after;
    begins = c.begins;
    lacks = c.lacks;
    before = omega (arith, c.before, second_onward);
    within = λ m le lt. ap (λ (o : Outcome A). and_then o (λ x next. f x (take m bytes) next)) (c.within m le lt);
    behind = λ m le.
        reaches_then c.ends (r (take m bytes) place) (λ x next. f x (take m bytes) next) (c.behind m le)
        (λ z after reached. reaches_less c.ends after (f z (take m bytes) after) reached ((f_local z).onward (take m bytes) after));
  }

  cut_in_second : (n : ℕ) → CutPart (f x) bytes mid next n → CutPart (r >>= f) bytes place next n
  cut_in_second n c = record {
    field = c.field;
    start = c.start;
    ends = c.ends;
    after = omega (arith, c.after, first_onward);
    begins = c.begins;
    lacks = c.lacks;
    before = c.before;
    within = λ m le lt. past_first m (omega (arith, c.after, le)) ∙ c.within m le lt;
    behind = λ m le. reaches_same c.ends _ _ (past_first m (omega (arith, c.after, c.begins, c.lacks, le))) (c.behind m le);
  }

  cut_in_either : (n : ℕ) → place ≤ n → n < next → (n < mid) ⊎ (mid ≤ n) → CutPart (r >>= f) bytes place next n
  cut_in_either n le lt (inl before) = cut_in_first n (from_first.cut n le before)
  cut_in_either n le lt (inr behind) = cut_in_second n (from_second.cut n behind lt)

  read_both : IsReadLocally (r >>= f) bytes place y next
  read_both = record {
    same = λ m le. past_first m (omega (arith, second_onward, le)) ∙ from_second.same m le;
    cut = λ n le lt. cut_in_either n le lt (cases_lt n mid);
  }

pub local-then : {A B : Type 0} {r : Reader A} {f : A → Reader B} → IsLocal r → ((x : A) → IsLocal (f x)) → IsLocal (r >>= f)
local-then {A} {B} {r} {f} r_local f_local = record {
  onward = λ bytes place. reaches_then place (r bytes place) (λ x next. f x bytes next) (r_local.onward bytes place) (λ x next le. reaches_less place next (f x bytes next) le ((f_local x).onward bytes next));
  read = λ bytes place y next e.
      let g = and_then_got (r bytes place) (λ x next. f x bytes next) y next e in
      read_both r f r_local f_local bytes place g.1 next g.0 y g.2 g.3;
}

-- ---- a value that is judged, or changed, where it was read

module _ {A B : Type 0} (r : Reader A) (after : ℕ → A → ℕ → Outcome B) (r_local : IsLocal r) where
  abbrev pub read_after : Reader B
  read_after bytes place = and_then (r bytes place) (after place)

  cut_in_part : (bytes : List ℕ) (place next n : ℕ) (x : A) (y : B) → IsReadLocally r bytes place x next → after place x next ≡ Got y next → CutPart r bytes place next n → CutPart read_after bytes place next n
  cut_in_part bytes place next n x y first second c = record {
    field = c.field;
    start = c.start;
    ends = c.ends;
    after = c.after;
    begins = c.begins;
    lacks = c.lacks;
    before = c.before;
    within = λ m le lt. ap (λ (o : Outcome A). and_then o (after place)) (c.within m le lt);
    behind = λ m le. beyond m le (cases_lt m next);
  }
    where
      beyond : (m : ℕ) → c.ends ≤ m → (m < next) ⊎ (next ≤ m) → Reaches c.ends (read_after (take m bytes) place)
      beyond m le (inl lt) =
          let d = first.cut m (omega (arith, c.after, c.begins, c.lacks, le)) lt in
          let short : r (take m bytes) place ≡ Bad (fault d.start d.field Short) = d.within m d.begins d.lacks in
          let reached : c.ends ≤ d.start = subst (λ (o : Outcome A). Reaches c.ends o) short (c.behind m le) in
          reaches_same c.ends _ _ (ap (λ (o : Outcome A). and_then o (after place)) short) reached
      beyond m le (inr ge) = reaches_same c.ends _ _ (ap (λ (o : Outcome A). and_then o (after place)) (first.same m ge) ∙ second) c.before

  pub local-after : ((place : ℕ) (x : A) (next : ℕ) → place ≤ next → Reaches place (after place x next)) → ((place : ℕ) (x : A) (next : ℕ) (y : B) (end : ℕ) → after place x next ≡ Got y end → next ≡ end) → IsLocal read_after
  local-after onward ends = record {
    onward = λ bytes place. reaches_then place (r bytes place) (after place) (r_local.onward bytes place) (onward place);
    read = λ bytes place y end e.
        let g = and_then_got (r bytes place) (after place) y end e in
        let at_end = ends place g.0 g.1 y end g.3 in
        let first : IsReadLocally r bytes place g.0 end = subst (λ (next : ℕ). IsReadLocally r bytes place g.0 next) at_end (r_local.read bytes place g.0 g.1 g.2) in
        let second : after place g.0 end ≡ Got y end = subst (λ (next : ℕ). after place g.0 next ≡ Got y end) at_end g.3 in
        record {
          same = λ m le. ap (λ (o : Outcome A). and_then o (after place)) (first.same m le) ∙ second;
          cut = λ n le lt. cut_in_part bytes place end n g.0 y first second (first.cut n le lt);
        };
  }

judged_onward : {A : Type 0} (cause : Option Cause) (d : Field) (place : ℕ) (x : A) (next : ℕ) → place ≤ next → Reaches place (judged cause d x place next)
judged_onward None d place x next le = le
judged_onward (Some cause) d place x next le = omega arith

pub local-checked : {A : Type 0} (d : Field) (r : Reader A) (test : A → Option Cause) → IsLocal r → IsLocal (checked d r test)
local-checked d r test h =
    local-after r (λ place x next. judged (test x) d x place next) h (λ place x next le. judged_onward (test x) d place x next le)
    (λ place x next y end e. (judged_got (test x) d x place next y end e).2)

pub local-placed : {A : Type 0} {r : Reader A} → IsLocal r → IsLocal (placed r)
unfolding placed
local-placed {A} {r} h =
    local-after r (λ place x next. Got (record { place = place; value = x }) next) h (λ place x next le. le)
    (λ place x next y end e. (got_is _ next y end e).1)

-- ---- numbers and bytes

-- so many bytes that are all there, and what they say
abbrev guarded : {A : Type 0} → Field → ℕ → (List ℕ → ℕ → A) → Reader A
guarded d w value bytes place = cond (ltb (length bytes) (place + w)) (Bad (fault place d Short)) (Got (value bytes place) (place + w))

guarded_onward : {A : Type 0} (b : Bool) (d : Field) (place w : ℕ) (x : A) → Reaches place (cond b (Bad (fault place d Short)) (Got x (place + w)))
guarded_onward true d place w x = omega arith
guarded_onward false d place w x = omega arith

guarded_same : {A : Type 0} (d : Field) (w : ℕ) (value : List ℕ → ℕ → A) (bytes : List ℕ) (place m : ℕ) → value (take m bytes) place ≡ value bytes place → place + w ≤ length bytes → place + w ≤ m
    → guarded d w value (take m bytes) place ≡ Got (value bytes place) (place + w)
guarded_same d w value bytes place m kept long le =
    let enough : ltb (length (take m bytes)) (place + w) ≡ false = le-ltb _ _ (omega (arith, length-take m bytes, long, le)) in
    rw (enough, kept) refl

guarded_short : {A : Type 0} (d : Field) (w : ℕ) (value : List ℕ → ℕ → A) (bytes : List ℕ) (place m : ℕ) → m < place + w → guarded d w value (take m bytes) place ≡ Bad (fault place d Short)
guarded_short d w value bytes place m lt =
    let short : ltb (length (take m bytes)) (place + w) ≡ true = lt-ltb _ _ (omega (arith, length-take m bytes, lt)) in
    rw short refl

local-guarded : {A : Type 0} (d : Field) (w : ℕ) (value : List ℕ → ℕ → A) → ((bytes : List ℕ) (place m : ℕ) → place + w ≤ length bytes → place + w ≤ m → value (take m bytes) place ≡ value bytes place) → IsLocal (guarded d w value)
local-guarded {A} d w value kept = record {
  onward = λ bytes place. guarded_onward (ltb (length bytes) (place + w)) d place w (value bytes place);
  read = λ bytes place x next e.
      let g = guard_got (ltb (length bytes) (place + w)) (fault place d Short) (value bytes place) (place + w) x next e in
      let long : place + w ≤ length bytes = ltb-false _ _ g.0 in
      let got : Got (value bytes place) (place + w) ≡ Got x next = rw (g.1, g.2) refl in
      record {
        same = λ m le. guarded_same d w value bytes place m (kept bytes place m long (omega (arith, g.2, le))) long (omega (arith, g.2, le)) ∙ got;
        cut = λ n le lt. record {
          field = d;
          start = place;
          ends = place + w;
          after = omega arith;
          begins = le;
          lacks = omega (arith, lt, g.2);
          before = omega (arith, g.2);
          within = λ m le lt. guarded_short d w value bytes place m lt;
          behind = λ m le. reaches_same (place + w) _ _ (guarded_same d w value bytes place m (kept bytes place m long le) long le) (omega arith);
        };
      };
}

-- bytes before a cut are those of the whole
part_kept : (w m place : ℕ) (bytes : List ℕ) → place + w ≤ m → take w (drop place (take m bytes)) ≡ take w (drop place bytes)
part_kept w m place bytes le =
    let split : m ≡ place + (m - place) = omega (arith, le) in
    ap (λ (k : ℕ). take w (drop place (take k bytes))) split ∙ ap (λ (xs : List ℕ). take w xs) (drop-take place (m - place) bytes) ∙ take-take w (m - place) (drop place bytes) (omega (arith, le))

string_whole : (d : Field) (w place : ℕ) (bytes : List ℕ) (s : List ℕ) → place + w ≤ length bytes → take w (drop place bytes) ≡ s → string d w bytes place ≡ Got s (place + w)
unfolding string
string_whole d w place bytes s long e =
    let enough : ltb (length bytes) (place + w) ≡ false = le-ltb _ _ long in
    rw (enough, e) refl

number_kept : (d : Field) (w place m : ℕ) (bytes : List ℕ) → place + w ≤ length bytes → place + w ≤ m → num (take m bytes) place w ≡ num bytes place w
number_kept d w place m bytes long le =
    let s = take w (drop place bytes) in
    let whole = number_of_string d w bytes place s _ (string_whole d w place bytes s long refl) in
    let cut = number_of_string d w (take m bytes) place s _ (string_whole d w place (take m bytes) s (omega (arith, length-take m bytes, long, le)) (part_kept w m place bytes le)) in
    sym (number_is d w (take m bytes) place _ _ cut.0).0 ∙ (number_is d w bytes place _ _ whole.0).0

pub local-number : (d : Field) (w : ℕ) → IsLocal (number d w)
unfolding number
local-number d w = local-guarded d w (λ bytes place. num bytes place w) (λ bytes place m long le. number_kept d w place m bytes long le)

pub local-string : (d : Field) (n : ℕ) → IsLocal (string d n)
unfolding string
local-string d n = local-guarded d n (λ bytes place. take n (drop place bytes)) (λ bytes place m long le. part_kept n m place bytes le)

pub local-number_if : (d : Field) (w : ℕ) (test : ℕ → Option Cause) → IsLocal (checked d (number d w) test)
local-number_if d w test = local-checked d (number d w) test (local-number d w)

pub local-string_if : (d : Field) (n : ℕ) (test : List ℕ → Option Cause) → IsLocal (checked d (string d n) test)
local-string_if d n test = local-checked d (string d n) test (local-string d n)

-- ---- the end of the bytes

abbrev ended : ℕ → Outcome (Unit {0})
ended place = Got tt place

ended_onward : (b : Bool) (d : Field) (place : ℕ) → Reaches place (cond b (Bad (fault place d Trailing)) (ended place))
ended_onward true d place = omega arith
ended_onward false d place = omega arith

-- where no byte is left, the value ended at the end of the bytes or behind it
pub ends_there : (d : Field) (bytes : List ℕ) (place : ℕ) (u : Unit {0}) (next : ℕ) → end_at d bytes place ≡ Got u next → (length bytes ≤ place) × (place ≡ next)
unfolding end_at
ends_there d bytes place u next e =
    let g = guard_got (ltb place (length bytes)) (fault place d Trailing) tt place u next e in
    (ltb-false _ _ g.0, g.2)

pub local-end : (d : Field) → IsLocal (end_at d)
unfolding end_at
local-end d = record {
  onward = λ bytes place. ended_onward (ltb place (length bytes)) d place;
  read = λ bytes place u next e.
      let h = ends_there d bytes place u next e in
      record {
        same = λ m le.
            let none : ltb place (length (take m bytes)) ≡ false = le-ltb _ _ (omega (arith, length-take m bytes, h.0)) in
            rw (none, h.1) refl;
        cut = λ n le lt. absurd (omega (arith, le, lt, h.1));
      };
}

-- ---- lists

pub local-list_of : {S A : Type 0} (item : ℕ → S → Reader A) (step : S → A → S) → ((left : ℕ) (context : S) → IsLocal (item left context)) → (n : ℕ) (context : S) → IsLocal (list_of item step n context)
unfolding list_of
local-list_of item step each zero context = local-done []
local-list_of item step each (suc n) context =
    local-then (each n context) λ x.
    local-then (local-list_of item step each n (step context x)) λ xs.
    local-done (x ∷ xs)

pub local-records : {A : Type 0} {r : Reader A} → IsLocal r → (n : ℕ) → IsLocal (records_at r n)
unfolding records_at
local-records {A} {r} h n = local-list_of {S = Unit {0}} (λ left context. r) (λ context x. context) (λ left context. h) n tt

pub local-records_after : {S A : Type 0} (record_at : S → Reader A) (after : S → A → S) → ((context : S) → IsLocal (record_at context)) → (n : ℕ) (context : S) → IsLocal (records_after record_at after n context)
unfolding records_after
local-records_after {S} {A} record_at after each n context = local-list_of (λ left context. placed (record_at context)) (λ context r. after context r.value) (λ left context. local-placed (each context)) n context

-- records behind their count
pub local-counted : {A : Type 0} {r : Reader A} → IsLocal r → (d : Field) → IsLocal (counted d (records_at r))
local-counted {A} {r} h d = local-then (local-number d 4) (λ n. local-records h n)

-- ---- parts that are there or not

pub local-optional : {A : Type 0} {r : Reader A} (there : Bool) → IsLocal r → IsLocal (optional there r)
unfolding optional
local-optional true h = local-then h λ x. local-done (Some x)
local-optional false h = local-done None

pub local-either : {A : Type 0} {r s : Reader A} (b : Bool) → IsLocal r → IsLocal s → IsLocal (cond b r s)
local-either true h k = h
local-either false h k = k

-- ---- names of files

pub local-name_length : (field : Field) → IsLocal (name_length_at field)
unfolding name_length_at
local-name_length field = local-number_if _ 4 _

pub local-name_bytes : (field : Field) (len : ℕ) → IsLocal (name_bytes_at field len)
unfolding name_bytes_at
local-name_bytes field len = local-string_if _ len _

pub local-name : (len_field name_field : Field) → IsLocal (name_at len_field name_field)
unfolding name_at
local-name len_field name_field =
    local-then (local-name_length _) λ len.
    local-then (local-name_bytes _ _) λ name.
    local-done name
