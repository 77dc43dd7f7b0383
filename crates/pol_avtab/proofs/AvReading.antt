-- The parts of an access vector that were read are those that stand there.
use Rattle.std.proofs.Common.{◌≡◌, ⊎_elim, ℕ, ◌+◌, ◌*◌, ◌%◌, ◌^◌, ◌<◌, ◌≤◌, Option, None, Some, Bool, true, false, List, length, take, drop, refl, sym, ap, subst, ◌∙◌, arith}
use Rattle.std.specs.Prelude.{◌||◌, ◌==◌, nat_le, not, option_map, slice_index, if◌then◌else◌}
use Rattle.std.proofs.lemmas.List.{get_or-drop}
use Rattle.std.proofs.lemmas.Nat.{and_assoc}
use Rattle.std.proofs.lemmas.Grind.{and_numeral}
use Rattle.std.proofs.lemmas.Bool.{false≢true, le-ltb, eqb-true, or_cases, or_right}
use Rattle.pol_fields.specs.declared.field.Field.{Field}
use Rattle.pol_fields.specs.declared.fields.TheConstants.{AV_SOURCE, AV_TARGET, AV_CLASS, AV_SPECIFIED, AV_XKIND, AV_DRIVER, AV_BITS, AV_DATA}
use Rattle.pol_cursor.specs.Outcome.{Position, Reader, Got}
use Rattle.pol_cursor.specs.Parts.{num, number, string}
use Rattle.pol_cursor.proofs.Facts.{number_is, string_is}
use Rattle.pol_cursor.proofs.Lists.{Gave}
use Rattle.pol_avtab.specs.declared.av_rec.AvPart.{AvPart}
use Rattle.pol_avtab.specs.declared.av_rec.AvPart.TheVariants.{Extended}
use Rattle.pol_avtab.specs.declared.av_key.AvKey.{AvKey}
use Rattle.pol_avtab.specs.declared.av_rec.AvRec.{AvRec}
use Rattle.pol_avtab.specs.AvKeys.{kind_of, key_of, has_key, word_of}
use Rattle.pol_avtab.specs.AvRecord.{is_extended, is_kind, standing_test, specified_test, xkind_test, extended_at, data_at, part_at, av_at, specified_in, part_in, av_in, av_length, av_end}
use Rattle.pol_avtab.specs.Inner.DuplicateKeys.{IsFirst}

extended_is : (a b : ℕ) (bits : List ℕ) (a' b' : ℕ) (bits' : List ℕ) → a ≡ a' → b ≡ b' → bits ≡ bits' → Extended a b bits ≡ Extended a' b' bits'
extended_is a b bits a' b' bits' p q r = rw (p, q, r) refl

pub extended_read : (bytes : List ℕ) (place second third next xkind driver : ℕ) (bits : List ℕ) → number AV_XKIND 1 bytes place ≡ Got xkind second → xkind_test xkind ≡ None → number AV_DRIVER 1 bytes second ≡ Got driver third
    → string AV_BITS 32 bytes third ≡ Got bits next → extended_at bytes place ≡ Got (Extended (num bytes place 1) (num bytes (place + 1) 1) (take 32 (drop (place + 2) bytes))) next
unfolding extended_at
extended_read bytes place second third next xkind driver bits e test f g =
    let p = number_is AV_XKIND 1 bytes place xkind second e in
    let q = number_is AV_DRIVER 1 bytes second driver third f in
    let r = string_is AV_BITS 32 bytes third bits next g in
    let behind : third ≡ place + 2 = omega (arith, p.1, q.1) in
    let is = extended_is xkind driver bits (num bytes place 1) (num bytes (place + 1) 1) (take 32 (drop (place + 2) bytes)) p.0 (q.0 ∙ ap (λ (i : ℕ). num bytes i 1) p.1) (r.0 ∙ ap (λ (i : ℕ). take 32 (drop i bytes)) behind) in
    rw (e, test, f, g) (ap (λ (part : AvPart). Got part next) is)

-- ---- the whole

behind_part : (extended : Bool) (place third next : ℕ) → third ≡ place + 8 → next ≡ third + (if extended then 34 else 4) → next ≡ place + (if extended then 42 else 12)
behind_part true place third next e f = omega (arith, e, f)
behind_part false place third next e f = omega (arith, e, f)

module _ (bytes : List ℕ) (place second third fourth fifth next source target class specified : ℕ)
    (e : number AV_SOURCE 2 bytes place ≡ Got source second) (f : number AV_TARGET 2 bytes second ≡ Got target third) (g : number AV_CLASS 2 bytes third ≡ Got class fourth)
    (h : number AV_SPECIFIED 2 bytes fourth ≡ Got specified fifth) where
  record IsHead : Type 0 where
    source_is : source ≡ num bytes place 2
    target_is : target ≡ num bytes (place + 2) 2
    class_is : class ≡ num bytes (place + 4) 2
    specified_is : specified ≡ specified_in bytes place
    behind : fifth ≡ place + 8

  head : IsHead
  head =
      let p = number_is AV_SOURCE 2 bytes place source second e in
      let q = number_is AV_TARGET 2 bytes second target third f in
      let r = number_is AV_CLASS 2 bytes third class fourth g in
      let s = number_is AV_SPECIFIED 2 bytes fourth specified fifth h in
      record {
        source_is = p.0;
        target_is = q.0 ∙ ap (λ (i : ℕ). num bytes i 2) p.1;
        class_is = r.0 ∙ ap (λ (i : ℕ). num bytes i 2) (omega (arith, p.1, q.1));
        specified_is = s.0 ∙ ap (λ (i : ℕ). num bytes i 2) (omega (arith, p.1, q.1, r.1));
        behind = omega (arith, p.1, q.1, r.1, s.1);
      }

  av_ends : next ≡ fifth + (if is_extended specified then 34 else 4) → next ≡ av_end bytes place
  av_ends end = behind_part (is_extended specified) place fifth next head.behind end ∙ ap (λ (n : ℕ). place + av_length n) head.specified_is

  av_got : (version : ℕ) (earlier : Option (List AvKey)) → specified_test version earlier (record { source = source; target = target; class = class; specified = kind_of specified }) ≡ None
      → part_at (is_extended specified) bytes fifth ≡ Got (part_in (is_extended specified) bytes fifth) next → av_at version earlier bytes place ≡ Got (av_in bytes place) next
  unfolding av_at
  av_got version earlier test part =
      let is : av_in bytes place ≡ record { source = source; target = target; class = class; specified = specified; part = part_in (is_extended specified) bytes fifth } =
      rw (head.behind, head.source_is, head.target_is, head.class_is, head.specified_is) refl in
      rw (e, f, g, h, test, part) (ap (λ (av : AvRec). Got av next) (sym is))

-- what was read of the same buffer
in_buffer : {A : Type 0} (r : Reader A) (x : A) (bytes : List ℕ) (old new : Position) → old.bytes ≡ bytes → Gave r x old new → r bytes old.place ≡ Got x new.place
in_buffer r x bytes old new same e = subst (λ (b : List ℕ). r b old.place ≡ Got x new.place) same e.0

pub record IsAvRead (version : ℕ) (earlier : Option (List AvKey)) (old new : Position) : Type 0 where
  pub exact : Gave (av_at version earlier) (av_in old.bytes old.place) old new
  pub ends : new.place ≡ av_end old.bytes old.place
  pub long : new.place ≤ length old.bytes

-- the parts, one after the other
pub av_read : (version : ℕ) (earlier : Option (List AvKey)) (old second third fourth fifth new : Position) (source target class specified : ℕ)
    → Gave (number AV_SOURCE 2) source old second → Gave (number AV_TARGET 2) target second third → Gave (number AV_CLASS 2) class third fourth → Gave (number AV_SPECIFIED 2) specified fourth fifth
    → specified_test version earlier (record { source = source; target = target; class = class; specified = kind_of specified }) ≡ None
    → Gave (part_at (is_extended specified)) (part_in (is_extended specified) fifth.bytes fifth.place) fifth new → new.place ≡ fifth.place + (if is_extended specified then 34 else 4) → new.place ≤ length fifth.bytes → IsAvRead version earlier old new
av_read version earlier old second third fourth fifth new source target class specified e f g h test part end long =
    let bytes = old.bytes in
    let third_same : third.bytes ≡ bytes = f.1 ∙ e.1 in
    let fourth_same : fourth.bytes ≡ bytes = g.1 ∙ third_same in
    let same : fifth.bytes ≡ bytes = h.1 ∙ fourth_same in
    let e' = in_buffer (number AV_SOURCE 2) source bytes old second refl e in
    let f' = in_buffer (number AV_TARGET 2) target bytes second third e.1 f in
    let g' = in_buffer (number AV_CLASS 2) class bytes third fourth third_same g in
    let h' = in_buffer (number AV_SPECIFIED 2) specified bytes fourth fifth fourth_same h in
    let part' : part_at (is_extended specified) bytes fifth.place ≡ Got (part_in (is_extended specified) bytes fifth.place) new.place = subst (λ (b : List ℕ). part_at (is_extended specified) b fifth.place ≡ Got (part_in (is_extended specified) b fifth.place) new.place) same part.0 in
    let ends = av_ends bytes old.place second.place third.place fourth.place fifth.place new.place source target class specified e' f' g' h' end in
    record {
      exact = (av_got bytes old.place second.place third.place fourth.place fifth.place new.place source target class specified e' f' g' h' version earlier test part', part.1 ∙ same);
      ends = ends;
      long = rw same at long;
    }

-- ---- an access vector that is right at first sight

number_there : (d : Field) (w : ℕ) (bytes : List ℕ) (place : ℕ) → place + w ≤ length bytes → number d w bytes place ≡ Got (num bytes place w) (place + w)
unfolding number
number_there d w bytes place there = rw (le-ltb (length bytes) (place + w) there) refl

-- what is so of six kinds is so of each that the first version has
module _ (P : ℕ → Type 0) (allow : P 0x1) (auditallow : P 0x2) (auditdeny : P 0x4) (transition : P 0x10) (member : P 0x20) (change : P 0x40) where
  either : (x y : Bool) (kind : ℕ) → (x ≡ true → P kind) → (y ≡ true → P kind) → (x || y) ≡ true → P kind
  either x y kind f g e = ⊎_elim f g (or_cases x y e)

  by : (n kind : ℕ) → P n → (kind == n) ≡ true → P kind
  by n kind p e = subst P (sym (eqb-true kind n e)) p

  of_plain : (kind : ℕ) → is_kind 0 kind ≡ true → P kind
  of_plain kind =
      either _ _ kind
      (either _ _ kind (either _ _ kind (either _ _ kind (either _ _ kind (either _ _ kind (by 0x1 kind allow) (by 0x2 kind auditallow)) (by 0x4 kind auditdeny)) (by 0x10 kind transition)) (by 0x20 kind member)) (by 0x40 kind change))
      (λ e. absurd (false≢true e))

abbrev IsPlain : ℕ → ℕ → Type 0
IsPlain version specified = (is_kind version (kind_of specified) ≡ true) × (is_extended (kind_of specified) ≡ false) × (is_extended specified ≡ false)

plain : (version specified : ℕ) → is_kind 0 specified ≡ true → IsPlain version specified
plain version specified e = of_plain (IsPlain version) (refl, refl, refl) (refl, refl, refl) (refl, refl, refl) (refl, refl, refl) (refl, refl, refl) (refl, refl, refl) specified e

standing : (version : ℕ) (earlier : Option (List AvKey)) → IsFirst earlier → (key : AvKey) → is_extended key.specified ≡ false → standing_test version (option_map (λ keys. has_key keys key) earlier) key ≡ None
standing version None first key e = rw (e, or_right (nat_le 34 version) true refl) refl
standing version (Some keys) first key e = rw (first, e) refl

stands_well : (version : ℕ) (earlier : Option (List AvKey)) → IsFirst earlier → (key : AvKey) → is_kind version key.specified ≡ true → is_extended key.specified ≡ false → specified_test version earlier key ≡ None
stands_well version earlier first key kind e = rw kind (standing version earlier first key e)

plain_part : (bytes : List ℕ) (place : ℕ) (extended : Bool) → extended ≡ false → place + 4 ≤ length bytes → part_at extended bytes place ≡ Got (part_in extended bytes place) (place + 4)
unfolding part_at data_at
plain_part bytes place extended e long = rw (e, number_there AV_DATA 4 bytes place long) refl

pub plain_end : (bytes : List ℕ) (place : ℕ) → is_kind 0 (specified_in bytes place) ≡ true → av_end bytes place ≡ place + 12
plain_end bytes place kind = rw (plain 0 (specified_in bytes place) kind).2 refl

pub plain_read : (version : ℕ) (earlier : Option (List AvKey)) → IsFirst earlier → (bytes : List ℕ) (place : ℕ) → place + 12 ≤ length bytes → is_kind 0 (specified_in bytes place) ≡ true → av_at version earlier bytes place ≡ Got (av_in bytes place) (place + 12)
plain_read version earlier first bytes place long kind =
    let specified = num bytes (place + 2 + 2 + 2) 2 in
    let same : specified_in bytes place ≡ specified = ap (λ (i : ℕ). num bytes i 2) (omega arith) in
    let is = plain version specified (subst (λ (n : ℕ). is_kind 0 n ≡ true) same kind) in
    let key : AvKey = record { source = num bytes place 2; target = num bytes (place + 2) 2; class = num bytes (place + 2 + 2) 2; specified = kind_of specified } in
    let got = av_got bytes place (place + 2) (place + 2 + 2) (place + 2 + 2 + 2) (place + 2 + 2 + 2 + 2) (place + 2 + 2 + 2 + 2 + 4) key.source key.target key.class specified
    (number_there AV_SOURCE 2 bytes place (omega (arith, long))) (number_there AV_TARGET 2 bytes (place + 2) (omega (arith, long))) (number_there AV_CLASS 2 bytes (place + 2 + 2) (omega (arith, long)))
    (number_there AV_SPECIFIED 2 bytes (place + 2 + 2 + 2) (omega (arith, long)))
    version earlier (stands_well version earlier first key is.0 is.1) (plain_part bytes (place + 2 + 2 + 2 + 2) (is_extended specified) is.2 (omega (arith, long))) in
    subst (λ (i : ℕ). av_at version earlier bytes place ≡ Got (av_in bytes place) i) (omega arith) got

-- ---- the key

byte_from : (bytes : List ℕ) (place i at : ℕ) → place + i ≡ at → slice_index (drop place bytes) i ≡ slice_index bytes at
byte_from bytes place i at e = get_or-drop place bytes i 0 ∙ ap (slice_index bytes) e

-- the first eight bytes, by the four numbers
eight_bytes : (bytes : List ℕ) (place : ℕ) → num bytes place 8 ≡ num bytes place 2 + 0x10000 * (num bytes (place + 2) 2 + 0x10000 * (num bytes (place + 4) 2 + 0x10000 * num bytes (place + 6) 2))
unfolding num
eight_bytes bytes place =
    let at : (i : ℕ) → slice_index (drop place bytes) i ≡ slice_index bytes (place + i) = λ i. byte_from bytes place i (place + i) refl in
    omega (
      arith,
      at 2,
      at 3,
      at 4,
      at 5,
      at 6,
      at 7,
      byte_from bytes (place + 2) 0 (place + 2) (omega arith),
      byte_from bytes (place + 2) 1 (place + 3) (omega arith),
      byte_from bytes (place + 4) 0 (place + 4) (omega arith),
      byte_from bytes (place + 4) 1 (place + 5) (omega arith),
      byte_from bytes (place + 6) 0 (place + 6) (omega arith),
      byte_from bytes (place + 6) 1 (place + 7) (omega arith),
    )

-- Without the mark they are the key.
unmarked_word : (bytes : List ℕ) (place : ℕ) → specified_in bytes place < 0x8000 → num bytes place 8 ≡ word_of (key_of (av_in bytes place))
unmarked_word bytes place small =
    let all = eight_bytes bytes place in
    let low : specified_in bytes place % 0x8000 ≡ specified_in bytes place = omega (arith, small) in
    let same : kind_of (specified_in bytes place) ≡ specified_in bytes place = and_numeral (specified_in bytes place) 0x7FFE refl ∙ low in
    all ∙ ap (λ (kind : ℕ). num bytes place 2 + 0x10000 * (num bytes (place + 2) 2 + 0x10000 * (num bytes (place + 4) 2 + 0x10000 * kind))) (sym same)

pub plain_word : (bytes : List ℕ) (place : ℕ) → num bytes place 8 < 2 ^ 63 → num bytes place 8 ≡ word_of (key_of (av_in bytes place))
plain_word bytes place lt = unmarked_word bytes place (omega (arith, lt, eight_bytes bytes place))

-- no kind that each version has has the mark
pub kind_word : (bytes : List ℕ) (place : ℕ) → is_kind 0 (specified_in bytes place) ≡ true → num bytes place 8 ≡ word_of (key_of (av_in bytes place))
kind_word bytes place kind =
    unmarked_word bytes place (of_plain (λ (n : ℕ). n < 0x8000) (omega arith) (omega arith) (omega arith) (omega arith) (omega arith) (omega arith) (specified_in bytes place) kind)

pub kind_unextended : (specified : ℕ) → is_kind 0 specified ≡ true → is_extended (kind_of specified) ≡ false
kind_unextended specified kind = (plain 0 specified kind).1

-- a rule is extended with the mark or without it
pub extended_unmarked : (specified : ℕ) → is_extended (kind_of specified) ≡ is_extended specified
extended_unmarked specified = ap (λ (bits : ℕ). not (bits == 0)) (and_assoc 0x700 specified 0x7FFF)
