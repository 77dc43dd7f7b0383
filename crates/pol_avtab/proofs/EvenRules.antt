-- Rules that take twelve bytes each, one behind the other.
use Rattle.std.proofs.Common.{◌≡◌, ℕ, zero, suc, ◌+◌, ◌*◌, Bool, Option, Some, true, false, List, [], ◌∷◌, ◌++◌, map, refl, sym, ap, subst, ◌∙◌, arith}
use Rattle.std.specs.Prelude.{◌==◌}
use Rattle.std.specs.Bool.{then_some}
use Rattle.std.specs.List.{AllByRecursion, IsDistinct}
use Rattle.std.proofs.lemmas.List.{map-append}
use Rattle.pol_fields.specs.declared.fields.TheConstants.{AVTAB_NEL}
use Rattle.pol_cursor.specs.Outcome.{Got, Position}
use Rattle.pol_cursor.specs.Inner.EvenPlaces.{even_places}
use Rattle.pol_cursor.specs.Parts.{num, number, list_of}
use Rattle.pol_cursor.specs.References.{Placed, placed}
use Rattle.pol_cursor.specs.Contexts.{records_after}
use Rattle.pol_avtab.specs.declared.av_rec.AvRec.{AvRec}
use Rattle.pol_avtab.specs.AvRecord.{is_kind, specified_in, av_at, av_in, HasAv}
use Rattle.pol_avtab.specs.AvTables.{placed_rules_at, table_at}
use Rattle.pol_avtab.specs.Inner.EvenRules.{even_rules, HasEven}
use Rattle.pol_avtab.specs.Inner.DuplicateKeys.{rules_behind, words_of, IsRead}
use Rattle.pol_avtab.proofs.AvReading.{plain_read, plain_end, kind_word, kind_unextended}
use Rattle.pol_avtab.proofs.KeyWords.{kept, words_pushed, distinct_read}

-- without the first
others : (bytes : List ℕ) (place n : ℕ) → HasEven bytes place (suc n) → HasEven bytes (place + 12) n
others bytes place n has = record {
  long = omega (arith, has.long);
  small = has.small;
  kinds = λ i lt. let e : place + 12 + i * 12 ≡ place + suc i * 12 = omega arith in rw e (has.kinds (suc i) (omega (arith, lt)));
}

first_kind : (bytes : List ℕ) (place n : ℕ) → HasEven bytes place (suc n) → is_kind 0 (specified_in bytes place) ≡ true
first_kind bytes place n has =
    let e : place + 0 * 12 ≡ place = omega arith in
    subst (λ (i : ℕ). is_kind 0 (specified_in bytes i) ≡ true) e (has.kinds 0 (omega arith))

-- each of them stands at its place
pub even_stand : (bytes : List ℕ) (place n : ℕ) → HasEven bytes place n → AllByRecursion (HasAv bytes) (even_places 12 place n)
unfolding even_places
even_stand bytes place zero has = tt
even_stand bytes place (suc n) has =
    ((rw (plain_end bytes place (first_kind bytes place n has)) (omega (arith, has.long)), has.small), even_stand bytes (place + 12) n (others bytes place n has))

first_read : (version : ℕ) (bytes : List ℕ) (place n : ℕ) → HasEven bytes place (suc n) → av_at version (Some []) bytes place ≡ Got (av_in bytes place) (place + 12)
first_read version bytes place n has = plain_read version (Some []) refl bytes place (omega (arith, has.long)) (first_kind bytes place n has)

each_read : (version n : ℕ) (bytes : List ℕ) (place : ℕ) → HasEven bytes place n → kept version n bytes place ≡ Got (even_rules bytes place n) (place + n * 12)
unfolding list_of placed even_places
each_read version zero bytes place has = let e : place + 0 * 12 ≡ place = omega arith in rw e refl
each_read version (suc n) bytes place has =
    let e : place + 12 + n * 12 ≡ place + suc n * 12 = omega arith in
    rw (first_read version bytes place n has, each_read version n bytes (place + 12) (others bytes place n has), e) refl

pub even_read : (version n : ℕ) (bytes : List ℕ) (place : ℕ) → HasEven bytes place n → rules_behind version false n bytes place ≡ Got (even_rules bytes place n) (place + n * 12)
unfolding rules_behind records_after
even_read version n bytes place has = each_read version n bytes place has

-- ---- one rule more

place_more : (step place n : ℕ) → even_places step place (suc n) ≡ even_places step place n ++ (place + n * step) ∷ []
unfolding even_places
place_more step place zero = let e : place ≡ place + 0 * step = omega arith in ap (λ (p : ℕ). p ∷ []) e
place_more step place (suc n) =
    let e : place + step + n * step ≡ place + suc n * step = omega arith in
    ap (λ (places : List ℕ). place ∷ places) (place_more step (place + step) n ∙ ap (λ (p : ℕ). even_places step (place + step) n ++ p ∷ []) e)

rules_more : (bytes : List ℕ) (place n : ℕ) → even_rules bytes place (n + 1) ≡ even_rules bytes place n ++ (record { place = place + n * 12; value = av_in bytes (place + n * 12) }) ∷ []
rules_more bytes place n =
    let e : n + 1 ≡ suc n = omega arith in
    ap (even_rules bytes place) e ∙ ap (map (λ (rule : ℕ). record { place = rule; value = av_in bytes rule })) (place_more 12 place n) ∙ map-append _ (even_places 12 place n) _

pub words_more : (bytes : List ℕ) (place n : ℕ) → is_kind 0 (specified_in bytes (place + n * 12)) ≡ true
    → words_of (even_rules bytes place (n + 1)) ≡ words_of (even_rules bytes place n) ++ num bytes (place + n * 12) 8 ∷ []
words_more bytes place n kind =
    let rule : Placed AvRec = record { place = place + n * 12; value = av_in bytes (place + n * 12) } in
    ap words_of (rules_more bytes place n) ∙ words_pushed false (even_rules bytes place n) rule (kind_unextended (specified_in bytes (place + n * 12)) kind)
    ∙ ap (λ (word : ℕ). words_of (even_rules bytes place n) ++ word ∷ []) (sym (kind_word bytes (place + n * 12) kind))

-- rules that are read by themselves, where no two have the same key
pub read_if : (version n : ℕ) (old new : Position) (rules : List (Placed AvRec)) (distinct : Bool) → IsRead (rules_behind version false n) (Some rules) old new
    → (distinct ≡ true → IsDistinct ◌==◌ (words_of rules)) → IsRead (placed_rules_at version n) (then_some distinct rules) old new
read_if version n old new rules true read is = (distinct_read version n old.bytes old.place rules new.place (is refl) read.0, read.1)
read_if version n old new rules false read is = tt

-- a table whose rules were found behind their number
pub table_read : (version n : ℕ) (bytes : List ℕ) (place next : ℕ) (found : Option (List (Placed AvRec))) (table : List (Placed AvRec)) (old new : Position)
    → number AVTAB_NEL 4 bytes place ≡ Got n next → old.bytes ≡ bytes → old.place ≡ next → IsRead (placed_rules_at version n) found old new → found ≡ Some table
    → (table_at version bytes place ≡ Got table new.place) × (new.bytes ≡ bytes)
unfolding table_at
table_read version n bytes place next found table old new count same stands read is =
    let there = subst (λ (x : Option (List (Placed AvRec))). IsRead (placed_rules_at version n) x old new) is read in
    (rw (count, ← same, ← stands) there.0, there.1 ∙ same)
