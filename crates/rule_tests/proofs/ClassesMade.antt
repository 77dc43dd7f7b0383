-- The bits of classes, one after the other.
use Rattle.std.proofs.Common.{◌≡◌, ◌⊎◌, inl, inr, ℕ, zero, suc, ◌+◌, ◌<◌, ◌≤◌, Some, List, [], ◌∷◌, ◌++◌, length, slice_get, refl, sym, ap, subst, ◌∙◌, length-append, arith}
use Rattle.std.proofs.lemmas.Option.{slice_get_within, same_Some}
use Rattle.pol_cursor.specs.References.{Placed}
use Rattle.pol_classes.specs.declared.ClassRec.{ClassRec}
use Rattle.pol_symbols.specs.PolicySymbols.{permissions_of}
use Rattle.pol_symbols.specs.declared.Symbols.{Symbols}
use Rattle.rule_tests.specs.declared.class_bits.ClassBits.{ClassBits}
use Rattle.rule_tests.specs.PartTests.{AreClassBits, IsClassBits}

got_left : {X : Type 0} (xs ys : List X) (i : ℕ) (x : X) → slice_get xs i ≡ Some x → slice_get (xs ++ ys) i ≡ Some x
got_left [] ys i x e = absurd cc
got_left (y ∷ xs) ys zero x e = e
got_left (y ∷ xs) ys (suc i) x e = got_left xs ys i x e

got_last : {X : Type 0} (xs : List X) (y : X) → slice_get (xs ++ y ∷ []) (length xs) ≡ Some y
got_last [] y = refl
got_last (x ∷ xs) y = got_last xs y

-- what is made for one class
pub record IsMade (symbols : Symbols) (names : List (List ℕ)) (classes : List ClassBits) (i : ℕ) (class : Placed ClassRec) : Type 0 where
  pub bits : ClassBits
  pub at : slice_get classes i ≡ Some bits
  pub right : IsClassBits names (permissions_of symbols class.value) bits

-- what is made for the first n classes
pub record AreMade (symbols : Symbols) (names : List (List ℕ)) (n : ℕ) (classes : List ClassBits) : Type 0 where
  pub count : length classes ≡ n
  pub each : (i : ℕ) (class : Placed ClassRec) → i < n → slice_get symbols.classes.records i ≡ Some class → IsMade symbols names classes i class

pub none_made : (symbols : Symbols) (names : List (List ℕ)) → AreMade symbols names 0 []
none_made symbols names = record { count = refl; each = λ i class lt at. absurd (omega (arith, lt)) }

module _ (symbols : Symbols) (names : List (List ℕ)) (n : ℕ) (had has : List ClassBits) (class : Placed ClassRec) (bits : ClassBits) (made : AreMade symbols names n had) (at : slice_get symbols.classes.records n ≡ Some class) (is : IsClassBits names (permissions_of symbols class.value) bits) (added : has ≡ had ++ bits ∷ []) where
  before : (i : ℕ) (other : Placed ClassRec) → i < n → slice_get symbols.classes.records i ≡ Some other → IsMade symbols names has i other
  before i other lt there =
      let m = made.each i other lt there in
      record { bits = m.bits; at = ap (λ (l : List ClassBits). slice_get l i) added ∙ got_left had (bits ∷ []) i m.bits m.at; right = m.right }

  here : (i : ℕ) (other : Placed ClassRec) → i ≡ n → slice_get symbols.classes.records i ≡ Some other → IsMade symbols names has i other
  here i other e there =
      let same : class ≡ other = same_Some class other (sym at ∙ ap (slice_get symbols.classes.records) (sym e) ∙ there) in
      record {
        bits = bits;
        at = ap (λ (l : List ClassBits). slice_get l i) added ∙ ap (slice_get (had ++ bits ∷ [])) (e ∙ sym made.count) ∙ got_last had bits;
        right = subst (λ (c : Placed ClassRec). IsClassBits names (permissions_of symbols c.value) bits) same is;
      }

  either : (i : ℕ) → i < n + 1 → (i < n) ⊎ (i ≡ n)
  either i lt = grind arith

  pub made_more : AreMade symbols names (n + 1) has
  made_more = record {
    count = ap length added ∙ length-append had (bits ∷ []) ∙ ap (λ (k : ℕ). k + 1) made.count;
    each = λ i other lt there. elim (either i lt) [ inl less ↦ before i other less there | inr same ↦ here i other same there ];
  }

pub all_made : (symbols : Symbols) (names : List (List ℕ)) (n : ℕ) (classes : List ClassBits) → AreMade symbols names n classes → length symbols.classes.records ≤ n → AreClassBits symbols names classes
all_made symbols names n classes made past = λ i class at.
    let within = slice_get_within symbols.classes.records i class at in
    let m = made.each i class (omega (arith, within, past)) at in
    (m.bits, m.at, m.right)
