-- The items of an expression that was read make one value.
use Rattle.std.proofs.Common.{◌≡◌, ℕ, zero, suc, ◌<◌, ◌≤◌, Bool, true, false, cond, ◌&&◌, not, Option, Some, None, List, [], ◌∷◌, refl, subst, arith}
use Rattle.std.specs.Prelude.{◌==◌, nat_lt, nat_le}
use Rattle.std.proofs.lemmas.Bool.{ltb-false}
use Rattle.std.proofs.lemmas.Bool.Decides.{nat_tests}
use Rattle.pol_fields.specs.declared.fault.Cause.{Cause}
use Rattle.pol_fields.specs.declared.fault.Cause.TheVariants.{NotOneValue, TooDeep}
use Rattle.pol_cursor.specs.Outcome.{Reader, Got, and_then}
use Rattle.pol_cursor.specs.Parts.{list_of}
use Rattle.pol_cursor.proofs.Laws.{and_then_got}
use Rattle.pol_expr.specs.Postfix.{values_after, operands_test, item_count_test, IsPostfix}

pub got_is : {A : Type 0} (x : A) (n : ℕ) (y : A) (m : ℕ) → Got x n ≡ Got y m → (x ≡ y) × (n ≡ m)
got_is x n y m e = (cc, cc)

-- ---- what the conditions say

chosen_none : (a b c : Bool) (x y z : Cause) → cond a (Some x) (cond b (Some y) (cond c (Some z) None)) ≡ None → (a ≡ false) × (b ≡ false) × (c ≡ false)
chosen_none true b c x y z e = absurd cc
chosen_none false true c x y z e = absurd cc
chosen_none false false true x y z e = absurd cc
chosen_none false false false x y z e = (refl, refl, refl)

pub guard_none : (a : Bool) (o : Option Cause) (x : Cause) → cond a o (Some x) ≡ None → (a ≡ true) × (o ≡ None)
guard_none true o x e = (refl, e)
guard_none false o x e = absurd cc

pub record HasOperands (limit left values operands : ℕ) : Type 0 where
  pub enough : operands ≤ values
  pub shallow : operands ≡ 0 → values < limit
  pub one : left ≡ 0 → values_after values operands ≡ 1

zero_leaf : (values operands limit : ℕ) → (operands == 0) && nat_le limit values ≡ false → operands ≡ 0 → values < limit
zero_leaf values operands limit e z = grind (arith, nat_tests)

last_one : (left n : ℕ) → (left == 0) && not (n == 1) ≡ false → left ≡ 0 → n ≡ 1
last_one left n e z = grind (arith, nat_tests)

pub has_operands : (limit left values operands : ℕ) → operands_test limit left values operands ≡ None → HasOperands limit left values operands
has_operands limit left values operands e =
    let t = chosen_none (nat_lt values operands) ((operands == 0) && nat_le limit values) ((left == 0) && not (values_after values operands == 1)) NotOneValue TooDeep NotOneValue e in
    record { enough = ltb-false _ _ t.0; shallow = zero_leaf values operands limit t.1; one = last_one left (values_after values operands) t.2 }

pub some_item : (count : ℕ) → item_count_test count ≡ None → 1 ≤ count
some_item zero e = absurd cc
some_item (suc count) e = omega arith

-- no item makes more values than the limit
within_limit : (limit left values operands : ℕ) → values ≤ limit → HasOperands limit left values operands → values_after values operands ≤ limit
within_limit limit left values zero le h = omega (arith, h.shallow refl)
within_limit limit left values (suc operands) le h = omega arith

-- ---- lists of items

module _ {A : Type 0} (item : ℕ → ℕ → Reader A) (operands : A → ℕ) (limit : ℕ)
    (each : (left values : ℕ) (bytes : List ℕ) (place : ℕ) (x : A) (next : ℕ) → item left values bytes place ≡ Got x next → HasOperands limit left values (operands x)) where
  pub list_postfix : (count values : ℕ) (bytes : List ℕ) (place : ℕ) (xs : List A) (next : ℕ) → list_of item (λ v x. values_after v (operands x)) count values bytes place ≡ Got xs next → values ≤ limit → (count ≡ 0 → values ≡ 1) → IsPostfix operands limit values xs
  unfolding list_of
  list_postfix zero values bytes place xs next e le one = subst (IsPostfix operands limit values) (got_is [] place xs next e).0 (one refl)
  list_postfix (suc count) values bytes place xs next e le one =
      let a = and_then_got (item count values bytes place) (λ x m. and_then (list_of item (λ v x. values_after v (operands x)) count (values_after values (operands x)) bytes m) (λ xs k. Got (x ∷ xs) k)) xs next e in
      let b = and_then_got (list_of item (λ v x. values_after v (operands x)) count (values_after values (operands a.0)) bytes a.1) (λ xs k. Got (a.0 ∷ xs) k) xs next a.3 in
      let g = got_is (a.0 ∷ b.0) b.1 xs next b.3 in
      let p = each count values bytes place a.0 a.1 a.2 in
      let within = within_limit limit count values (operands a.0) le p in
      subst (IsPostfix operands limit values) g.0 (p.enough, within, list_postfix count (values_after values (operands a.0)) bytes a.1 b.0 b.1 b.2 within p.one)
