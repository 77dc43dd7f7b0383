-- Runs of records that are made of numbers in a row: none of them has the name or the value of one before it in its table.
use Rattle.std.proofs.Common.{◌≡◌, ℕ, zero, suc, ◌+◌, ◌<◌, ◌≤◌, Bool, true, false, cond, Some, List, [], ◌∷◌, ◌++◌, refl, arith}
use Rattle.std.specs.Prelude.{map, nat_eq}
use Rattle.std.specs.List.{list_any, range_with_len}
use Rattle.std.specs.Str.{bytes_eq}
use Rattle.std.proofs.lemmas.List.{append-nil}
use Rattle.std.proofs.lemmas.List.Folds.{list_any-append}
use Rattle.pol_symtab.specs.Claims.{Claims, no_claims, has_name, has_value, with_member, with_claim}
use Rattle.pol_moved.proofs.Granted.{EachUnder}

-- ---- a run of records in its table

-- Each of the records that are made of the numbers to the end may stand where the ones before it stand, and so may the rest behind
-- them: by what holds of the context before each.
pub each-run : {S A : Type 0} (May : S → A → Type 0) (step : S → A → S) (f : ℕ → A) (Before : ℕ → S → Type 0) (end : ℕ) (rest : List A)
    → ((k : ℕ) (context : S) → k < end → Before k context → May context (f k) × Before (k + 1) (step context (f k)))
    → ((context : S) → Before end context → EachUnder (λ left. May) step context rest)
    → (from n : ℕ) → from + n ≡ end → (context : S) → Before from context → EachUnder (λ left. May) step context (map f (range_with_len from n) ++ rest)
each-run {S} May step f Before end rest each last from zero e context h =
    let ended : from ≡ end = omega arith in
    last context (rw (← ended) h)
each-run May step f Before end rest each last from (suc n) e context h =
    let one = each from context (omega arith) h in
    (one.0, each-run May step f Before end rest each last (from + 1) n (omega arith) (step context (f from)) one.1)

-- a run behind which nothing stands
pub each-last-run : {S A : Type 0} (May : S → A → Type 0) (step : S → A → S) (f : ℕ → A) (Before : ℕ → S → Type 0) (end : ℕ)
    → ((k : ℕ) (context : S) → k < end → Before k context → May context (f k) × Before (k + 1) (step context (f k)))
    → (from n : ℕ) → from + n ≡ end → (context : S) → Before from context → EachUnder (λ left. May) step context (map f (range_with_len from n))
each-last-run May step f Before end each from n e context h =
    rw append-nil at (each-run May step f Before end [] each (λ context h. tt) from n e context h)

-- ---- what is free

-- the names and values of the numbers from one to the end, which nothing has claimed
pub record AreFree (names : ℕ → List ℕ) (values : ℕ → ℕ) (from end : ℕ) (claims : Claims) : Type 0 where
  pub name : (k : ℕ) → from ≤ k → k < end → has_name claims (names k) ≡ false
  pub value : (k : ℕ) → from ≤ k → k < end → has_value claims (values k) ≡ false

pub all-free : (names : ℕ → List ℕ) (values : ℕ → ℕ) (from end : ℕ) → AreFree names values from end no_claims
all-free names values from end = record { name = λ k above below. refl; value = λ k above below. refl }

member-new : {A : Type 0} (same : A → A → Bool) (members : List A) (x y : A) → list_any (same x) members ≡ false → same x y ≡ false → list_any (same x) (with_member same members y) ≡ false
member-new {A} same members x y h k = go (list_any (same y) members)
  where
    go : (there : Bool) → list_any (same x) (cond there members (members ++ y ∷ [])) ≡ false
    go true = h
    go false = rw (list_any-append (same x) members (y ∷ []), h, k) refl

-- They are free behind a record with another name and another value than each.
pub free-behind : {names : ℕ → List ℕ} {values : ℕ → ℕ} (from next end : ℕ) (claims : Claims) (name : List ℕ) (value : ℕ) → from ≤ next → AreFree names values from end claims
    → ((k : ℕ) → next ≤ k → k < end → bytes_eq (names k) name ≡ false) → ((k : ℕ) → next ≤ k → k < end → nat_eq (values k) value ≡ false)
    → AreFree names values next end (with_claim claims name (Some value))
free-behind {names} {values} from next end claims name value le free other-names other-values = record {
  name = λ k above below. member-new bytes_eq claims.names (names k) name (free.name k (omega arith) below) (other-names k above below);
  value = λ k above below. member-new nat_eq claims.values (values k) value (free.value k (omega arith) below) (other-values k above below);
}
