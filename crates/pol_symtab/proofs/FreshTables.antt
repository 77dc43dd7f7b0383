-- That the records of a table have distinct names, and its primary records distinct values, by the laws of their kind.
use Rattle.std.proofs.Common.{◌≡◌, ℕ, zero, suc, ◌<◌, ◌≤◌, Bool, true, false, cond, ◌||◌, List, [], ◌∷◌, ◌++◌, Some, slice_get, refl, sym, ap, subst, nat_eq, arith}
use Rattle.std.specs.Str.{bytes_eq}
use Rattle.std.specs.List.{list_any}
use Rattle.std.proofs.lemmas.Bool.{eqb-true}
use Rattle.std.proofs.lemmas.Bool.Decides.{Decides-eqb}
use Rattle.std.proofs.lemmas.Option.{same_Some}
use Rattle.pol_cursor.specs.Outcome.{Reader, Got, and_then}
use Rattle.pol_cursor.specs.Parts.{list_of}
use Rattle.pol_cursor.specs.References.{Placed, placed}
use Rattle.pol_cursor.specs.Contexts.{records_after}
use Rattle.pol_cursor.proofs.Laws.{and_then_got}
use Rattle.pol_symtab.specs.Claims.{Claims, has_name, has_value, with_member, claims_after}
use Rattle.pol_symtab.specs.Inner.Freshness.{Gives, IsFresh}
use Rattle.pol_symtab.specs.Inner.TableIndex.{HaveDistinctNames, HaveDistinctValues}
use Rattle.pol_symtab.proofs.ByteOrder.{same_name, name_itself}
use Rattle.pol_symtab.proofs.Searches.{not_true}

-- ---- a set with one more member

or-right : (a b : Bool) → b ≡ true → (a || b) ≡ true
or-right true b e = refl
or-right false b e = e

or-left : (a b : Bool) → a ≡ true → (a || b) ≡ true
or-left true b e = refl
or-left false b e = absurd cc

old-go : (a b c : Bool) → (b ≡ true → c ≡ true) → (a || b) ≡ true → (a || c) ≡ true
old-go true b c h e = refl
old-go false b c h e = h e

any_old : {X : Type 0} (p : X → Bool) (xs : List X) (x : X) → list_any p xs ≡ true → list_any p (xs ++ x ∷ []) ≡ true
any_old p [] x e = absurd cc
any_old p (y ∷ xs) x e = old-go (p y) (list_any p xs) (list_any p (xs ++ x ∷ [])) (any_old p xs x) e

any_new : {X : Type 0} (p : X → Bool) (xs : List X) (x : X) → p x ≡ true → list_any p (xs ++ x ∷ []) ≡ true
any_new p [] x e = or-left (p x) false e
any_new p (y ∷ xs) x e = or-right (p y) (list_any p (xs ++ x ∷ [])) (any_new p xs x e)

module _ {X : Type 0} (same : X → X → Bool) (xs : List X) (x : X) where
  member-go : (p : X → Bool) → list_any p xs ≡ true → (b : Bool) → list_any p (cond b xs (xs ++ x ∷ [])) ≡ true
  member-go p e true = e
  member-go p e false = any_old p xs x e

  still_member : (p : X → Bool) → list_any p xs ≡ true → list_any p (with_member same xs x) ≡ true
  still_member p e = member-go p e (list_any (same x) xs)

  itself-go : same x x ≡ true → (b : Bool) → list_any (same x) xs ≡ b → list_any (same x) (cond b xs (xs ++ x ∷ [])) ≡ true
  itself-go e true there = there
  itself-go e false there = any_new (same x) xs x e

  new_member : same x x ≡ true → list_any (same x) (with_member same xs x) ≡ true
  new_member e = itself-go e (list_any (same x) xs) refl

-- ---- the claims after a record

name_claimed : (claims : Claims) (name : List ℕ) (primary : Bool) (value : ℕ) → has_name (claims_after claims name primary value) name ≡ true
name_claimed claims name true value = new_member bytes_eq claims.names name (name_itself name)
name_claimed claims name false value = new_member bytes_eq claims.names name (name_itself name)

name_kept : (claims : Claims) (name : List ℕ) (primary : Bool) (value : ℕ) (other : List ℕ) → has_name claims other ≡ true → has_name (claims_after claims name primary value) other ≡ true
name_kept claims name true value other e = still_member bytes_eq claims.names name (bytes_eq other) e
name_kept claims name false value other e = still_member bytes_eq claims.names name (bytes_eq other) e

value_claimed : (claims : Claims) (name : List ℕ) (primary : Bool) (value : ℕ) → primary ≡ true → has_value (claims_after claims name primary value) value ≡ true
value_claimed claims name true value e = new_member nat_eq claims.values value ((Decides-eqb value value).1 refl)
value_claimed claims name false value e = absurd cc

value_kept : (claims : Claims) (name : List ℕ) (primary : Bool) (value : ℕ) (other : ℕ) → has_value claims other ≡ true → has_value (claims_after claims name primary value) other ≡ true
value_kept claims name true value other e = still_member nat_eq claims.values value (nat_eq other) e
value_kept claims name false value other e = e

module _ {A : Type 0} (name_of : A → List ℕ) (is_primary : A → Bool) (value_of : A → ℕ) (nprim : ℕ) where
  -- each record is fresh behind the claims and the records before it
  pub AreFresh : Claims → List (Placed A) → Type 0
  AreFresh claims [] = Unit {0}
  AreFresh claims (r ∷ rs) = IsFresh nprim claims (name_of r.value) (is_primary r.value) (value_of r.value) × AreFresh (claims_after claims (name_of r.value) (is_primary r.value) (value_of r.value)) rs

  -- no record has a name that was claimed
  name_taken : (claims : Claims) (rs : List (Placed A)) → AreFresh claims rs → (name : List ℕ) → has_name claims name ≡ true → (j : ℕ) (s : Placed A) → slice_get rs j ≡ Some s → bytes_eq name (name_of s.value) ≡ false
  unfolding AreFresh
  name_taken claims [] fresh name there j s at = absurd cc
  name_taken claims (r ∷ rs) fresh name there zero s at = not_true (bytes_eq name (name_of s.value)) (λ e.
      let new : has_name claims (name_of s.value) ≡ false = subst (λ (t : Placed A). has_name claims (name_of t.value) ≡ false) (same_Some r s at) fresh.0.name_is_new in
      cc (new, subst (λ (n : List ℕ). has_name claims n ≡ true) (same_name name (name_of s.value) e) there))
  name_taken claims (r ∷ rs) fresh name there (suc j) s at =
      name_taken (claims_after claims (name_of r.value) (is_primary r.value) (value_of r.value)) rs fresh.1 name (name_kept claims (name_of r.value) (is_primary r.value) (value_of r.value) name there) j s at

  pub distinct_names : (claims : Claims) (rs : List (Placed A)) → AreFresh claims rs → HaveDistinctNames name_of rs
  unfolding AreFresh
  distinct_names claims [] fresh i j r s lt at at' = absurd cc
  distinct_names claims (q ∷ rs) fresh i zero r s lt at at' = absurd (omega (arith, lt))
  distinct_names claims (q ∷ rs) fresh zero (suc j) r s lt at at' =
      subst (λ (t : Placed A). bytes_eq (name_of t.value) (name_of s.value) ≡ false) (same_Some q r at)
      (name_taken (claims_after claims (name_of q.value) (is_primary q.value) (value_of q.value)) rs fresh.1 (name_of q.value) (name_claimed claims (name_of q.value) (is_primary q.value) (value_of q.value)) j s at')
  distinct_names claims (q ∷ rs) fresh (suc i) (suc j) r s lt at at' =
      distinct_names (claims_after claims (name_of q.value) (is_primary q.value) (value_of q.value)) rs fresh.1 i j r s (omega (arith, lt)) at at'

  -- no primary record has a value that was claimed
  value_taken : (claims : Claims) (rs : List (Placed A)) → AreFresh claims rs → (value : ℕ) → has_value claims value ≡ true → (j : ℕ) (s : Placed A) → slice_get rs j ≡ Some s → is_primary s.value ≡ true → nat_eq value (value_of s.value) ≡ false
  unfolding AreFresh
  value_taken claims [] fresh value there j s at primary = absurd cc
  value_taken claims (r ∷ rs) fresh value there zero s at primary = not_true (nat_eq value (value_of s.value)) (λ e.
      let one = same_Some r s at in
      let new = subst (λ (t : Placed A). has_value claims (value_of t.value) ≡ false) one (fresh.0.value_is_new (subst (λ (t : Placed A). is_primary t.value ≡ true) (sym one) primary)).2 in
      cc (new, subst (λ (n : ℕ). has_value claims n ≡ true) (eqb-true value (value_of s.value) e) there))
  value_taken claims (r ∷ rs) fresh value there (suc j) s at primary =
      value_taken (claims_after claims (name_of r.value) (is_primary r.value) (value_of r.value)) rs fresh.1 value (value_kept claims (name_of r.value) (is_primary r.value) (value_of r.value) value there) j s at primary

  values_apart : (claims : Claims) (rs : List (Placed A)) → AreFresh claims rs → (i j : ℕ) (r s : Placed A) → i < j → slice_get rs i ≡ Some r → slice_get rs j ≡ Some s → is_primary r.value ≡ true → is_primary s.value ≡ true → nat_eq (value_of r.value) (value_of s.value) ≡ false
  unfolding AreFresh
  values_apart claims [] fresh i j r s lt at at' primary primary' = absurd cc
  values_apart claims (q ∷ rs) fresh i zero r s lt at at' primary primary' = absurd (omega (arith, lt))
  values_apart claims (q ∷ rs) fresh zero (suc j) r s lt at at' primary primary' =
      let one = same_Some q r at in
      subst (λ (t : Placed A). nat_eq (value_of t.value) (value_of s.value) ≡ false) one
      (value_taken (claims_after claims (name_of q.value) (is_primary q.value) (value_of q.value)) rs fresh.1 (value_of q.value)
      (value_claimed claims (name_of q.value) (is_primary q.value) (value_of q.value) (subst (λ (t : Placed A). is_primary t.value ≡ true) (sym one) primary)) j s at' primary')
  values_apart claims (q ∷ rs) fresh (suc i) (suc j) r s lt at at' primary primary' =
      values_apart (claims_after claims (name_of q.value) (is_primary q.value) (value_of q.value)) rs fresh.1 i j r s (omega (arith, lt)) at at' primary primary'

  values_within : (claims : Claims) (rs : List (Placed A)) → AreFresh claims rs → (i : ℕ) (r : Placed A) → slice_get rs i ≡ Some r → is_primary r.value ≡ true → value_of r.value ≤ nprim
  unfolding AreFresh
  values_within claims [] fresh i r at primary = absurd cc
  values_within claims (q ∷ rs) fresh zero r at primary =
      let one = same_Some q r at in
      subst (λ (t : Placed A). value_of t.value ≤ nprim) one (fresh.0.value_is_new (subst (λ (t : Placed A). is_primary t.value ≡ true) (sym one) primary)).1
  values_within claims (q ∷ rs) fresh (suc i) r at primary =
      values_within (claims_after claims (name_of q.value) (is_primary q.value) (value_of q.value)) rs fresh.1 i r at primary

  pub distinct_values : (claims : Claims) (rs : List (Placed A)) → AreFresh claims rs → HaveDistinctValues is_primary value_of nprim rs
  distinct_values claims rs fresh = record { within = values_within claims rs fresh; distinct = values_apart claims rs fresh }

-- ---- the records that were read

got_is : {X : Type 0} (x y : X) (n m : ℕ) → Got x n ≡ Got y m → x ≡ y
got_is x y n m e = cc

module _ {S A : Type 0} (reads : S → Reader A) (after : S → A → S) (name_of : A → List ℕ) (is_primary : A → Bool) (value_of : A → ℕ) (nprim_of : S → ℕ) (claims_of : S → Claims)
    (fresh : (context : S) → Gives (reads context) (λ x. IsFresh (nprim_of context) (claims_of context) (name_of x) (is_primary x) (value_of x)))
    (claimed : (context : S) (x : A) → (claims_of (after context x) ≡ claims_after (claims_of context) (name_of x) (is_primary x) (value_of x)) × (nprim_of (after context x) ≡ nprim_of context)) where
  pub records_fresh : (n : ℕ) (context : S) (bytes : List ℕ) (place : ℕ) (rs : List (Placed A)) (next : ℕ) → records_after reads after n context bytes place ≡ Got rs next → AreFresh name_of is_primary value_of (nprim_of context) (claims_of context) rs
  unfolding records_after list_of placed AreFresh
  records_fresh zero context bytes place rs next e = subst (AreFresh name_of is_primary value_of (nprim_of context) (claims_of context)) (got_is [] rs place next e) tt
  records_fresh (suc n) context bytes place rs next e =
      let first = and_then_got (placed (reads context) bytes place) (λ x next. and_then (records_after reads after n (after context x.value) bytes next) (λ xs next. Got (x ∷ xs) next)) rs next e in
      let x : Placed A = first.0 in
      let read = and_then_got (reads context bytes place) (λ y next. Got (record { place = place; value = y }) next) x first.1 first.2 in
      let is : read.0 ≡ x.value = ap (λ (p : Placed A). p.value) (got_is (record { place = place; value = read.0 }) x read.1 first.1 read.3) in
      let one = subst (λ (y : A). IsFresh (nprim_of context) (claims_of context) (name_of y) (is_primary y) (value_of y)) is ((fresh context).each bytes place read.0 read.1 read.2) in
      let rest = and_then_got (records_after reads after n (after context x.value) bytes first.1) (λ xs next. Got (x ∷ xs) next) rs next first.3 in
      let others = records_fresh n (after context x.value) bytes first.1 rest.0 rest.1 rest.2 in
      let law = claimed context x.value in
      subst (AreFresh name_of is_primary value_of (nprim_of context) (claims_of context)) (got_is (x ∷ rest.0) rs rest.1 next rest.3) (
        one,
        subst (λ (m : ℕ). AreFresh name_of is_primary value_of m (claims_after (claims_of context) (name_of x.value) (is_primary x.value) (value_of x.value)) rest.0) law.1
            (subst (λ (claims : Claims). AreFresh name_of is_primary value_of (nprim_of (after context x.value)) claims rest.0) law.0 others),
      )
