-- Ranks order the declared values as the bytes of their names do.
use Rattle.std.proofs.Common.{◌≡◌, ℕ, zero, suc, ◌<◌, ◌≤◌, Bool, true, false, cond, ◌&&◌, List, [], ◌∷◌, Option, Some, None, slice_get, refl, sym, ap, ◌∙◌, subst, arith}
use Rattle.std.specs.Prelude.{option_map, ◌↔◌}
use Rattle.std.specs.List.{count_by, find}
use Rattle.std.proofs.lemmas.Option.{same_Some}
use Rattle.pol_cursor.specs.References.{Placed}
use Rattle.pol_symtab.specs.SymbolTables.{primary_name, rank_of, names_below, is_below, declares}
use Rattle.pol_symtab.proofs.ByteOrder.{below_trans, below_or_same, not_below_itself}
use Rattle.pol_symtab.proofs.Ranks.{count-cons}

-- what passes one test passes the other, and one more item does
fewer-go : (p q : Bool) → (p ≡ true → q ≡ true) → ◌≤◌ (cond p 1 0) (cond q 1 0)
fewer-go true q h = let e : ◌≡◌ {A = ℕ} (cond q 1 0) 1 = ap (λ (b : Bool). cond b 1 0) (h refl) in omega (arith, e)
fewer-go false q h = omega arith

fewer : {X : Type 0} (p q : X → Bool) → ((x : X) → p x ≡ true → q x ≡ true) → (xs : List X) → count_by p xs ≤ count_by q xs
fewer p q h [] = omega arith
fewer p q h (x ∷ xs) = omega (arith, count-cons p x xs, count-cons q x xs, fewer-go (p x) (q x) (h x), fewer p q h xs)

strictly_fewer : {X : Type 0} (p q : X → Bool) → ((x : X) → p x ≡ true → q x ≡ true) → (xs : List X) (i : ℕ) (x : X) → slice_get xs i ≡ Some x → p x ≡ false → q x ≡ true → count_by p xs < count_by q xs
strictly_fewer p q h [] i x at fails passes = absurd cc
strictly_fewer p q h (y ∷ xs) zero x at fails passes =
    let same = same_Some y x at in
    let none : ◌≡◌ {A = ℕ} (cond (p y) 1 0) 0 = ap (λ (b : Bool). cond b 1 0) (ap p same ∙ fails) in
    let one : ◌≡◌ {A = ℕ} (cond (q y) 1 0) 1 = ap (λ (b : Bool). cond b 1 0) (ap q same ∙ passes) in
    omega (arith, count-cons p y xs, count-cons q y xs, none, one, fewer p q h xs)
strictly_fewer p q h (y ∷ xs) (suc i) x at fails passes =
    omega (arith, count-cons p y xs, count-cons q y xs, fewer-go (p y) (q y) (h y), strictly_fewer p q h xs i x at fails passes)

found-go : {X : Type 0} (p : X → Bool) (x y : X) (xs : List X) → (find p xs ≡ Some y → (i : ℕ) × (slice_get xs i ≡ Some y) × (p y ≡ true)) → (b : Bool) → p x ≡ b → cond b (Some x) (find p xs) ≡ Some y → (i : ℕ) × (slice_get (x ∷ xs) i ≡ Some y) × (p y ≡ true)
found-go p x y xs rest true e h = (0, h, subst (λ z. p z ≡ true) (same_Some x y h) e)
found-go p x y xs rest false e h = let r = rest h in (suc r.0, r.1, r.2)

found : {X : Type 0} (p : X → Bool) (xs : List X) (y : X) → find p xs ≡ Some y → (i : ℕ) × (slice_get xs i ≡ Some y) × (p y ≡ true)
found p [] y h = absurd cc
found p (x ∷ xs) y h = found-go p x y xs (found p xs y) (p x) refl h

and-parts : (a b : Bool) → (a && b) ≡ true → (a ≡ true) × (b ≡ true)
and-parts true b e = (refl, e)
and-parts false b e = absurd cc

some-go : {X Y : Type 0} (f : X → Y) (o : Option X) (y : Y) → option_map f o ≡ Some y → (x : X) × (o ≡ Some x) × (f x ≡ y)
some-go f None y e = absurd cc
some-go f (Some x) y e = (x, refl, same_Some (f x) y e)

module _ {A : Type 0} (name_of : A → List ℕ) (is_primary : A → Bool) (value_of : A → ℕ) (records : List (Placed A)) where
  -- a declared name is that of a primary record
  declared : (value : ℕ) (name : List ℕ) → primary_name name_of is_primary value_of records value ≡ Some name → (i : ℕ) × (r : Placed A) × (slice_get records i ≡ Some r) × (is_primary r.value ≡ true) × (name_of r.value ≡ name)
  unfolding primary_name
  declared value name e =
      let s = some-go (λ (r : Placed A). name_of r.value) (find (declares is_primary value_of value) records) name e in
      let f = found (declares is_primary value_of value) records s.0 s.1 in
      (f.0, s.0, f.1, (and-parts (is_primary s.0.value) _ f.2).0, s.2)

  more_below : (a : ℕ) (x y : List ℕ) → primary_name name_of is_primary value_of records a ≡ Some x → is_below x y ≡ true → names_below name_of is_primary records x < names_below name_of is_primary records y
  more_below a x y is below =
      let d = declared a x is in
      strictly_fewer (λ (r : Placed A). is_primary r.value && is_below (name_of r.value) x) (λ (r : Placed A). is_primary r.value && is_below (name_of r.value) y)
      (λ r h. let p = and-parts (is_primary r.value) (is_below (name_of r.value) x) h in rw (p.0, below_trans (name_of r.value) x y p.1 below) refl)
      records d.0 d.1 d.2 (rw (d.3, d.4, not_below_itself x) refl) (rw (d.3, d.4, below) refl)

  rank_is_below : (value : ℕ) (name : List ℕ) (rank : ℕ) → primary_name name_of is_primary value_of records value ≡ Some name → rank_of name_of is_primary value_of records value ≡ Some rank → names_below name_of is_primary records name ≡ rank
  unfolding rank_of
  rank_is_below value name rank is at = same_Some (names_below name_of is_primary records name) rank (sym (ap (option_map (names_below name_of is_primary records)) is) ∙ at)

  order-go : (a b : ℕ) (x y : List ℕ) → primary_name name_of is_primary value_of records a ≡ Some x → primary_name name_of is_primary value_of records b ≡ Some y → (s t : Bool) → is_below x y ≡ s → is_below y x ≡ t → names_below name_of is_primary records x < names_below name_of is_primary records y → is_below x y ≡ true
  order-go a b x y is is' true t e f lt = e
  order-go a b x y is is' false true e f lt = absurd (omega (arith, lt, more_below b y x is' f))
  order-go a b x y is is' false false e f lt = absurd (omega (arith, lt, ap (names_below name_of is_primary records) (below_or_same x y e f)))

  pub ranks_order : (a b : ℕ) (x y : List ℕ) (m n : ℕ) → primary_name name_of is_primary value_of records a ≡ Some x → primary_name name_of is_primary value_of records b ≡ Some y
      → rank_of name_of is_primary value_of records a ≡ Some m → rank_of name_of is_primary value_of records b ≡ Some n → (m < n) ↔ (is_below x y ≡ true)
  ranks_order a b x y m n is is' at at' =
      let p = rank_is_below a x m is at in
      let q = rank_is_below b y n is' at' in
      ((λ lt. order-go a b x y is is' (is_below x y) (is_below y x) refl refl (omega (arith, lt, p, q))), (λ below. omega (arith, p, q, more_below a x y is below)))
