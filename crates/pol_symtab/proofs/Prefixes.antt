-- The prefixes of names: they do not fall where the names rise.
use Rattle.std.proofs.Common.{◌≡◌, ℕ, zero, suc, ◌<◌, ◌≤◌, ◌+◌, ◌*◌, ◌-◌, ◌^◌, Bool, true, false, List, [], ◌∷◌, ◌++◌, drop, get_or, ltb, refl, arith}
use Rattle.std.specs.declared.cmp.Ordering.{Ordering}
use Rattle.std.specs.declared.cmp.Ordering.TheVariants.{Less, Equal, Greater}
use Rattle.std.specs.Ordering.{MatchOrdering, is_lt, nat_cmp, ordering_then}
use Rattle.std.specs.Cmp.{ranks}
use Rattle.std.specs.Cmp.Lexicographic.{slice_cmp}
use Rattle.std.proofs.Math.ListN.{replicate}
use Rattle.std.proofs.Math.Nat.{mul-le-mul_right}
use Rattle.std.proofs.lemmas.Bool.{ltb-true, ltb-false}
use Rattle.std.proofs.lemmas.List.{drop-replicate, get_or-replicate, get_or_past, length-replicate}
use Rattle.byteorder.specs.Endian.{big_from}
use Rattle.byteorder.specs.Numbers.{big_from-cons, big_from-lt}
use Rattle.pol_cursor.specs.Spelling.{AreBytes}
use Rattle.pol_symtab.specs.SymbolTables.{is_below}
use Rattle.pol_symtab.specs.declared.name_order.Entry.{Entry}
use Rattle.pol_symtab.specs.Inner.NamePrefixes.{HasPrefix, prefix}

-- ---- zeros behind a name

big_from-nil : (i n : ℕ) → big_from i n [] ≡ 0
big_from-nil i zero = refl
big_from-nil i (suc n) = omega (arith, big_from-nil (suc i) n)

padded_at : (xs zs : List ℕ) (i : ℕ) → ((k : ℕ) → get_or zs k 0 ≡ 0) → get_or (xs ++ zs) i 0 ≡ get_or xs i 0
padded_at [] zs i h = h i
padded_at (x ∷ xs) zs zero h = refl
padded_at (x ∷ xs) zs (suc i) h = padded_at xs zs i h

padded : (i n : ℕ) (xs zs : List ℕ) → ((k : ℕ) → get_or zs k 0 ≡ 0) → big_from i n (xs ++ zs) ≡ big_from i n xs
padded i zero xs zs h = refl
padded i (suc n) xs zs h = rw (padded_at xs zs i h, padded (suc i) n xs zs h) refl

zero_at : (n k : ℕ) → ◌≡◌ {A = ℕ} (get_or (replicate n 0) k 0) 0
zero_at n k = go (ltb k n) refl
  where
    go : (t : Bool) → ltb k n ≡ t → ◌≡◌ {A = ℕ} (get_or (replicate n 0) k 0) 0
    go true e = get_or-replicate n k 0 0 (ltb-true k n e)
    go false e = get_or_past (replicate n 0) k 0 (omega (arith, length-replicate {A = ℕ} n 0, ltb-false k n e))

-- a name over the first of eight zeros
pub prefix_padded : (name : List ℕ) (n : ℕ) → big_from 0 8 (name ++ drop n (replicate 8 0)) ≡ prefix name
unfolding prefix
prefix_padded name n = padded 0 8 name (drop n (replicate 8 0)) (rw (drop-replicate {X = ℕ} n 8 0) (zero_at (8 - n)))

-- ---- the order

rises-go : (n y x : ℕ) (ys xs : List ℕ) → AreBytes (y ∷ ys) → (is_below ys xs ≡ true → big_from 0 n ys ≤ big_from 0 n xs)
    → (o : Ordering) → MatchOrdering o (y < x) (y ≡ x) (x < y) → is_lt (ordering_then o (slice_cmp nat_cmp ys xs)) ≡ true
    → y * 256 ^ n + big_from 0 n ys ≤ x * 256 ^ n + big_from 0 n xs
rises-go n y x ys xs bytes rest Less lt e =
    let small : big_from 0 n ys < 256 ^ n = big_from-lt 0 n ys (λ k. bytes (suc k)) in
    let step : (y + 1) * 256 ^ n ≤ x * 256 ^ n = mul-le-mul_right (256 ^ n) (omega (arith, lt)) in
    omega (arith, small, step)
rises-go n y x ys xs bytes rest Equal same e = rw same (omega (arith, rest e))
rises-go n y x ys xs bytes rest Greater gt e = absurd cc

rises : (n : ℕ) (b a : List ℕ) → AreBytes b → is_below b a ≡ true → big_from 0 n b ≤ big_from 0 n a
rises zero b a bytes e = omega arith
rises (suc n) [] a bytes e = rw (big_from-nil 0 (suc n)) (omega arith)
rises (suc n) (y ∷ ys) [] bytes e = absurd cc
rises (suc n) (y ∷ ys) (x ∷ xs) bytes e =
    rw (big_from-cons 0 n y ys, big_from-cons 0 n x xs) (rises-go n y x ys xs bytes (rises n ys xs (λ k. bytes (suc k))) (nat_cmp y x) (ranks y x) e)

-- a name that is below another has no greater prefix
pub prefix_rises : (b a : List ℕ) → AreBytes b → is_below b a ≡ true → prefix b ≤ prefix a
unfolding prefix
prefix_rises b a bytes e = rises 8 b a bytes e

-- ---- entries

first_not_less : (o p : Ordering) → is_lt (ordering_then o p) ≡ false → is_lt o ≡ false
first_not_less Less p e = e
first_not_less Equal p e = refl
first_not_less Greater p e = refl

not_both : (t : Bool) → t ≡ true → t ≡ false → ⊥
not_both t e f = cc (e, f)

-- of two entries whose prefixes and then names compare as not less, the first name is not below
pub name_not_below : (a b : Entry) (p : Ordering) → HasPrefix a → HasPrefix b → is_lt (ordering_then (nat_cmp a.prefix b.prefix) (ordering_then (slice_cmp nat_cmp a.name.now b.name.now) p)) ≡ false → is_below a.name.now b.name.now ≡ false
name_not_below a b p of-a of-b e = go (is_below a.name.now b.name.now) refl
  where
    by : a.prefix ≤ b.prefix → is_below a.name.now b.name.now ≡ true → (o : Ordering) → MatchOrdering o (a.prefix < b.prefix) (a.prefix ≡ b.prefix) (b.prefix < a.prefix)
        → is_lt (ordering_then o (ordering_then (slice_cmp nat_cmp a.name.now b.name.now) p)) ≡ false → ⊥
    by le below Less lt f = absurd cc
    by le below Equal same f = not_both (is_below a.name.now b.name.now) below (first_not_less (slice_cmp nat_cmp a.name.now b.name.now) p f)
    by le below Greater gt f = absurd (omega (arith, le, gt))

    go : (t : Bool) → is_below a.name.now b.name.now ≡ t → is_below a.name.now b.name.now ≡ false
    go false below = below
    go true below =
        let le : a.prefix ≤ b.prefix = omega (arith, of-a.same, of-b.same, prefix_rises a.name.now b.name.now of-a.bytes below) in
        absurd (by le below (nat_cmp a.prefix b.prefix) (ranks a.prefix b.prefix) e)
