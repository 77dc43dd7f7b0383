-- Permissions by their bits and by their names.
use Rattle.std.proofs.Common.{◌≡◌, ◌≢◌, ℕ, ◌-◌, ◌*◌, ◌^◌, Bool, true, false, cond, List, [], ◌∷◌, map, refl, sym, ap, ◌∙◌, arith}
use Rattle.std.specs.Prelude.{◌||◌, ◌&&◌, not, ◌==◌, bit_and, bit_or}
use Rattle.std.specs.Int.{bit_at}
use Rattle.std.specs.Str.{bytes_eq}
use Rattle.std.specs.List.{filter, list_any, list_all}
use Rattle.std.proofs.lemmas.Bool.{eqb-true, eqb-false}
use Rattle.std.proofs.Math.Nat.{zero-mul}
use Rattle.std.proofs.lemmas.Nat.{and_comm, and_le_l, and_or_apart}
use Rattle.std.proofs.lemmas.Nat.Bits.{and_pow, bit_at_and, bit_at_or, bit_at-pow_same, bit_at-zero, bit_at-lt}
use Rattle.pol_commons.specs.declared.PermissionRec.{PermissionRec}
use Rattle.pol_commons.specs.Permissions.{bit_of, has_permission}
use Rattle.rule_criteria.specs.declared.Mode.{Mode}
use Rattle.rule_criteria.specs.declared.Mode.TheVariants.{Plain, Direct, Pattern, PatternDirect, Equal, Subset}
use Rattle.rule_tests.specs.declared.class_bits.ClassBits.{ClassBits}
use Rattle.rule_tests.specs.AskedPermissions.{compare_names, is_one_of}
use Rattle.rule_tests.specs.PartTests.{shares_bit, bits_behind, bits_named, bits_of_others, IsClassBits, meets_bits}

-- ---- one bit

zero_test : (n : ℕ) → n ≡ 0 → not (n == 0) ≡ false
zero_test n e = rw e refl

other_test : (n : ℕ) → n ≢ 0 → (b : Bool) → (n == 0) ≡ b → not b ≡ true
other_test n h true e = absurd (h (eqb-true n 0 e))
other_test n h false e = refl

clear : (k mask : ℕ) → (bit_at mask k == 1) ≡ false → bit_and (2 ^ k) mask ≡ 0
clear k mask e =
    let below = bit_at-lt mask k in
    let other = eqb-false (bit_at mask k) 1 e in
    let none : bit_at mask k ≡ 0 = omega (arith, below, other) in
    and_comm (2 ^ k) mask ∙ and_pow mask k ∙ ap (λ (b : ℕ). b * 2 ^ k) none ∙ zero-mul (2 ^ k)

set_there : (a k mask : ℕ) → (bit_at mask k == 1) ≡ true → bit_and (bit_or a (2 ^ k)) mask ≢ 0
set_there a k mask e none =
    let one = eqb-true (bit_at mask k) 1 e in
    let same = bit_at-pow_same k in
    let joined = bit_at_or a (2 ^ k) k in
    let both = bit_at_and (bit_or a (2 ^ k)) mask k in
    let gone = ap (λ (n : ℕ). bit_at n k) none ∙ bit_at-zero k in
    let most = bit_at-lt a k in
    omega (arith, one, same, joined, both, gone, most)

one_bit : (mask a k : ℕ) (b : Bool) → (bit_at mask k == 1) ≡ b → shares_bit mask (bit_or a (2 ^ k)) ≡ (shares_bit mask a || b)
one_bit mask a k true e = other_test (bit_and (bit_or a (2 ^ k)) mask) (set_there a k mask e) (bit_and (bit_or a (2 ^ k)) mask == 0) refl ∙ sym (or_true (shares_bit mask a))
  where
    or_true : (c : Bool) → (c || true) ≡ true
    or_true true = refl
    or_true false = refl
one_bit mask a k false e = ap (λ (n : ℕ). not (n == 0)) (and_or_apart mask a (2 ^ k) (clear k mask e)) ∙ sym (or_false (shares_bit mask a))
  where
    or_false : (c : Bool) → (c || false) ≡ c
    or_false true = refl
    or_false false = refl

or_assoc : (a b c : Bool) → ((a || b) || c) ≡ (a || (b || c))
or_assoc true b c = refl
or_assoc false b c = refl

-- ---- the bits of permissions

behind : (mask a : ℕ) (ps : List PermissionRec) → shares_bit mask (bits_behind a ps) ≡ (shares_bit mask a || list_any (has_permission mask) ps)
behind mask a [] = sym (or_false (shares_bit mask a))
  where
    or_false : (c : Bool) → (c || false) ≡ c
    or_false true = refl
    or_false false = refl
behind mask a (p ∷ ps) =
    behind mask (bit_or a (bit_of p)) ps
    ∙ ap (λ (b : Bool). b || list_any (has_permission mask) ps) (one_bit mask a (p.value - 1) (has_permission mask p) refl)
    ∙ or_assoc (shares_bit mask a) (has_permission mask p) (list_any (has_permission mask) ps)

no_bits : (mask : ℕ) → shares_bit mask 0 ≡ false
no_bits mask = zero_test (bit_and 0 mask) (let h = and_le_l 0 mask in omega (arith, h))

pub shares_any : (mask : ℕ) (ps : List PermissionRec) → shares_bit mask (bits_behind 0 ps) ≡ list_any (has_permission mask) ps
shares_any mask ps = behind mask 0 ps ∙ ap (λ (b : Bool). b || list_any (has_permission mask) ps) (no_bits mask)

-- the permissions that pass a test, and the permissions of a mask
cross : (p q : Bool) (x : PermissionRec) (mask : ℕ) (test : PermissionRec → Bool) (xs : List PermissionRec) → (test x ≡ p) → (has_permission mask x ≡ q)
    → list_any (has_permission mask) (filter test xs) ≡ list_any test (filter (has_permission mask) xs)
    → list_any (has_permission mask) (cond p (x ∷ filter test xs) (filter test xs)) ≡ list_any test (cond q (x ∷ filter (has_permission mask) xs) (filter (has_permission mask) xs))
cross true true x mask test xs e f later = rw (e, f) refl
cross true false x mask test xs e f later = rw f later
cross false true x mask test xs e f later = rw e later
cross false false x mask test xs e f later = later

pub exchanged : (mask : ℕ) (test : PermissionRec → Bool) (xs : List PermissionRec) → list_any (has_permission mask) (filter test xs) ≡ list_any test (filter (has_permission mask) xs)
exchanged mask test [] = refl
exchanged mask test (x ∷ xs) = cross (test x) (has_permission mask x) x mask test xs refl refl (exchanged mask test xs)

any_map : {X Y : Type 0} (p : Y → Bool) (f : X → Y) (xs : List X) → list_any p (map f xs) ≡ list_any (λ x. p (f x)) xs
any_map p f [] = refl
any_map p f (x ∷ xs) = ap (λ (b : Bool). p (f x) || b) (any_map p f xs)

all_map : {X Y : Type 0} (p : Y → Bool) (f : X → Y) (xs : List X) → list_all p (map f xs) ≡ list_all (λ x. p (f x)) xs
all_map p f [] = refl
all_map p f (x ∷ xs) = ap (λ (b : Bool). p (f x) && b) (all_map p f xs)

any_same : {X : Type 0} (p q : X → Bool) → ((x : X) → p x ≡ q x) → (xs : List X) → list_any p xs ≡ list_any q xs
any_same p q h [] = refl
any_same p q h (x ∷ xs) = rw (h x, any_same p q h xs) refl

all_same : {X : Type 0} (p q : X → Bool) → ((x : X) → p x ≡ q x) → (xs : List X) → list_all p xs ≡ list_all q xs
all_same p q h [] = refl
all_same p q h (x ∷ xs) = rw (h x, all_same p q h xs) refl

pub de_morgan : {X : Type 0} (p : X → Bool) (xs : List X) → not (list_any (λ x. not (p x)) xs) ≡ list_all p xs
de_morgan p [] = refl
de_morgan p (x ∷ xs) = go (p x) (de_morgan p xs)
  where
    go : (b : Bool) → not (list_any (λ x. not (p x)) xs) ≡ list_all p xs → not (not b || list_any (λ x. not (p x)) xs) ≡ (b && list_all p xs)
    go true e = e
    go false e = refl

-- the names of the permissions of a mask
abbrev pub names_of : ℕ → List PermissionRec → List (List ℕ)
names_of mask ps = map (λ (p : PermissionRec). p.name) (filter (has_permission mask) ps)

-- a name is among them where the bits of its permissions are
pub name_there : (mask : ℕ) (ps : List PermissionRec) (name : List ℕ) → shares_bit mask (bits_named name ps) ≡ is_one_of (names_of mask ps) name
name_there mask ps name =
    shares_any mask (filter (λ (p : PermissionRec). bytes_eq name p.name) ps)
    ∙ exchanged mask (λ (p : PermissionRec). bytes_eq name p.name) ps
    ∙ sym (any_map (bytes_eq name) (λ (p : PermissionRec). p.name) (filter (has_permission mask) ps))

-- all names of the mask are among some where it has no bit of another
pub no_others : (mask : ℕ) (ps : List PermissionRec) (names : List (List ℕ)) → not (shares_bit mask (bits_of_others names ps)) ≡ list_all (is_one_of names) (names_of mask ps)
no_others mask ps names =
    ap not (shares_any mask (filter (λ (p : PermissionRec). not (is_one_of names p.name)) ps) ∙ exchanged mask (λ (p : PermissionRec). not (is_one_of names p.name)) ps)
    ∙ de_morgan (λ (p : PermissionRec). is_one_of names p.name) (filter (has_permission mask) ps)
    ∙ sym (all_map (is_one_of names) (λ (p : PermissionRec). p.name) (filter (has_permission mask) ps))

module _ (names : List (List ℕ)) (ps : List PermissionRec) (bits : ClassBits) (are : IsClassBits names ps bits) (mask : ℕ) where
  all_there : list_all (shares_bit mask) bits.named.items ≡ list_all (is_one_of (names_of mask ps)) names
  all_there = ap (list_all (shares_bit mask)) are.named ∙ all_map (shares_bit mask) (λ (name : List ℕ). bits_named name ps) names ∙ all_same (λ (name : List ℕ). shares_bit mask (bits_named name ps)) (is_one_of (names_of mask ps)) (name_there mask ps) names

  any_there : list_any (shares_bit mask) bits.named.items ≡ list_any (is_one_of (names_of mask ps)) names
  any_there = ap (list_any (shares_bit mask)) are.named ∙ any_map (shares_bit mask) (λ (name : List ℕ). bits_named name ps) names ∙ any_same (λ (name : List ℕ). shares_bit mask (bits_named name ps)) (is_one_of (names_of mask ps)) (name_there mask ps) names

  only_there : not (shares_bit mask bits.others) ≡ list_all (is_one_of names) (names_of mask ps)
  only_there = ap (λ (b : ℕ). not (shares_bit mask b)) are.others ∙ no_others mask ps names

  -- a mask compares with the names as its permissions do
  pub compared : (mode : Mode) → meets_bits mode bits mask ≡ compare_names mode names (names_of mask ps)
  compared Equal = rw (all_there, only_there) (swapped (list_all (is_one_of (names_of mask ps)) names) (list_all (is_one_of names) (names_of mask ps)))
    where
      swapped : (a b : Bool) → (a && b) ≡ (b && a)
      swapped true true = refl
      swapped true false = refl
      swapped false true = refl
      swapped false false = refl
  compared Subset = all_there
  compared Plain = any_there
  compared Direct = any_there
  compared Pattern = any_there
  compared PatternDirect = any_there
