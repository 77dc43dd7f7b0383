-- The least of some numbers.
use Rattle.std.proofs.Common.{◌≡◌, ◌∙◌, ◌≤◌, ◌++◌, ◌∷◌, [], ℕ, suc, List, Option, Some, None, length, min, refl, sym, ap, arith, inl, inr}
use Rattle.std.specs.Prelude.{Contains, MatchOption, flat_map}
use Rattle.std.specs.List.{All}
use Rattle.std.specs.Option.{option_to_list}
use Rattle.std.proofs.lemmas.List.Elements.{All-cons, All-head, All-nil, All-tail}
use Rattle.std.proofs.lemmas.Bool.{cases_lt}
use Rattle.se_status.specs.LeastWord.{least, least_number, least_of, numbers_of}

min-assoc : (a b c : ℕ) → min (min a b) c ≡ min a (min b c)
min-assoc a b c = omega arith

pub least-assoc : (a b c : Option ℕ) → least (least a b) c ≡ least a (least b c)
least-assoc None b c = refl
least-assoc (Some a) None c = refl
least-assoc (Some a) (Some b) None = refl
least-assoc (Some a) (Some b) (Some c) = ap Some (min-assoc a b c)

pub least-none : (a : Option ℕ) → least a None ≡ a
least-none None = refl
least-none (Some a) = refl

pub one-more : (word : Option ℕ) (numbers : List ℕ) → least_of (option_to_list word ++ numbers) ≡ least word (least_of numbers)
one-more None numbers = refl
one-more (Some word) numbers = refl

-- the least of a number and of those of a list, one of these after the other
pub least-next : {A : Type 0} (number : A → Option ℕ) (found : Option ℕ) (x : A) (xs : List A) → least found (least_number number (x ∷ xs)) ≡ least (least found (number x)) (least_number number xs)
least-next number found x xs = ap (least found) (one-more (number x) (numbers_of number xs)) ∙ sym (least-assoc found (number x) (least_number number xs))

-- one of some numbers, and none of them is less
abbrev IsLeastOf : List ℕ → ℕ → Type 0
IsLeastOf numbers least = Contains numbers least × All (λ number. least ≤ number) numbers

later : (n : ℕ) (ns : List ℕ) (x : ℕ) → Contains ns x → Contains (n ∷ ns) x
later n ns x (k, lt, is) = (suc k, omega (arith, lt), is)

lower : (a b : ℕ) (ns : List ℕ) → a ≤ b → All (λ number. b ≤ number) ns → All (λ number. a ≤ number) ns
lower a b [] le all = All-nil (λ number. a ≤ number)
lower a b (n ∷ ns) le all =
    let here = All-head (λ number. b ≤ number) n ns all in
    All-cons (λ number. a ≤ number) n ns (omega (arith, le, here)) (lower a b ns le (All-tail (λ number. b ≤ number) n ns all))

least_with : (n : ℕ) (ns : List ℕ) (found : Option ℕ) → MatchOption found (ns ≡ []) (IsLeastOf ns) → MatchOption (least (Some n) found) ((n ∷ ns) ≡ []) (IsLeastOf (n ∷ ns))
least_with n ns None none =
    let own : All (λ number. n ≤ number) (n ∷ []) = All-cons (λ number. n ≤ number) n [] (omega arith) (All-nil (λ number. n ≤ number)) in
    ((0, omega arith, refl), rw none own)
least_with n ns (Some m) (has, all) = elim (cases_lt n m) [
  | inl lt ↦
      let e : min n m ≡ n = omega (arith, lt) in
      rw e ((0, omega arith, refl), All-cons (λ number. n ≤ number) n ns (omega arith) (lower n m ns (omega (arith, lt)) all))
  | inr le ↦ let e : min n m ≡ m = omega (arith, le) in rw e (later n ns m has, All-cons (λ number. m ≤ number) n ns le all)
]

pub least_is : (numbers : List ℕ) → MatchOption (least_of numbers) (numbers ≡ []) (λ least. Contains numbers least × All (λ number. least ≤ number) numbers)
least_is [] = refl
least_is (n ∷ ns) = least_with n ns (least_of ns) (least_is ns)
