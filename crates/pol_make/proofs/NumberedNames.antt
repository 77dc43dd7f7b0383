-- Names with decimal numbers: of different numbers they are different, and all their bytes are those of names.
use Rattle.std.proofs.Common.{◌≡◌, ℕ, ◌+◌, ◌%◌, ◌^◌, ◌<◌, ◌≤◌, true, false, List, [], ◌∷◌, ◌++◌, length, refl, ◌∙◌, arith}
use Rattle.std.specs.Prelude.{decimal, codes, nat_le}
use Rattle.std.specs.List.{list_all}
use Rattle.std.specs.Str.{bytes_eq}
use Rattle.std.proofs.lemmas.Bool.{false_from_ne_true, and_from, le-leb}
use Rattle.std.proofs.lemmas.Fmt.{decimal_by_steps, decimal_injective, length-decimal-le, decimal_nonempty}
use Rattle.std.proofs.lemmas.List.{append_cancel_left, append_cancel_right, append-nil, length-append}
use Rattle.std.proofs.lemmas.List.Folds.{list_all-append}
use Rattle.std.proofs.lemmas.Slice.Eq.{bytes_eq-Decides}
use Rattle.pol_symtab.specs.SymbolFields.{is_name_byte}
use Rattle.pol_make.specs.MadeSymbols.{type_name, attribute_name, category_name}

-- ---- names that differ

names-apart : (a b : List ℕ) → (a ≡ b → ⊥) → bytes_eq a b ≡ false
names-apart a b differ = false_from_ne_true (bytes_eq a b) (λ same. differ ((bytes_eq-Decides a b).0 same))

numbers-apart : (m n : ℕ) → m < 2 ^ 64 → n < 2 ^ 64 → (m ≡ n → ⊥) → decimal m ≡ decimal n → ⊥
numbers-apart m n small-m small-n other e = other (decimal_injective m n small-m small-n e)

pub types-apart : (m n : ℕ) → m < 2 ^ 64 → n < 2 ^ 64 → (m ≡ n → ⊥) → bytes_eq (type_name m) (type_name n) ≡ false
types-apart m n small-m small-n other =
    names-apart (type_name m) (type_name n) (λ e.
    numbers-apart m n small-m small-n other (append_cancel_left (codes "t") (decimal m) (decimal n) (append_cancel_right (codes "t" ++ decimal m) (codes "t" ++ decimal n) (codes "_t") e)))

pub attributes-apart : (m n : ℕ) → m < 2 ^ 64 → n < 2 ^ 64 → (m ≡ n → ⊥) → bytes_eq (attribute_name m) (attribute_name n) ≡ false
attributes-apart m n small-m small-n other = names-apart (attribute_name m) (attribute_name n) (λ e. numbers-apart m n small-m small-n other (append_cancel_left (codes "a") (decimal m) (decimal n) e))

pub categories-apart : (m n : ℕ) → m < 2 ^ 64 → n < 2 ^ 64 → (m ≡ n → ⊥) → bytes_eq (category_name m) (category_name n) ≡ false
categories-apart m n small-m small-n other = names-apart (category_name m) (category_name n) (λ e. numbers-apart m n small-m small-n other (append_cancel_left (codes "c") (decimal m) (decimal n) e))

-- The first byte tells an attribute's name from a type's.
pub attribute-no_type : (m n : ℕ) → bytes_eq (attribute_name m) (type_name n) ≡ false
attribute-no_type m n = refl

-- ---- their bytes

digit-byte : (d : ℕ) → d < 10 → is_name_byte (48 + d) ≡ true
digit-byte d lt = and_from (nat_le 0x21 (48 + d)) (nat_le (48 + d) 0x7E) (le-leb 0x21 (48 + d) (omega arith)) (le-leb (48 + d) 0x7E (omega arith))

one-digit : (d : ℕ) → d < 10 → list_all is_name_byte ((48 + d) ∷ []) ≡ true
one-digit d lt = and_from (is_name_byte (48 + d)) true (digit-byte d lt) refl

both-bytes : (a b : List ℕ) → list_all is_name_byte a ≡ true → list_all is_name_byte b ≡ true → list_all is_name_byte (a ++ b) ≡ true
both-bytes a b h k = list_all-append is_name_byte a b ∙ and_from (list_all is_name_byte a) (list_all is_name_byte b) h k

pub decimal-bytes : (n : ℕ) → n < 2 ^ 64 → list_all is_name_byte (decimal n) ≡ true
decimal-bytes n small =
    decimal_by_steps (λ n ds. list_all is_name_byte ds ≡ true)
    (λ n lt. one-digit n lt)
    (λ n ds le before. both-bytes ds ((48 + n % 10) ∷ []) before (one-digit (n % 10) (omega arith)))
    n small

-- ---- a word, a number and an ending

-- a name by its parts, each of name bytes, which is not too long
pub record IsName (name : List ℕ) : Type 0 where
  pub some : 1 ≤ length name
  pub short : length name < 2 ^ 32
  pub bytes : list_all is_name_byte name ≡ true

numbered-name : (word ending : List ℕ) (n : ℕ) → n < 10 ^ 5 → length word ≤ 100 → length ending ≤ 100 → list_all is_name_byte word ≡ true → list_all is_name_byte ending ≡ true → IsName (word ++ decimal n ++ ending)
numbered-name word ending n few short-word short-ending word-bytes ending-bytes =
    let small : n < 2 ^ 64 = omega arith in
    let digits : length (decimal n) ≤ 5 = length-decimal-le 5 n (omega arith) few small in
    let one : 0 < length (decimal n) = decimal_nonempty n small in
    let long : length (word ++ decimal n ++ ending) ≡ length word + length (decimal n) + length ending = omega (arith, length-append (word ++ decimal n) ending, length-append word (decimal n)) in
    record {
      some = omega arith;
      short = omega arith;
      bytes = both-bytes (word ++ decimal n) ending (both-bytes word (decimal n) word-bytes (decimal-bytes n small)) ending-bytes;
    }

pub type-is_name : (n : ℕ) → n < 10 ^ 5 → IsName (type_name n)
type-is_name n few = numbered-name (codes "t") (codes "_t") n few (omega arith) (omega arith) refl refl

pub attribute-is_name : (n : ℕ) → n < 10 ^ 5 → IsName (attribute_name n)
attribute-is_name n few = let whole = numbered-name (codes "a") [] n few (omega arith) (omega arith) refl refl in rw append-nil at whole

pub category-is_name : (n : ℕ) → n < 10 ^ 5 → IsName (category_name n)
category-is_name n few = let whole = numbered-name (codes "c") [] n few (omega arith) (omega arith) refl refl in rw append-nil at whole
