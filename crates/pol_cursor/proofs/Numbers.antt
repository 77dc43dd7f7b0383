-- A number that is read from bytes is spelled by them, and what spells a number is read as it.
use Rattle.std.proofs.Common.{◌≡◌, ℕ, zero, suc, ◌+◌, ◌*◌, ◌/◌, ◌%◌, ◌^◌, ◌<◌, ◌≤◌, List, [], ◌∷◌, ◌++◌, length, take, drop, refl, sym, ap, arith}
use Rattle.std.proofs.Math.Nat.{div-div-eq-div-mul, pow-succ'}
use Rattle.std.specs.Int.{bytes_low_first, byte_at}
use Rattle.std.proofs.lemmas.List.{drop_at, length-drop, get_or-drop}
use Rattle.byteorder.specs.Endian.{little_from}
use Rattle.byteorder.specs.Numbers.{little_from-lt, little_from-cons, little_number-reads_back, length-bytes_low_first}
use Rattle.pol_cursor.specs.Parts.{num}
use Rattle.pol_cursor.specs.Spelling.{bytes_of, AreBytes}

pub AreBytes-drop : (n : ℕ) (bytes : List ℕ) → AreBytes bytes → AreBytes (drop n bytes)
AreBytes-drop n bytes h i = rw get_or-drop (h (n + i))

pub length-bytes_of : (w n : ℕ) → length (bytes_of w n) ≡ w
unfolding bytes_of
length-bytes_of w n = length-bytes_low_first 0 w n

pub num-lt : (bytes : List ℕ) (place w : ℕ) → AreBytes bytes → num bytes place w < 256 ^ w
unfolding num
num-lt bytes place w h = little_from-lt 0 w (drop place bytes) (AreBytes-drop place bytes h)

-- the number in what spells it
pub num-bytes_of : (before : List ℕ) (w n : ℕ) (rest : List ℕ) → n < 256 ^ w → num (before ++ (bytes_of w n ++ rest)) (length before) w ≡ n
unfolding num bytes_of
num-bytes_of before w n rest h = rw (drop_at before (bytes_low_first 0 w n ++ rest) (length before) refl) (little_number-reads_back w n rest h)

byte_at-suc : (j n : ℕ) → byte_at (suc j) n ≡ byte_at j (n / 256)
byte_at-suc zero n = refl
byte_at-suc (suc j) n = rw pow-succ' (ap (λ (x : ℕ). x % 256) (sym (div-div-eq-div-mul n 256 (256 ^ suc j))))

-- the bytes above the lowest one
bytes_low_first-suc : (j k n : ℕ) → bytes_low_first (suc j) k n ≡ bytes_low_first j k (n / 256)
bytes_low_first-suc j zero n = refl
bytes_low_first-suc j (suc k) n = rw (byte_at-suc j n, bytes_low_first-suc (suc j) k n) refl

AreBytes-tail : (x : ℕ) (xs : List ℕ) → AreBytes (x ∷ xs) → AreBytes xs
AreBytes-tail x xs h i = h (suc i)

bytes_low_first-little_from : (w : ℕ) (xs : List ℕ) → AreBytes xs → w ≤ length xs → bytes_low_first 0 w (little_from 0 w xs) ≡ take w xs
bytes_low_first-little_from zero xs h le = refl
bytes_low_first-little_from (suc w) [] h le = absurd (omega arith)
bytes_low_first-little_from (suc w) (x ∷ xs) h le =
    let m = little_from 0 w xs in
    let low : (x + 256 * m) % 256 ≡ x = omega (arith, h 0) in
    let high : (x + 256 * m) / 256 ≡ m = omega (arith, h 0) in
    let others = bytes_low_first-little_from w xs (AreBytes-tail x xs h) (omega arith) in
    rw (little_from-cons 0 w x xs, low, bytes_low_first-suc 0 w (x + 256 * m), high, others) refl

-- what spells the number that was read
pub bytes_of-num : (bytes : List ℕ) (place w : ℕ) → AreBytes bytes → place + w ≤ length bytes → bytes_of w (num bytes place w) ≡ take w (drop place bytes)
unfolding num bytes_of
bytes_of-num bytes place w h le = bytes_low_first-little_from w (drop place bytes) (AreBytes-drop place bytes h) (omega (arith, length-drop place bytes))

bytes_low_first-take : (j k w n : ℕ) → w ≤ k → take w (bytes_low_first j k n) ≡ bytes_low_first j w n
bytes_low_first-take j k zero n le = refl
bytes_low_first-take j zero (suc w) n le = absurd (omega arith)
bytes_low_first-take j (suc k) (suc w) n le = ap (λ (bytes : List ℕ). byte_at j n ∷ bytes) (bytes_low_first-take (suc j) k w n (omega arith))

-- the lowest bytes of a number are the first of its eight
pub first_bytes : (w n : ℕ) → w ≤ 8 → take w (bytes_low_first 0 8 n) ≡ bytes_of w n
unfolding bytes_of
first_bytes w n le = bytes_low_first-take 0 8 w n le
