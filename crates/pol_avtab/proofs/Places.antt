-- Parts of a buffer.
use Rattle.std.proofs.Common.{◌≡◌, ℕ, ◌+◌, ◌-◌, ◌≤◌, List, take, drop, get_or, ap, ◌∙◌, arith}
use Rattle.std.specs.Prelude.{slice_index}
use Rattle.std.proofs.lemmas.List.{drop-take, drop-drop, get_or-drop}
use Rattle.byteorder.specs.Endian.{little_number}
use Rattle.byteorder.specs.Numbers.{little_from-take}
use Rattle.pol_cursor.specs.Parts.{num}

-- a number of one byte
pub byte_is : (bytes : List ℕ) (place : ℕ) → num bytes place 1 ≡ get_or bytes place 0
unfolding num
byte_is bytes place =
    let here : get_or (drop place bytes) 0 0 ≡ get_or bytes place 0 = get_or-drop place bytes 0 0 ∙ ap (λ (i : ℕ). get_or bytes i 0) (omega arith) in
    let alone : slice_index (drop place bytes) 0 + 0 ≡ slice_index (drop place bytes) 0 = omega arith in
    alone ∙ here

-- a number in a part
pub num_part : (bytes : List ℕ) (place n i w : ℕ) → i + w ≤ n → num (take n (drop place bytes)) i w ≡ num bytes (place + i) w
unfolding num
num_part bytes place n i w le =
    let all : n ≡ i + (n - i) = omega arith in
    rw all (rw (drop-take i (n - i) (drop place bytes)) (little_from-take 0 w (n - i) (drop i (drop place bytes)) (omega arith) ∙ ap (little_number w) (drop-drop i place bytes)))
