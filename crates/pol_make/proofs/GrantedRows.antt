-- The rows of the type map of a policy that is made are read.
use Rattle.std.proofs.Common.{◌≡◌, ℕ, ◌+◌, ◌^◌, ◌<◌, ◌≤◌, Some, List, [], ◌∷◌, length, refl, subst, arith}
use Rattle.std.specs.Prelude.{map}
use Rattle.std.specs.List.{flat_map, range_with_len, AllByRecursion}
use Rattle.std.proofs.Math.Nat.{mod-lt}
use Rattle.std.proofs.lemmas.List.{length-append}
use Rattle.std.proofs.lemmas.List.FromFn.{length-map-range_with_len}
use Rattle.pol_cursor.specs.Contexts.{records_after}
use Rattle.pol_bitmap.specs.declared.Node.{Node}
use Rattle.pol_bitmap.specs.Bitmap.{bitmap_at, spell_bitmap}
use Rattle.pol_file.specs.TypeRows.{type_rows_at}
use Rattle.set_nodes.specs.SetNodes.{set_of}
use Rattle.pol_make.specs.MadeSymbols.{attribute_count}
use Rattle.pol_make.specs.MadeRules.{attribute_of, type_row, attribute_row, made_rows}
use Rattle.pol_moved.proofs.Granted.{GrantsOf, EachUnder}
use Rattle.pol_make.proofs.GrantedTables.{GrantsValues, grants-rows}
use Rattle.pol_moved.proofs.GrantedSets.{AreBits, set-granted-below}
use Rattle.pol_moved.proofs.ListFacts.{all-append, all-map, all-range}

-- a set of one bit or two below a limit
pub record IsRow (limit : ℕ) (row : List Node) : Type 0 where
  pub bits : List ℕ
  pub are : AreBits limit bits
  pub few : length bits ≤ 2
  pub is : row ≡ set_of bits

type-row : (n i : ℕ) → 20 ≤ n → n ≤ 5000 → i < n → IsRow (n + attribute_count n) (type_row n i)
type-row n i many most within =
    let some : 0 < attribute_count n = omega (arith, many) in
    let attribute : attribute_of n i < attribute_count n = mod-lt i some in
    record {
      bits = i ∷ (n + attribute_of n i) ∷ [];
      are = record { small = omega (arith, most); rise = (omega arith, (omega (arith, within), tt)); below = (omega (arith, within), (omega (arith, attribute), tt)) };
      few = omega arith;
      is = refl;
    }

attribute-row : (limit bit : ℕ) → limit ≤ 2 ^ 31 → bit < limit → IsRow limit (attribute_row bit)
attribute-row limit bit small within = record {
  bits = bit ∷ [];
  are = record { small = small; rise = (omega arith, tt); below = (within, tt) };
  few = omega arith;
  is = refl;
}

pub rows-made : (n : ℕ) → 20 ≤ n → n ≤ 5000 → AllByRecursion (IsRow (n + attribute_count n)) (made_rows n)
unfolding made_rows
rows-made n many most =
    let limit = n + attribute_count n in
    let attributes = range_with_len n (attribute_count n) in
    let small : limit ≤ 2 ^ 31 = omega (arith, most) in
    all-append (IsRow limit) (map (type_row n) (range_with_len 0 n)) (map attribute_row attributes)
    (all-map (IsRow limit) (type_row n) (range_with_len 0 n) (all-range (λ i. IsRow limit (type_row n i)) 0 n (λ i above below. type-row n i many most (omega (arith, below)))))
    (all-map (IsRow limit) attribute_row attributes (all-range (λ bit. IsRow limit (attribute_row bit)) n (attribute_count n) (λ bit above below. attribute-row limit bit small below)))

-- one for each type and each attribute
pub length-made_rows : (n : ℕ) → length (made_rows n) ≡ n + attribute_count n
unfolding made_rows
length-made_rows n =
    omega (arith, length-append (map (type_row n) (range_with_len 0 n)) (map attribute_row (range_with_len n (attribute_count n))), length-map-range_with_len (type_row n) 0 n, length-map-range_with_len attribute_row n (attribute_count n))

-- ---- they are read

row-granted : (limit : ℕ) (row : List Node) → IsRow limit row → GrantsOf (bitmap_at (Some limit)) row (spell_bitmap row)
row-granted limit row h = rw h.is (set-granted-below h.are)

-- each is read under the same limit
rows-stand : (limit : ℕ) (rows : List (List Node)) → AllByRecursion (IsRow limit) rows → EachUnder (λ left nprim row. IsRow nprim row) (λ nprim row. nprim) limit rows
rows-stand limit [] h = tt
rows-stand limit (row ∷ rows) h = (h.0, rows-stand limit rows h.1)

pub type_rows-granted : (n : ℕ) → 20 ≤ n → n ≤ 5000 → GrantsValues (type_rows_at (n + attribute_count n)) (made_rows n) (flat_map spell_bitmap (made_rows n))
unfolding type_rows_at
type_rows-granted n many most =
    let limit = n + attribute_count n in
    subst (λ (k : ℕ). GrantsValues (records_after (λ nprim. bitmap_at (Some nprim)) (λ nprim row. nprim) k limit) (made_rows n) (flat_map spell_bitmap (made_rows n))) (length-made_rows n)
    (grants-rows (λ nprim. bitmap_at (Some nprim)) (λ nprim row. nprim) spell_bitmap (λ left nprim row. IsRow nprim row) (λ left nprim row is. row-granted nprim row is) (made_rows n) limit (rows-stand limit (made_rows n) (rows-made n many most)))
