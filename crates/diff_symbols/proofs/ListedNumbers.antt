-- The numbers of records that are listed.
use Rattle.std.proofs.Common.{◌≡◌, ℕ, ◌<◌, List, map, length, get_or, subst, sym, arith}
use Rattle.std.specs.List.{All}
use Rattle.std.proofs.lemmas.List.{length-map}
use Rattle.std.proofs.lemmas.List.Elements.{All-get_or}
use Rattle.diff_entries.specs.Entries.{Entry}

module _ (f : ℕ → Entry) (numbers : List ℕ) where
  pub as_many : length (map f numbers) ≡ length numbers
  as_many = length-map numbers f

  -- each holds what all do
  pub each_is : (P : ℕ → Type 0) (i n : ℕ) → All P numbers → n ≡ get_or numbers i n → i < length (map f numbers) → P n
  each_is P i n all at within = subst P (sym at) (All-get_or P numbers i n (omega (arith, within, as_many)) all)
