-- The entries of numbers of records.
use Rattle.std.proofs.Common.{◌≡◌, ℕ, ◌<◌, List, map, length, get_or, sym, ap, ◌∙◌, arith}
use Rattle.std.proofs.lemmas.List.{get_or-map, length-map}
use Rattle.diff_entries.specs.declared.Part.{Part}
use Rattle.diff_entries.specs.Entries.{Entry, entry_at}

module _ (f : ℕ → Entry) (numbers : List ℕ) (i n : ℕ) (at : n ≡ get_or numbers i n) (within : i < length (map f numbers)) where
  entry_of_number : entry_at (map f numbers) i ≡ f n
  entry_of_number = get_or-map f numbers i n _ (omega (arith, within, length-map numbers f)) ∙ ap f (sym at)

  pub key_at : (entry_at (map f numbers) i).key ≡ (f n).key
  key_at = ap (λ (entry : Entry). entry.key) entry_of_number

  pub parts_at : (entry_at (map f numbers) i).parts ≡ (f n).parts
  parts_at = ap (λ (entry : Entry). entry.parts) entry_of_number

  pub statement_at : (entry_at (map f numbers) i).statement ≡ (f n).statement
  statement_at = ap (λ (entry : Entry). entry.statement) entry_of_number

  pub head_at : (entry_at (map f numbers) i).head ≡ (f n).head
  head_at = ap (λ (entry : Entry). entry.head) entry_of_number
