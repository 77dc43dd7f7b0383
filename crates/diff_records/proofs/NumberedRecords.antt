-- The entries of records, by their numbers.
use Rattle.std.proofs.Common.{◌≡◌, ℕ, ◌<◌, List, map, length, get_or, sym, ap, ◌∙◌, arith}
use Rattle.std.proofs.lemmas.List.{get_or-map, length-map}
use Rattle.diff_entries.specs.Entries.{Entry, entry_at}

module _ {A : Type 0} (f : A → Entry) (records : List A) (i : ℕ) (x : A) (at : x ≡ get_or records i x) (within : i < length (map f records)) where
  entry_of_record : entry_at (map f records) i ≡ f x
  entry_of_record = get_or-map f records i x _ (omega (arith, within, length-map records f)) ∙ ap f (sym at)

  pub key_at : (entry_at (map f records) i).key ≡ (f x).key
  key_at = ap (λ (entry : Entry). entry.key) entry_of_record

  pub parts_at : (entry_at (map f records) i).parts ≡ (f x).parts
  parts_at = ap (λ (entry : Entry). entry.parts) entry_of_record

  pub statement_at : (entry_at (map f records) i).statement ≡ (f x).statement
  statement_at = ap (λ (entry : Entry). entry.statement) entry_of_record

  pub head_at : (entry_at (map f records) i).head ≡ (f x).head
  head_at = ap (λ (entry : Entry). entry.head) entry_of_record
