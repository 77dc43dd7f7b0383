-- The entries of names, by their numbers.
use Rattle.std.proofs.Common.{◌≡◌, ℕ, ◌<◌, List, map, length, get_or, sym, ap, ◌∙◌, arith}
use Rattle.std.proofs.lemmas.List.{get_or-map, length-map}
use Rattle.diff_entries.specs.Entries.{Entry, entry_at}

module _ (f : List ℕ → Entry) (names : List (List ℕ)) (i : ℕ) (name : List ℕ) (at : name ≡ get_or names i name) (within : i < length (map f names)) where
  entry_of_name : entry_at (map f names) i ≡ f name
  entry_of_name = get_or-map f names i name _ (omega (arith, within, length-map names f)) ∙ ap f (sym at)

  pub key_at : (entry_at (map f names) i).key ≡ (f name).key
  key_at = ap (λ (entry : Entry). entry.key) entry_of_name

  pub parts_at : (entry_at (map f names) i).parts ≡ (f name).parts
  parts_at = ap (λ (entry : Entry). entry.parts) entry_of_name

  pub statement_at : (entry_at (map f names) i).statement ≡ (f name).statement
  statement_at = ap (λ (entry : Entry). entry.statement) entry_of_name

  pub head_at : (entry_at (map f names) i).head ≡ (f name).head
  head_at = ap (λ (entry : Entry). entry.head) entry_of_name
