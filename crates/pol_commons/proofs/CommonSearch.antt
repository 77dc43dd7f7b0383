-- The common of a name, by its place in the table.
use Rattle.std.proofs.Common.{◌≡◌, ℕ, ◌<◌, List, Some, None, length, slice_get, ◌∙◌}
use Rattle.pol_cursor.specs.References.{Placed}
use Rattle.pol_symtab.proofs.Searches.{found_at, nothing_found}
use Rattle.pol_symtab.specs.SymbolTables.{Table, index_named, has_the_name}
use Rattle.pol_commons.specs.declared.common_rec.CommonRec.{CommonRec}
use Rattle.pol_commons.specs.CommonTable.{common_named}

module _ (commons : Table CommonRec) (name : List ℕ) where
  pub common_within : (i : ℕ) → index_named (λ common. common.name) commons.records name ≡ Some i → i < length commons.records
  unfolding index_named
  common_within i e = (found_at (has_the_name (λ common. common.name) name) commons.records i e).0

  pub common_at_index : (i : ℕ) (r : Placed CommonRec) → index_named (λ common. common.name) commons.records name ≡ Some i → slice_get commons.records i ≡ Some r → common_named commons name ≡ Some r
  unfolding index_named
  common_at_index i r e at = (found_at (has_the_name (λ common. common.name) name) commons.records i e).1 ∙ at

  pub no_common : index_named (λ common. common.name) commons.records name ≡ None → common_named commons name ≡ None
  unfolding index_named
  no_common e = nothing_found (has_the_name (λ common. common.name) name) commons.records e
