use Rattle.std.proofs.Common.{◌≡◌, length}
use Rattle.std.specs.Prelude.{map}
use Rattle.pol_symtab.specs.Inner.TableIndex.{seen}
use Rattle.pol_symtab.proofs.Ranks.{primary_before, RankFirst}
use Rattle.pol_symtab.proofs.name_order.rank_names.Given as goal

abbrev pub invariant-loop-entry : goal.invariant-loop-entry
invariant-loop-entry l =
    (length l.ranks.items ≡ length (map seen l.entries))
    × (l.below ≡ primary_before l.entry-index (map seen l.entries))
    × RankFirst l.entry-index (map seen l.entries) l.ranks.items
