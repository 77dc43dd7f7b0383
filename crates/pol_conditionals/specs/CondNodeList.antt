-- Record 18: the list of conditional nodes (libsepol's cond_read_list).
use Rattle.std.specs.Prelude.{ℕ, List}
use Rattle.pol_fields.specs.declared.fields.TheConstants.{CONDLIST_COUNT}
use Rattle.pol_cursor.specs.Outcome.{Reader}
use Rattle.pol_cursor.specs.Parts.{counted, records_at, spell_counted, CountedFits}
use Rattle.pol_cursor.specs.References.{Placed, placed}
use Rattle.pol_conditionals.specs.declared.condnode_rec.CondNodeRec.{CondNodeRec}
use Rattle.pol_conditionals.specs.CondNodeRecord.{condnode_at, spell_condnode, CondNodeFits}

unfoldable pub conditionals_at : ℕ → Reader (List (Placed CondNodeRec))
conditionals_at version = counted CONDLIST_COUNT (records_at (placed (condnode_at version)))

-- the same without the places
unfoldable pub plain_conditionals_at : ℕ → Reader (List CondNodeRec)
plain_conditionals_at version = counted CONDLIST_COUNT (records_at (condnode_at version))

abbrev pub spell_conditionals : List CondNodeRec → List ℕ
spell_conditionals nodes = spell_counted spell_condnode nodes

abbrev pub ConditionalsFit : List CondNodeRec → Type 0
ConditionalsFit nodes = CountedFits CondNodeFits nodes
