-- A whole policy: its parts in the order of the file, each read where the one before it ended (libsepol's policydb_read).
use Rattle.std.specs.Prelude.{ℕ, None}
use Rattle.pol_fields.specs.declared.fields.TheConstants.{ROLETRANS_COUNT, ROLEALLOW_COUNT, GENFS_COUNT, RANGETRANS_COUNT, END_END}
use Rattle.pol_cursor.specs.Outcome.{Reader, ◌>>=◌, done}
use Rattle.pol_cursor.specs.Parts.{end_at, counted, records_at}
use Rattle.pol_cursor.specs.References.{placed}
use Rattle.pol_bitmap.specs.Bitmap.{bitmap_at}
use Rattle.pol_file.specs.HeaderRecord.{header_at}
use Rattle.pol_symbols.specs.PolicySymbols.{symbols_at}
use Rattle.pol_avtab.specs.AvTables.{table_at as rule_table_at}
use Rattle.pol_conditionals.specs.CondNodeList.{conditionals_at}
use Rattle.pol_trans.specs.RoleTransRecord.{role_trans_at}
use Rattle.pol_trans.specs.RoleAllowRecord.{role_allow_at}
use Rattle.pol_trans.specs.RangeTransRecord.{range_trans_at}
use Rattle.pol_trans.specs.NameTransitions.{name_transitions_at}
use Rattle.pol_contexts.specs.ContextTables.{contexts_at}
use Rattle.pol_genfs.specs.GenfsRecord.{genfs_at}
use Rattle.pol_file.specs.TypeRows.{type_rows_at}
use Rattle.pol_file.specs.declared.parts.Front.{Front}
use Rattle.pol_file.specs.declared.parts.RuleLists.{RuleLists}
use Rattle.pol_file.specs.declared.parts.LabelLists.{LabelLists}
use Rattle.pol_file.specs.declared.parts.Parts.{Parts}

-- the header, the policy's capabilities, and the types whose domains are permissive
unfoldable pub front_at : Reader Front
front_at = do
  header ← header_at
  capabilities ← bitmap_at None
  permissive ← bitmap_at None
  done (record { header = header; capabilities = capabilities; permissive = permissive })

-- the rules: access vectors, those under conditions, role transitions, role allows and file-name transitions
unfoldable pub rule_lists_at : ℕ → Reader RuleLists
rule_lists_at version = do
  table ← rule_table_at version
  conditionals ← conditionals_at version
  role_trans ← counted ROLETRANS_COUNT (records_at (placed role_trans_at))
  role_allows ← counted ROLEALLOW_COUNT (records_at (placed role_allow_at))
  name_trans ← name_transitions_at version
  done (record { table = table; conditionals = conditionals; role_trans = role_trans; role_allows = role_allows; name_trans = name_trans })

-- the contexts of objects, those of file systems without labels, the range transitions, and the type map, which has a row for each
-- type value
unfoldable pub label_lists_at : ℕ → ℕ → Reader LabelLists
label_lists_at version types = do
  contexts ← contexts_at version
  genfs ← counted GENFS_COUNT (records_at (placed genfs_at))
  range_trans ← counted RANGETRANS_COUNT (records_at (placed range_trans_at))
  type_rows ← type_rows_at types
  done (record { contexts = contexts; genfs = genfs; range_trans = range_trans; type_rows = type_rows })

-- a whole policy, behind which the file ends
unfoldable pub policy_at : Reader Parts
policy_at = do
  front ← front_at
  symbols ← symbols_at front.header.version
  rules ← rule_lists_at front.header.version
  labels ← label_lists_at front.header.version symbols.types.nprim
  ended ← end_at END_END
  done (record { front = front; symbols = symbols; rules = rules; labels = labels })
