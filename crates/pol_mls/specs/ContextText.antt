-- The text of a context: that of SETools, but for two categories in a row, which are c1,c2 here and c1.c2 there.
use Rattle.std.specs.Prelude.{ℕ, List, ◌++◌, codes}
use Rattle.pol_fields.specs.declared.table_kind.TableKind.TheVariants.{Users, Roles, Types}
use Rattle.pol_cursor.specs.References.{Named, name_of}
use Rattle.pol_mls.specs.MlsTexts.{range_text}
use Rattle.pol_mls.specs.declared.context_rec.ContextRec.{ContextRec}

-- USER:ROLE:TYPE:RANGE
abbrev pub context_text : Named → ContextRec → List ℕ
context_text named context =
    name_of named Users context.user ++ codes ":" ++ name_of named Roles context.role ++ codes ":" ++ name_of named Types context.type_value ++ codes ":" ++ range_text named context.range
