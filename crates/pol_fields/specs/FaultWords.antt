-- The words of causes and tables in a message (this project's profile): a cause's own name, and a table's.
use Rattle.std.specs.Prelude.{ℕ, List, codes}
use Rattle.pol_fields.specs.declared.fault.Cause.{Cause}
use Rattle.pol_fields.specs.declared.fault.Cause.TheVariants as causes
use Rattle.pol_fields.specs.declared.table_kind.TableKind.{TableKind}
use Rattle.pol_fields.specs.declared.table_kind.TableKind.TheVariants as tables

abbrev pub cause_word : Cause → List ℕ
cause_word causes.Short = codes "Short"
cause_word causes.Trailing = codes "Trailing"
cause_word causes.BadMagic = codes "BadMagic"
cause_word causes.BadIdentity = codes "BadIdentity"
cause_word causes.UnsupportedVersion = codes "UnsupportedVersion"
cause_word causes.NotMls = codes "NotMls"
cause_word causes.BadUnknown = codes "BadUnknown"
cause_word causes.BadCounts = codes "BadCounts"
cause_word causes.BadMapUnit = codes "BadMapUnit"
cause_word causes.BadHighbit = codes "BadHighbit"
cause_word causes.BadCount = codes "BadCount"
cause_word causes.BadStart = codes "BadStart"
cause_word causes.ZeroMap = codes "ZeroMap"
cause_word causes.MapBitOut = codes "MapBitOut"
cause_word causes.EmptyName = codes "EmptyName"
cause_word causes.BadNameByte = codes "BadNameByte"
cause_word causes.TableTooLarge = codes "TableTooLarge"
cause_word causes.ValueOut = codes "ValueOut"
cause_word causes.DuplicateName = codes "DuplicateName"
cause_word causes.DuplicateValue = codes "DuplicateValue"
cause_word causes.BadFlag = codes "BadFlag"
cause_word causes.UnknownCommon = codes "UnknownCommon"
cause_word causes.BadDefault = codes "BadDefault"
cause_word causes.BadKind = codes "BadKind"
cause_word causes.BadAttr = codes "BadAttr"
cause_word causes.BadOp = codes "BadOp"
cause_word causes.TooDeep = codes "TooDeep"
cause_word causes.NotOneValue = codes "NotOneValue"
cause_word causes.BadRange = codes "BadRange"
cause_word causes.BadSpecified = codes "BadSpecified"
cause_word causes.BadExtendedKind = codes "BadExtendedKind"
cause_word causes.ExtendedInCondition = codes "ExtendedInCondition"
cause_word causes.DuplicateRule = codes "DuplicateRule"
cause_word causes.BadBehaviour = codes "BadBehaviour"
cause_word causes.BadName = codes "BadName"
cause_word (causes.Dangling table value) = codes "Dangling"

abbrev pub table_word : TableKind → List ℕ
table_word tables.Commons = codes "commons"
table_word tables.Classes = codes "classes"
table_word tables.Roles = codes "roles"
table_word tables.Types = codes "types"
table_word tables.Users = codes "users"
table_word tables.Booleans = codes "booleans"
table_word tables.Levels = codes "levels"
table_word tables.Categories = codes "categories"
