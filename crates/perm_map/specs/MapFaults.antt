-- What is wrong with a permission map: the words of its causes.
use Rattle.std.specs.Prelude.{ℕ, List, codes}
use Rattle.perm_map.specs.declared.map_fault.MapCause.{MapCause}
use Rattle.perm_map.specs.declared.map_fault.MapCause.TheVariants as causes

abbrev pub cause_word : MapCause → List ℕ
cause_word causes.BadFields = codes "BadFields"
cause_word causes.BadName = codes "BadName"
cause_word causes.BadNumber = codes "BadNumber"
cause_word causes.BadDirection = codes "BadDirection"
cause_word causes.BadWeight = codes "BadWeight"
cause_word causes.Missing = codes "Missing"
cause_word causes.Extra = codes "Extra"
