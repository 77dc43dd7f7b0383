-- The kinds of rules that are asked: twelve marks, in the order in which kinds are listed.
use Rattle.std.specs.Prelude.{Bool, false, List, slice_index_or}
use Rattle.pol_read.specs.declared.RuleKind.{RuleKind}
use Rattle.pol_read.specs.RuleKinds.{kind_number}

abbrev pub is_kind_asked : List Bool → RuleKind → Bool
is_kind_asked kinds kind = slice_index_or kinds (kind_number kind) false
