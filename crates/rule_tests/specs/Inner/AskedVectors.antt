-- Which access vectors may be asked, told by marks. It serves the code alone.
use Rattle.std.specs.Prelude.{ℕ, ◌%◌, Bool, true, false, ◌||◌, ◌&&◌, Option, Some, None, List, [], ◌∷◌, map, slice_get, slice_index_or}
use Rattle.std.specs.List.{list_any, range_with_len}
use Rattle.pol_cursor.specs.References.{Placed}
use Rattle.pol_avtab.specs.declared.AvRec.{AvRec}
use Rattle.pol_read.specs.declared.RuleKind.{RuleKind}
use Rattle.pol_read.specs.declared.RuleKind.TheVariants.{AllowXperm, AuditallowXperm, DontauditXperm}
use Rattle.pol_read.specs.StoredRules.{rule_kind}
use Rattle.rule_tests.specs.AskedKinds.{is_kind_asked}
use Rattle.value_groups.specs.Among.{is_among}
use Rattle.value_groups.specs.Inner.Marking.{MarkedValues}

-- ---- kinds

-- one of some kinds is asked
abbrev pub is_any_asked : List Bool → List RuleKind → Bool
is_any_asked kinds some = list_any (is_kind_asked kinds) some

-- the kinds of access vectors with ioctl numbers
abbrev pub extended_kinds : List RuleKind
extended_kinds = AllowXperm ∷ AuditallowXperm ∷ DontauditXperm ∷ []

-- an access vector may be of a kind that is asked, by the seven lowest bits of what it specifies
abbrev pub is_low_asked : List Bool → ℕ → Bool
is_low_asked kinds low = is_any_asked kinds extended_kinds || is_kind_asked kinds (rule_kind low)

-- a mark for each number of seven bits
abbrev pub low_marks : List Bool → List Bool
low_marks kinds = map (is_low_asked kinds) (range_with_len 0 128)

abbrev pub is_kind_marked : List Bool → AvRec → Bool
is_kind_marked marks av = slice_index_or marks (av.specified % 128) false

-- ---- access vectors

-- the marks of kinds, and those of the values of sources and of targets, where some are asked
pub record VectorMarks : Type 0 where
  pub kinds : List Bool
  pub sources : Option MarkedValues
  pub targets : Option MarkedValues

abbrev pub is_value_asked : Option MarkedValues → ℕ → Bool
is_value_asked None value = true
is_value_asked (Some marks) value = is_among marks.values value

-- an access vector has all marks
abbrev pub may_be_asked : VectorMarks → AvRec → Bool
may_be_asked marks av = (is_value_asked marks.sources av.source && is_value_asked marks.targets av.target) && is_kind_marked marks.kinds av

-- ---- the access vectors of a table

abbrev pub is_standing : (AvRec → Bool) → Option (Placed AvRec) → Bool
is_standing wanted None = false
is_standing wanted (Some av) = wanted av.value

-- a wanted access vector stands at a number of a table
unfoldable pub standing_at : (AvRec → Bool) → List (Placed AvRec) → ℕ → Bool
standing_at wanted table n = is_standing wanted (slice_get table n)

-- the access vector of a number may be asked
abbrev pub is_asked_at : VectorMarks → List (Placed AvRec) → ℕ → Bool
is_asked_at marks table = standing_at (may_be_asked marks) table
