-- What a mode says of a criterion's text.
use Rattle.std.specs.Prelude.{Bool, true, false}
use Rattle.rule_criteria.specs.declared.criteria.Mode.{Mode}
use Rattle.rule_criteria.specs.declared.criteria.Mode.TheVariants.{Direct, Pattern, PatternDirect}

-- it is a pattern
abbrev pub is_pattern : Mode → Bool
is_pattern Pattern = true
is_pattern PatternDirect = true
is_pattern other = false

-- it is compared with the stored source or target alone
abbrev pub is_direct : Mode → Bool
is_direct Direct = true
is_direct PatternDirect = true
is_direct other = false
