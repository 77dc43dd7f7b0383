-- Rules that are grouped by their default. It serves the code alone.
use Rattle.std.specs.Prelude.{ℕ, nat_le, Option, Some, None, List, map, slice_get, if◌then◌else◌}
use Rattle.pol_file.specs.declared.Parts.{Parts}
use Rattle.pol_read.specs.declared.RulePart.{RulePart}
use Rattle.pol_read.specs.declared.RulePart.TheVariants.{Default}
use Rattle.pol_read.specs.StoredRules.{StoredRule, stored_rules}
use Rattle.value_groups.specs.Inner.Grouping.{AreGroupsOf}

-- the default of a part where it is at most that value, and else 0
abbrev pub part_default : ℕ → RulePart → ℕ
part_default most (Default value) = if nat_le value most then value else 0
part_default most part = 0

abbrev pub found_default : ℕ → Option StoredRule → ℕ
found_default most None = 0
found_default most (Some rule) = part_default most rule.part

-- the default of the stored rule of a number where it is a value of the policy's types, and else 0
unfoldable pub default_value : Parts → ℕ → ℕ
default_value policy number = found_default policy.symbols.types.nprim (slice_get (stored_rules policy) number)

-- The groups are those of the defaults of the rules.
abbrev pub AreByDefault : Parts → List ℕ → List (List ℕ) → Type 0
AreByDefault policy numbers groups = AreGroupsOf policy.symbols.types.nprim (map (default_value policy) numbers) groups
