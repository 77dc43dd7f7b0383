-- The rules that a search finds, of which all are to be listed, or the first ones.
use Rattle.std.specs.Prelude.{ℕ, Option, Some, None, List, take}
use Rattle.pol_file.specs.declared.Parts.{Parts}
use Rattle.rule_order.specs.RuleKeys.{AreGathered}
use Rattle.rule_order.specs.LeastKeys.{AreLeast}
use Rattle.rule_order.specs.declared.found_rules.FoundRules.{FoundRules}
use Rattle.rule_order.specs.declared.found_rules.FoundRules.TheVariants.{All, First}

-- their numbers are these
abbrev pub AreFound : Parts → List ℕ → FoundRules → Type 0
AreFound policy numbers (All keys) = AreGathered policy numbers keys
AreFound policy numbers (First keys) = AreLeast policy numbers keys

-- how many of them are to be listed, where not all are
abbrev pub limit_of : FoundRules → Option ℕ
limit_of (All keys) = None
limit_of (First keys) = Some keys.count

abbrev pub first_ones : Option ℕ → List ℕ → List ℕ
first_ones None numbers = numbers
first_ones (Some count) numbers = take count numbers
