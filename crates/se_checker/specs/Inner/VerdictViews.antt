-- Verdicts as the code holds them.
use Rattle.std.specs.Prelude.{⊤}
use Rattle.pol_bitmap.specs.Nodes.{bits_of}
use Rattle.pol_file.specs.declared.Parts.{Parts}
use Rattle.rule_order.specs.ListedOrder.{AreRules}
use Rattle.se_checker.specs.declared.checker.Verdict.{Verdict as VerdictCode}
use Rattle.se_checker.specs.declared.checker.Verdict.TheVariants as codes
use Rattle.se_checker.specs.Verdicts.{Verdict, Rules, Types}

abbrev pub shown : VerdictCode → Verdict
shown (codes.Rules numbers) = Rules numbers.items
shown (codes.Types types) = Types (bits_of types)

-- The numbers are those of rules.
abbrev pub HasRules : Parts → VerdictCode → Type 0
HasRules policy (codes.Rules numbers) = AreRules policy numbers.items
HasRules policy (codes.Types types) = ⊤
