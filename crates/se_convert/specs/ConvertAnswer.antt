-- The answer of seconvert about a policy that was accepted.
use Rattle.std.specs.Prelude.{ℕ, ⊤, Option, Some, None}
use Rattle.pol_file.specs.declared.Parts.{Parts}
use Rattle.pol_tree.specs.declared.Tree.{Tree}
use Rattle.pol_tree.specs.PolicyTree.{tree_of}
use Rattle.pol_tree.specs.TreeSpelling.{spell}
use Rattle.pol_unheld.specs.declared.Unheld.{Unheld}
use Rattle.pol_versions.specs.Conversion.{cannot, converted}
use Rattle.se_status.specs.Conclusion.{Answer, done, refusal}
use Rattle.se_status.specs.declared.Status.{Status}
use Rattle.se_status.specs.declared.Status.TheVariants.{Done, CannotHold, WriteFault, Memory}

-- the bytes of a tree, unless a version cannot hold it
abbrev pub held : ℕ → Option Unheld → Tree → Answer
held version None tree = done (spell tree)
held version (Some unheld) tree = refusal (CannotHold version unheld)

-- the bytes of the policy at the version, or what the version cannot hold of it
unfoldable pub convert_answer : ℕ → Parts → Answer
convert_answer version policy = held version (cannot (tree_of policy) version) (converted (tree_of policy) version)

-- What a conversion of a policy that was accepted ends with.
abbrev pub IsConversion : Status → Type 0
IsConversion Done = ⊤
IsConversion (CannotHold version unheld) = ⊤
IsConversion WriteFault = ⊤
IsConversion Memory = ⊤
IsConversion status = ⊥
