-- The rules that count are rules of the policy, whatever is stated of its booleans.
use Rattle.std.proofs.Common.{◌≡◌, List, Option, None, Some, refl}
use Rattle.pol_file.specs.declared.Parts.{Parts}
use Rattle.se_words.specs.States.{State}
use Rattle.se_walks.specs.StatedRules.{rules_asked}

-- the rules that count are those of the policy
pub policy-asked : (policy : Parts) (states : Option (List State)) → (rules_asked policy states).policy ≡ policy
unfolding rules_asked
policy-asked policy None = refl
policy-asked policy (Some states) = refl
