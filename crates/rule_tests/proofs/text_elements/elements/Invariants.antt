use Rattle.std.proofs.Common.{length, map}
use Rattle.rule_tests.proofs.ElementLists.{Left}
use Rattle.rule_tests.proofs.text_elements.elements.Given as goal

abbrev pub invariant-elements : goal.invariant-elements
invariant-elements l = Left l.text (map (λ element. element.now) l.elements.items) l.rest

abbrev pub decreases-elements : goal.decreases-elements
decreases-elements l = length l.rest
