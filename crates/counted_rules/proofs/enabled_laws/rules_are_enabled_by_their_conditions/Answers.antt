use Rattle.std.proofs.Common.{refl}
use Rattle.counted_rules.proofs.EnabledRules.{enabled_by_tree, enabled_free}
use Rattle.counted_rules.proofs.enabled_laws.rules_are_enabled_by_their_conditions.Goals as goal

pub returns-clause-under : goal.returns-clause-under
returns-clause-under c = enabled_by_tree

pub returns-clause-free : goal.returns-clause-free
returns-clause-free c = enabled_free

pub returns-clause-all : goal.returns-clause-all
returns-clause-all c = λ policy rule. refl
