use Rattle.std.proofs.Common.{◌∙◌, length}
use Rattle.rule_query.specs.Listed.{meets_node}
use Rattle.rule_query.proofs.NodeTests.{kept_set, kept_rises}
use Rattle.rule_query.proofs.listed.nodes.Goals as goal

pub from_rising-requires : goal.from_rising-requires
from_rising-requires c = kept_rises (meets_node c.args.policy.now c.args.criterion.now) (length c.args.policy.now.rules.conditionals) c.deref.result.now (c.deref.ensures.value ∙ c.in_ok-nodes.ensures)

pub returns : goal.returns
returns c = kept_set (meets_node c.args.policy.now c.args.criterion.now) (length c.args.policy.now.rules.conditionals) c.deref.result.now c.from_rising.result (c.deref.ensures.value ∙ c.in_ok-nodes.ensures) c.from_rising.ensures.bits
