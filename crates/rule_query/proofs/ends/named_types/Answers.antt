use Rattle.std.proofs.Common.{sym}
use Rattle.rule_query.proofs.TypeEnds.{named_is_value, expansion_asked, nothing_asked}
use Rattle.rule_query.proofs.ends.named_types.Goals as goal

pub expansion_of-requires-clause-value : goal.expansion_of-requires-clause-value
expansion_of-requires-clause-value c = named_is_value c.is_accepted.ensures.accepted.0 c.args.policy.now c.args.name.now c.in-Some.value c.is_accepted.ensures.accepted.1 (sym (rw c.symbols.ensures at c.in-Some.ensures))

pub returns-in-Some : goal.returns-in-Some
returns-in-Some c = expansion_asked c.args.policy.now c.args.name.now c.in-Some.value c.expansion_of.result (sym (rw c.symbols.ensures at c.in-Some.ensures)) c.expansion_of.ensures

pub returns-in-None : goal.returns-in-None
returns-in-None c = nothing_asked c.args.policy.now c.args.name.now c.empty.result (sym (rw c.symbols.ensures at c.in-None.ensures)) c.empty.ensures.bits
