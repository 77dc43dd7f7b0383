use Rattle.std.proofs.Common.{◌≡◌, drop}
use Rattle.rule_order.specs.FoundRules.{limit_of}
use Rattle.rule_query.proofs.PassedRules.{AreLeft}
use Rattle.rule_query.proofs.query.Query.add_block.Given as goal

abbrev pub invariant-loop-number : goal.invariant-loop-number
invariant-loop-number l =
    record {
      left : AreLeft l.policy l.self l.found (drop l.number-index l.number-items) l.to;
      limit : limit_of l.found ≡ limit_of l.initial.found;
    }
