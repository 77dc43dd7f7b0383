use Rattle.se_options.specs.SearchRequest.{search_view}
use Rattle.se_search.proofs.Asked.{rules-asked, singles-asked}
use Rattle.se_search.proofs.search.write_found.Goals as goal

pub returns-then-asks-clause-writes : goal.returns-then-asks-clause-writes
returns-then-asks-clause-writes g c =
    rw (singles-asked (search_view c.args.asks.now) c.args.policy.now c.if-asks.true) (c.status_written.ensures.concludes _ _ _ c.write_singles.ensures)

pub returns-else-asks-clause-writes : goal.returns-else-asks-clause-writes
returns-else-asks-clause-writes g c =
    rw (rules-asked (search_view c.args.asks.now) c.args.policy.now c.if-asks.false) (c.status_written-else-asks.ensures.concludes _ _ _ c.write_rules.ensures)
