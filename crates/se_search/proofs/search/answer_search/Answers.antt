use Rattle.se_options.specs.SearchRequest.{search_view}
use Rattle.se_search.proofs.Tried.{all-tried, answer-written, ends-about, ends-answer, ends-tried, written-of-search}
use Rattle.se_search.proofs.search.answer_search.Goals as goal

pub write_found-requires : goal.write_found-requires
write_found-requires g c = c.in-Ok.ensures.query

pub returns-in-Ok-clause-answers : goal.returns-in-Ok-clause-answers
returns-in-Ok-clause-answers g c = answer-written (search_view c.args.asks.now) c.args.policy.now _ _ _ _ _ c.in-Ok.ensures.ends c.write_found.ensures.writes

pub returns-in-Ok-clause-about : goal.returns-in-Ok-clause-about
returns-in-Ok-clause-about g c = written-of-search _ c.write_found.ensures.plain

pub returns-in-Ok-clause-patterns : goal.returns-in-Ok-clause-patterns
returns-in-Ok-clause-patterns g c = all-tried c.args.policy.now c.args.asks.now.criteria _ _ _ c.in-Ok.ensures.ends c.in-Ok.ensures.later c.write_found.ensures.plain

pub returns-in-Err-clause-answers : goal.returns-in-Err-clause-answers
returns-in-Err-clause-answers g c = rw c.status_of.ensures (ends-answer (search_view c.args.asks.now) c.args.policy.now _ _ _ _ _ c.in-Err.error c.in-Err.ensures.ends)

pub returns-in-Err-clause-about : goal.returns-in-Err-clause-about
returns-in-Err-clause-about g c = rw c.status_of.ensures (ends-about c.in-Err.error)

pub returns-in-Err-clause-patterns : goal.returns-in-Err-clause-patterns
returns-in-Err-clause-patterns g c = rw c.status_of.ensures (ends-tried c.args.policy.now c.args.asks.now.criteria _ _ c.in-Err.error c.in-Err.ensures.ends c.in-Err.ensures.later)
