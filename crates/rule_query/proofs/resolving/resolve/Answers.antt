use Rattle.std.proofs.Common.{◌+◌, ◌∙◌, List, map, take, drop, refl, sym, ap, subst}
use Rattle.std.proofs.lemmas.Result.{err_from_is_err_and}
use Rattle.rule_query.specs.GivenCriteria.{Given, in_word_order, shown}
use Rattle.rule_query.proofs.Resolvings.{LookedUp, nothing_yet, one_more, stopped, no_place, no_room, all_words, split_at, one_taken, all_taken}
use Rattle.rule_query.proofs.resolving.resolve.Goals as goal

pub loop-given-init : goal.loop-given-init
loop-given-init g c = record {
  are_looked_up = rw c.new-tests.ensures.items (nothing_yet c.args.policy.now c.args.criteria.now (g.P.Patterns.state c.args.patterns.now).asked (g.P.Patterns.state c.args.patterns.now).refusals);
  map = tt;
}

pub returns-in_err-pattern : goal.returns-in_err-pattern
returns-in_err-pattern g c =
    let p = err_from_is_err_and c.from_residual-in_err-pattern.result c.from_residual-in_err-pattern.ensures.1 in
    rw (p.1, p.2) (stopped c.args.policy.now c.args.criteria.now (g.P.Patterns.state c.args.patterns.now).asked (g.P.Patterns.state c.loop-given.patterns).asked (g.P.Patterns.state c.ask.new.patterns).asked
    (g.P.Patterns.state c.args.patterns.now).refusals (g.P.Patterns.state c.loop-given.patterns).refusals (g.P.Patterns.state c.ask.new.patterns).refusals
    (map shown (take c.loop-given.given-index c.deref-given-items.result.now)) c.loop-given.tests.items c.loop-given.invariant.are_looked_up (shown c.given-item.result)
    (map shown (drop (c.loop-given.given-index + 1) c.deref-given-items.result.now))
    (split_at c.deref-given-items.result.now c.loop-given.given-index c.given-item.result c.loop-given-test.true c.given-item.is (in_word_order c.args.criteria.now) (ap (map shown) c.deref-given-items.ensures.value ∙ c.in_ok-order.ensures))
    _ c.ask.result c.in_err-pattern.was (rw c.symbols.ensures at c.ask.ensures))

pub returns-in_err-add_test : goal.returns-in_err-add_test
returns-in_err-add_test g c =
    let p = err_from_is_err_and c.from_residual-in_err-add_test.result c.from_residual-in_err-add_test.ensures.1 in
    rw (p.1, p.2) (no_room c.args.policy.now c.args.criteria.now (g.P.Patterns.state c.args.patterns.now).asked (g.P.Patterns.state c.loop-given.patterns).asked (g.P.Patterns.state c.ask.new.patterns).asked
    (g.P.Patterns.state c.args.patterns.now).refusals (g.P.Patterns.state c.loop-given.patterns).refusals (g.P.Patterns.state c.ask.new.patterns).refusals
    (map shown (take c.loop-given.given-index c.deref-given-items.result.now)) c.loop-given.tests.items c.loop-given.invariant.are_looked_up (shown c.given-item.result)
    (map shown (drop (c.loop-given.given-index + 1) c.deref-given-items.result.now))
    (split_at c.deref-given-items.result.now c.loop-given.given-index c.given-item.result c.loop-given-test.true c.given-item.is (in_word_order c.args.criteria.now) (ap (map shown) c.deref-given-items.ensures.value ∙ c.in_ok-order.ensures))
    c.in_ok-pattern.pattern (rw c.symbols.ensures at c.in_ok-pattern.ensures))

pub loop-given-preserved : goal.loop-given-preserved
loop-given-preserved g c = record {
  map = c.add_test.ensures.map;
  are_looked_up =
      subst (λ (done : List Given). LookedUp c.args.policy.now c.args.criteria.now (g.P.Patterns.state c.args.patterns.now).asked (g.P.Patterns.state c.ask.new.patterns).asked (g.P.Patterns.state c.args.patterns.now).refusals (g.P.Patterns.state c.ask.new.patterns).refusals done c.add_test.new.tests.items)
      (sym (one_taken c.deref-given-items.result.now c.loop-given.given-index c.given-item.result c.loop-given-test.true c.given-item.is))
      (one_more c.args.policy.now c.args.criteria.now (g.P.Patterns.state c.args.patterns.now).asked (g.P.Patterns.state c.loop-given.patterns).asked (g.P.Patterns.state c.ask.new.patterns).asked
      (g.P.Patterns.state c.args.patterns.now).refusals (g.P.Patterns.state c.loop-given.patterns).refusals (g.P.Patterns.state c.ask.new.patterns).refusals
      (map shown (take c.loop-given.given-index c.deref-given-items.result.now)) c.loop-given.tests.items c.loop-given.invariant.are_looked_up (shown c.given-item.result)
      c.in_ok-pattern.pattern c.add_test.new.tests.items (rw c.symbols.ensures at c.in_ok-pattern.ensures) c.in_ok-add_test.ensures.test);
}

pub returns : goal.returns
returns g c = all_words c.args.policy.now c.args.criteria.now (g.P.Patterns.state c.args.patterns.now).asked (g.P.Patterns.state c.loop-given.patterns).asked (g.P.Patterns.state c.args.patterns.now).refusals (g.P.Patterns.state c.loop-given.patterns).refusals
    (map shown (take c.loop-given.given-index c.deref-given-items.result.now)) c.loop-given.tests.items c.loop-given.invariant.are_looked_up
    (all_taken c.deref-given-items.result.now c.loop-given.given-index (in_word_order c.args.criteria.now) c.loop-given-test.false (ap (map shown) c.deref-given-items.ensures.value ∙ c.in_ok-order.ensures))
    (record { kinds = c.args.criteria.now.kinds; tests = c.put_ends_first.new.tests }) c.put_ends_first.ensures refl

pub returns-in_err-put_ends_first : goal.returns-in_err-put_ends_first
returns-in_err-put_ends_first g c =
    let p = err_from_is_err_and c.from_residual-in_err-put_ends_first.result c.from_residual-in_err-put_ends_first.ensures.1 in
    rw (p.1, p.2) (no_place c.args.policy.now c.args.criteria.now (g.P.Patterns.state c.args.patterns.now).asked (g.P.Patterns.state c.loop-given.patterns).asked (g.P.Patterns.state c.args.patterns.now).refusals (g.P.Patterns.state c.loop-given.patterns).refusals
    (map shown (take c.loop-given.given-index c.deref-given-items.result.now)) c.loop-given.tests.items c.loop-given.invariant.are_looked_up
    (all_taken c.deref-given-items.result.now c.loop-given.given-index (in_word_order c.args.criteria.now) c.loop-given-test.false (ap (map shown) c.deref-given-items.ensures.value ∙ c.in_ok-order.ensures)))
