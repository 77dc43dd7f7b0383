use Rattle.std.proofs.Common.{◌≡◌, ◌+◌, Some, List, ap, length, map, refl, ◌∙◌, arith}
use Rattle.pol_cursor.specs.References.{Placed}
use Rattle.pol_avtab.specs.declared.AvRec.{AvRec}
use Rattle.pol_read.specs.StoredRules.{StoredRule, av_rule, rules_of_branch}
use Rattle.rule_query.proofs.MetRules.{branch_there, stand_behind, stand_first}
use Rattle.rule_query.proofs.query.Query.add_of_branch.Goals as goal

pub loop-view-init : goal.loop-view-init
loop-view-init c =
    let policy = c.args.policy.now in
    let condition = c.args.condition in
    let nodes = policy.rules.conditionals in
    let rules = map (av_rule (Some condition)) c.into_iter-view-iterator.result in
    let all : rules ≡ rules_of_branch nodes condition.node condition.branch =
    ap (map (av_rule (Some condition))) (c.into_iter-view-iterator.ensures.into_iter_gives ∙ c.rules-view-items.ensures)
    ∙ branch_there nodes condition.node condition.branch c.view-node.result (rw c.conditionals.ensures at c.view-node.ensures) in
    record {
      rules = rw all c.requires.rules;
      end = ap (λ (rs : List StoredRule). c.args.first + length rs) all;
      found = record { met = c.requires.found; limit = refl };
    }

pub add_conditional-requires-clause-rule : goal.add_conditional-requires-clause-rule
add_conditional-requires-clause-rule c =
    let rule = av_rule (Some c.args.condition) in
    stand_first c.args.policy.now c.loop-view.number (map rule c.loop-view.view-iterator) (map rule c.next.new.self) (rule c.in-Some.view) (ap (map rule) c.in-Some.ensures.steps) c.loop-view.invariant.rules

pub overflow_add-number : goal.overflow_add-number
overflow_add-number c = let met = c.in_ok-add_conditional.ensures.found in omega (arith, met.within, met.few)

pub loop-view-preserved : goal.loop-view-preserved
loop-view-preserved c =
    let rule = av_rule (Some c.args.condition) in
    let rules = ap (map rule) c.in-Some.ensures.steps in
    record {
      rules = stand_behind c.args.policy.now c.loop-view.number (map rule c.loop-view.view-iterator) (map rule c.next.new.self) (rule c.in-Some.view) rules c.loop-view.invariant.rules;
      end = omega (arith, ap (λ (rs : List StoredRule). length rs) rules, c.loop-view.invariant.end);
      found = record { met = c.in_ok-add_conditional.ensures.found; limit = c.in_ok-add_conditional.ensures.limit ∙ c.loop-view.invariant.found.limit };
    }

pub returns-clause-next : goal.returns-clause-next
returns-clause-next c =
    let rule = av_rule (Some c.args.condition) in
    omega (arith, ap (λ (avs : List (Placed AvRec)). length (map rule avs)) c.in-None.ensures.steps.0, c.loop-view.invariant.end)
