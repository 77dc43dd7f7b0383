use Rattle.std.proofs.Common.{◌++◌, ◌∷◌, [], ◌∙◌, refl, sym, ap}
use Rattle.rule_order.specs.LeastKeys.{is_behind}
use Rattle.rule_order.proofs.GatheredKeys.{gathered_more, has_rule, key_is}
use Rattle.rule_order.specs.declared.least_keys.LeastKeys.{LeastKeys}
use Rattle.rule_order.proofs.LeastRules.{kept_more, passed_by}
use Rattle.rule_order.proofs.least_keys.LeastKeys.add_ends.Goals as goal

pub returns-then-is_behind-clause-added : goal.returns-then-is_behind-clause-added
returns-then-is_behind-clause-added c numbers least =
    let policy = c.args.policy.now in
    let key = rw c.symbols.ensures at c.of-key.ensures in
    passed_by policy numbers c.args.number (has_rule policy c.args.number c.args.ends c.requires) c.args.self.now
    (ap (is_behind c.args.self.now.last) (key_is policy c.args.number c.args.ends c.of-key.result c.requires key) ∙ sym c.is_behind.ensures ∙ c.if-is_behind.true) least

pub returns-then-len-max-clause-added : goal.returns-then-len-max-clause-added
returns-then-len-max-clause-added c numbers least =
    let policy = c.args.policy.now in
    let had = c.args.self.now in
    let has : LeastKeys = record { keys = c.push.new.self; count = had.count; last = had.last } in
    let key = rw c.symbols.ensures at c.of-key.ensures in
    c.leave_least.ensures.least (numbers ++ c.args.number ∷ [])
    (kept_more policy numbers c.args.number (has_rule policy c.args.number c.args.ends c.requires) had has refl refl
    (gathered_more policy had.keys.items c.push.new.self.items c.args.number c.args.ends c.of-key.result c.requires key c.in_ok-push.ensures.items) least)

pub returns-else-len-max-clause-added : goal.returns-else-len-max-clause-added
returns-else-len-max-clause-added c numbers least =
    let policy = c.args.policy.now in
    let had = c.args.self.now in
    let has : LeastKeys = record { keys = c.push.new.self; count = had.count; last = had.last } in
    let key = rw c.symbols.ensures at c.of-key.ensures in
    kept_more policy numbers c.args.number (has_rule policy c.args.number c.args.ends c.requires) had has refl refl
    (gathered_more policy had.keys.items c.push.new.self.items c.args.number c.args.ends c.of-key.result c.requires key c.in_ok-push.ensures.items) least
