use Rattle.std.proofs.Common.{length}
use Rattle.pol_read.specs.StoredRules.{stored_rules}
use Rattle.rule_grants.specs.Grants.{gives}
use Rattle.dom_trans.specs.DefaultRules.{sets_default}
use Rattle.dom_trans.specs.Inner.Keeping.{wanted_in}
use Rattle.dom_trans.proofs.Chosen.{one_more}
use Rattle.dom_trans.proofs.Keeps.{kept_all, kept_few}
use Rattle.dom_trans.proofs.dom_rules.lists_of.Goals as goal

pub push_ends-requires-clause-few : goal.push_ends-requires-clause-few
push_ends-requires-clause-few c = kept_few c.args.rules.now (length (stored_rules c.args.rules.now.policy)) (gives (wanted_in c.args.rules.now.policy.symbols).transition) c.args.kept.transition.rules.items c.requires.few c.requires.kept.transition.numbers

pub push_ends-requires-2-clause-few : goal.push_ends-requires-2-clause-few
push_ends-requires-2-clause-few c = kept_few c.args.rules.now (length (stored_rules c.args.rules.now.policy)) (gives (wanted_in c.args.rules.now.policy.symbols).dyntransition) c.args.kept.dyntransition.rules.items c.requires.few c.requires.kept.dyntransition.numbers

pub push_ends-requires-3-clause-few : goal.push_ends-requires-3-clause-few
push_ends-requires-3-clause-few c = kept_few c.args.rules.now (length (stored_rules c.args.rules.now.policy)) (gives (wanted_in c.args.rules.now.policy.symbols).setexec) c.args.kept.setexec.rules.items c.requires.few c.requires.kept.setexec.numbers

pub push_ends-requires-4-clause-few : goal.push_ends-requires-4-clause-few
push_ends-requires-4-clause-few c = kept_few c.args.rules.now (length (stored_rules c.args.rules.now.policy)) (gives (wanted_in c.args.rules.now.policy.symbols).setcurrent) c.args.kept.setcurrent.rules.items c.requires.few c.requires.kept.setcurrent.numbers

pub push_ends-requires-5-clause-few : goal.push_ends-requires-5-clause-few
push_ends-requires-5-clause-few c = kept_few c.args.rules.now (length (stored_rules c.args.rules.now.policy)) (gives (wanted_in c.args.rules.now.policy.symbols).execute) c.args.kept.execute.rules.items c.requires.few c.requires.kept.execute.numbers

pub push_ends-requires-6-clause-few : goal.push_ends-requires-6-clause-few
push_ends-requires-6-clause-few c = kept_few c.args.rules.now (length (stored_rules c.args.rules.now.policy)) (gives (wanted_in c.args.rules.now.policy.symbols).entrypoint) c.args.kept.entrypoint.rules.items c.requires.few c.requires.kept.entrypoint.numbers

pub push_ends-requires-7-clause-few : goal.push_ends-requires-7-clause-few
push_ends-requires-7-clause-few c = kept_few c.args.rules.now (length (stored_rules c.args.rules.now.policy)) (sets_default (wanted_in c.args.rules.now.policy.symbols).process) c.args.kept.defaults.rules.items c.requires.few c.requires.kept.defaults.numbers

pub returns : goal.returns
returns c =
    let rules = c.args.rules.now in
    let wanted = wanted_in rules.policy.symbols in
    let kept = c.args.kept in
    let are = c.requires.kept in
    let with_transition = one_more rules.policy _ _ _ _ _ c.in_ok-push_ends.ensures c.in_ok-lists.ensures.items (kept_all rules (gives wanted.transition) kept.transition.rules.items are.transition.numbers) in
    let with_dyntransition = one_more rules.policy _ _ _ _ _ c.in_ok-push_ends-2.ensures with_transition (kept_all rules (gives wanted.dyntransition) kept.dyntransition.rules.items are.dyntransition.numbers) in
    let with_setexec = one_more rules.policy _ _ _ _ _ c.in_ok-push_ends-3.ensures with_dyntransition (kept_all rules (gives wanted.setexec) kept.setexec.rules.items are.setexec.numbers) in
    let with_setcurrent = one_more rules.policy _ _ _ _ _ c.in_ok-push_ends-4.ensures with_setexec (kept_all rules (gives wanted.setcurrent) kept.setcurrent.rules.items are.setcurrent.numbers) in
    let with_execute = one_more rules.policy _ _ _ _ _ c.in_ok-push_ends-5.ensures with_setcurrent (kept_all rules (gives wanted.execute) kept.execute.rules.items are.execute.numbers) in
    let with_entrypoint = one_more rules.policy _ _ _ _ _ c.in_ok-push_ends-6.ensures with_execute (kept_all rules (gives wanted.entrypoint) kept.entrypoint.rules.items are.entrypoint.numbers) in
    one_more rules.policy _ _ _ _ _ c.in_ok-push_ends-7.ensures with_entrypoint (kept_all rules (sets_default wanted.process) kept.defaults.rules.items are.defaults.numbers)
