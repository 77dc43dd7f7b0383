use Rattle.std.proofs.Common.{Bor, List, ℕ, map, arith}
use Rattle.rule_tests.proofs.ClassesMade.{made_more, all_made}
use Rattle.rule_tests.proofs.permission_test.all_classes.Goals as goal

pub loop-number-preserved : goal.loop-number-preserved
loop-number-preserved c = made_more c.args.symbols.now (map (λ (name : Bor (List ℕ)). name.now) c.args.names.now) c.loop-number.number c.loop-number.classes.items c.push.new.self.items c.view-class.result c.in_ok-bits.bits
    c.loop-number.invariant c.view-class.ensures c.in_ok-bits.ensures c.in_ok-push.ensures.items

pub returns : goal.returns
returns c = all_made c.args.symbols.now (map (λ (name : Bor (List ℕ)). name.now) c.args.names.now) c.loop-number.number c.loop-number.classes.items c.loop-number.invariant (omega (arith, c.len-number-end.ensures, c.loop-number-test.false))
