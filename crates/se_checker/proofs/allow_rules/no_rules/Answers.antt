use Rattle.std.proofs.Common.{length, ap, arith}
use Rattle.pol_symbols.specs.declared.Symbols.{Symbols}
use Rattle.se_checker.proofs.AllowedRules.{nothing_allowed}
use Rattle.se_checker.proofs.allow_rules.no_rules.Goals as goal

pub returns : goal.returns
returns c =
    nothing_allowed c.args.policy.now c.loop-place.classes.items
    (omega (arith, c.loop-place.invariant.0, c.loop-place-test.false, c.loop-place.auto._place-end, c.len-place-end.ensures, ap (λ (symbols : Symbols). length symbols.classes.records) c.symbols.ensures)) c.loop-place.invariant.1
