use Rattle.dom_trans.specs.Inner.Keeping.{wanted_in, AreKept}
use Rattle.dom_trans.proofs.keeping.kept_rules.Given as goal

abbrev pub invariant-loop-number : goal.invariant-loop-number
invariant-loop-number l = AreKept l.rules (wanted_in l.rules.policy.symbols) l.number l.kept
