use Rattle.std.proofs.Common.{◌-◌, ◌^◌, ℕ, List, length, ap}
use Rattle.pol_convert.specs.Inner.FoundSources.{found_sources}
use Rattle.pol_convert.proofs.DeclaredSources.{at_end}
use Rattle.pol_convert.proofs.sources.with_found.Goals as goal

pub returns : goal.returns
returns c = at_end c.loop-bit.count (length (found_sources c.args.declared.now c.loop-bit.bit-iterator)) _ (2 ^ 64 - 1) c.loop-bit.invariant.0
    (ap (λ (bits : List ℕ). length (found_sources c.args.declared.now bits)) c.in-None.ensures.steps.0) c.loop-bit.invariant.1
