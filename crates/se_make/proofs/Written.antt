-- A text that was sent, and another one after it.
use Rattle.std.proofs.Common.{◌++◌, ℕ, List, Option, Ok, Err, arith}
use Rattle.se_outside.specs.Outside.{SinkState}
use Rattle.se_items.specs.Writing.{Sends, Wrote}
use Rattle.se_items.specs.declared.WriteEnd.TheVariants.{Fault}
use Rattle.se_items.proofs.Gains.{part-after}

-- The first of two texts was sent whole, and the second was written in part.
pub sent_cut : {T U E : Type 0} (a b c : SinkState) (s t : List ℕ) (u : T) (failed : E)
    → Sends a b s (Ok u) → Wrote {T = T} b c t (Err failed) → Sends {T = U} a c (s ++ t) (Err Fault)
sent_cut a b c s t u failed first then = record {
  later = omega (arith, first.later, then.later);
  whole = tt;
  part = part-after a.written b.written c.written s t first.whole then.part;
  failed = λ _. omega (arith, first.later, then.failed);
}
