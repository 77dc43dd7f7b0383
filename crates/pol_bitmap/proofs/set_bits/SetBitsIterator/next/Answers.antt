use Rattle.std.proofs.Common.{rules, ◌≡◌, ◌++◌, List, ℕ, drop, sym, ap, ◌∙◌}
use Rattle.pol_bitmap.specs.Nodes.{node_bits, bits_of}
use Rattle.pol_bitmap.proofs.LowestBits.{no_bits, bits_from}
use Rattle.pol_bitmap.proofs.set_bits.SetBitsIterator.next.Goals.{then-self-eq0+else-self, else-self-eq0}
use Rattle.pol_bitmap.proofs.set_bits.SetBitsIterator.next.Goals as goal

pub returns-clause-steps : goal.returns-clause-steps
returns-clause-steps c =
    let b = c.self.inside in
    let d = c.if-self-eq0.self-inside in
    let whole : node_bits d.current ++ bits_of (drop d.next d.nodes.now) ≡ c.args.self.now = elim c.if-self-eq0.branch [
      | then-self-eq0+else-self w ↦ rw w.self-inside-is (sym (bits_from b.nodes.now b.next w.node_at-self-inside.result w.node_at-self-inside.ensures.is) ∙ (rw (no_bits b.current w.if-self-eq0.true) at c.self.view_is))
      | else-self-eq0 w ↦ rw w.self-inside-is c.self.view_is
    ] in
    sym whole ∙ ap (λ (bits : List ℕ). bits ++ bits_of (drop d.next d.nodes.now)) c.split_lowest-bit.ensures.bits

pub returns-clause-goes : goal.returns-clause-goes
returns-clause-goes c = rw (returns-clause-steps c) (search rules)
