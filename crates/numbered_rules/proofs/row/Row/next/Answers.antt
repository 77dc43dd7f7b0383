use Rattle.std.proofs.Common.{sym, reverse, vec_len, arith}
use Rattle.std.proofs.lemmas.Bool.{eqb-true}
use Rattle.numbered_rules.proofs.RowFacts.{block_kept, block_step, nothing}
use Rattle.numbered_rules.proofs.row.Row.next.Goals as goal

pub cells-preserved : goal.cells-preserved
cells-preserved c = (
  c.cells.invariant.0,
  c.cells.invariant.1,
  block_kept c.cells.self-inside.pool.now c.cells.self-inside.first.items c.cells.self-inside.second.items c.deref.result.now c.deref-in-cells.result.now c.in_ok-block.block c.deref.ensures.value c.deref-in-cells.ensures.value c.in_ok-block.ensures.is,
  block_step c.cells.self-inside.counting c.cells.self-inside.pool.now c.cells.self-inside.source c.cells.self-inside.first.items c.cells.self-inside.second.items c.deref.result.now c.deref-in-cells.result.now
      c.deref-in-cells-2.result.now c.deref-in-cells-3.result.now c.in_ok-block.block c.in-Some.target c.cells.self-inside.cell.items (reverse c.in_ok-self-inside.field-0.items) c.cells.self-inside.targets.items c.pop.new.self.items _
      c.deref.ensures.value c.deref-in-cells.ensures.value c.in_ok-block.ensures.is c.in_ok-block.ensures.number c.deref-in-cells-2.ensures.value c.deref-in-cells-3.ensures.value
      c.in_ok-self-inside.ensures (nothing c.cells.self-inside.cell.items (omega (arith, eqb-true (vec_len c.cells.self-inside.cell) 0 (sym c.cells-test.ensures)))) c.in-Some.ensures.items c.cells.invariant.3,
)
