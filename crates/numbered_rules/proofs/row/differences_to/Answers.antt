use Rattle.std.proofs.Common.{◌∙◌}
use Rattle.numbered_rules.specs.Forms.{bits_at}
use Rattle.numbered_rules.specs.NumberedRules.{has}
use Rattle.numbered_rules.proofs.RowFacts.{found_sets, target_at}
use Rattle.numbered_rules.proofs.row.differences_to.Goals as goal

pub cell_differences-requires-clause-first : goal.cell_differences-requires-clause-first
cell_differences-requires-clause-first c =
    found_sets c.args.pool.now (λ form. has (bits_at c.args.pool.now form.targets) c.args.target) c.args.first.now c.deref-4.result.now (c.deref-4.ensures.value ∙ c.in_ok-first.ensures) c.requires.first

pub cell_differences-requires-clause-second : goal.cell_differences-requires-clause-second
cell_differences-requires-clause-second c =
    found_sets c.args.pool.now (λ form. has (bits_at c.args.pool.now form.targets) c.args.target) c.args.second.now c.deref-5.result.now (c.deref-5.ensures.value ∙ c.in_ok-second.ensures) c.requires.second

pub returns : goal.returns
returns c =
    target_at c.args.counting c.args.pool.now c.args.source c.args.target c.args.first.now c.args.second.now c.deref.result.now c.deref-2.result.now c.deref-4.result.now c.deref-5.result.now
    c.in_ok-first.first.items c.in_ok-second.second.items c.deref-3.result.now c.in_ok-keys.keys.items _
    c.deref.ensures.value c.deref-2.ensures.value c.deref-4.ensures.value c.deref-5.ensures.value c.deref-3.ensures.value
    c.in_ok-first.ensures c.in_ok-second.ensures (c.in_ok-keys.ensures c.args.pool.now) c.in_ok-cell_differences.ensures
