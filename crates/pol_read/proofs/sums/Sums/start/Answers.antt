use Rattle.std.proofs.Common.{◌≡◌, ◌<◌, length, List, ℕ, ◌-◌, ap, sym, ◌∙◌, arith}
use Rattle.pol_read.proofs.EndLists.{length_between, within_limit}
use Rattle.pol_read.proofs.sums.Sums.start.Goals as goal

pub returns-else-i-eq0-clause-limited : goal.returns-else-i-eq0-clause-limited
returns-else-i-eq0-clause-limited c =
    let ends = c.self.inside.ends.items in
    let long : length c.args.self.now ≡ length ends = ap (λ (xs : List ℕ). length xs) (sym c.self.view_is) ∙ length_between 0 ends in
    let lt : c.args.i - 1 < length ends = omega (arith, long) in
    let limited = within_limit 0 ends (c.args.i - 1) c.index.result.now c.self.invariant.0 lt in
    omega (arith, limited, c.index.ensures)
