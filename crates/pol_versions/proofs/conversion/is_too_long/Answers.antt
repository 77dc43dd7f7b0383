use Rattle.std.proofs.Common.{ℕ, ◌+◌, ◌-◌, ◌^◌, nat_lt, length, ap, ◌∙◌}
use Rattle.std.specs.Prelude.{min}
use Rattle.pol_fields.specs.declared.limits.TheConstants.{MAX_POLICY_BYTES}
use Rattle.pol_convert.specs.Ungrouped.{entries_length, ungrouped}
use Rattle.pol_tree.specs.TreeSpelling.{spell}
use Rattle.pol_versions.proofs.TreeLengths.{sum_stops}
use Rattle.pol_versions.proofs.conversion.is_too_long.Goals as goal

pub returns : goal.returns
returns c =
    let most = 2 ^ 64 - 1 in
    let added = entries_length (ungrouped c.args.declared.now c.args.groups.now) in
    ap (λ (n : ℕ). nat_lt MAX_POLICY_BYTES n) (
    c.saturating_add.ensures
    ∙ ap (λ (a : ℕ). min (a + c.in_ok-others.others) most) c.ungrouped_length-entries.ensures
    ∙ ap (λ (o : ℕ). min (min added most + o) most) c.in_ok-others.ensures)
    ∙ sum_stops added (length (spell c.args.tree.now))
