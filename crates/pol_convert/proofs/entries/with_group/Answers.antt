use Rattle.std.proofs.Common.{◌+◌, ◌-◌, ◌*◌, ◌^◌, ℕ, List, length, sym, ap, ◌∙◌, arith}
use Rattle.std.specs.Prelude.{min}
use Rattle.pol_convert.specs.Ungrouped.{group_entries}
use Rattle.pol_convert.proofs.EntryLengths.{group_length, product_stops}
use Rattle.pol_convert.proofs.entries.with_group.Goals as goal

pub returns : goal.returns
returns c =
    let declared = c.args.declared.now in
    let group = c.args.group.now in
    let start = c.args.start in
    let most = 2 ^ 64 - 1 in
    let each = 20 + length c.as_slice.result.now in
    let count = length (group_entries declared group) in
    c.saturating_add.ensures
    ∙ ap (λ (m : ℕ). min (start + m) most) (c.saturating_mul.ensures ∙ ap (λ (n : ℕ). min (each * n) most) c.entry_count.ensures)
    ∙ product_stops start each count most (omega arith)
    ∙ ap (λ (m : ℕ). min (start + m) most) (ap (λ (name : List ℕ). (20 + length name) * count) c.as_slice.ensures ∙ sym (group_length declared group))
