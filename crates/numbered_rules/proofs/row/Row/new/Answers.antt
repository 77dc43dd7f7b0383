use Rattle.std.proofs.Common.{◌++◌, reverse, ap, ◌∙◌}
use Rattle.std.specs.List.{flat_map}
use Rattle.numbered_rules.specs.Forms.{bits_at, rules_of}
use Rattle.numbered_rules.specs.NumberedRules.{has}
use Rattle.numbered_rules.specs.Inner.Cells.{target_differences}
use Rattle.numbered_rules.proofs.RowFacts.{found_sets, row_is_new}
use Rattle.numbered_rules.proofs.row.Row.new.Goals as goal

pub targets_of-requires : goal.targets_of-requires
targets_of-requires c =
    found_sets c.args.pool.now (λ form. has (bits_at c.args.pool.now form.sources) c.args.source) c.args.left.now c.deref.result.now (c.deref.ensures.value ∙ c.in_ok-left.ensures) c.requires.left

pub invariant_of-result : goal.invariant_of-result
invariant_of-result c = (
  found_sets c.args.pool.now (λ form. has (bits_at c.args.pool.now form.sources) c.args.source) c.args.first.now c.in_ok-forms_from.field-0.items c.in_ok-forms_from.ensures c.requires.first,
  found_sets c.args.pool.now (λ form. has (bits_at c.args.pool.now form.sources) c.args.source) c.args.second.now c.in_ok-forms_from-2.field-0.items c.in_ok-forms_from-2.ensures c.requires.second,
  tt,
)

pub returns : goal.returns
returns c =
    ap (λ ds. reverse ds ++ flat_map (target_differences c.args.counting c.args.source (rules_of c.args.pool.now c.in_ok-forms_from.field-0.items) (rules_of c.args.pool.now c.in_ok-forms_from-2.field-0.items)) (reverse c.in_ok-falling.field-0.items)) c.new.ensures.items
    ∙ row_is_new c.args.counting c.args.pool.now c.args.source c.args.left.now c.args.first.now c.args.second.now c.deref.result.now c.in_ok-forms_from.field-0.items c.in_ok-forms_from-2.field-0.items (reverse c.in_ok-falling.field-0.items)
    (c.deref.ensures.value ∙ c.in_ok-left.ensures) c.in_ok-forms_from.ensures c.in_ok-forms_from-2.ensures (c.in_ok-falling.ensures ∙ c.in_ok-targets_of.ensures)
