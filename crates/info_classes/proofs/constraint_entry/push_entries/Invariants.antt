use Rattle.std.proofs.Common.{◌≡◌, ◌++◌, ◌∷◌, [], map}
use Rattle.std.specs.List.{flat_map}
use Rattle.info_classes.specs.RecordOrder.{records_at}
use Rattle.info_classes.specs.ConstraintLines.{entries_in}
use Rattle.info_classes.proofs.constraint_entry.push_entries.Given as goal

-- what was added and what is left are the whole
abbrev pub invariant-loop-constraint : goal.invariant-loop-constraint
invariant-loop-constraint l =
    l.entries.items ++ flat_map (λ class. map (λ constraint. record { class = class; constraint = constraint }) l.constraint-iterator) (records_at l.symbols.classes.records (l.number ∷ []))
    ≡ l.fn.entries.items ++ entries_in l.fn.kind (records_at l.symbols.classes.records (l.number ∷ []))
