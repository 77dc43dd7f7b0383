use Rattle.std.proofs.Common.{◌≡◌, map}
use Rattle.std.specs.List.{fold}
use Rattle.pol_texts.specs.NameLists.{with_name}
use Rattle.diff_records.proofs.classes.insert_names.Given as goal

abbrev pub invariant-loop-permission : goal.invariant-loop-permission
invariant-loop-permission l =
    fold (λ sorted name. with_name name sorted) (map (λ name. name.now) l.names.items) (map (λ permission. permission.name) l.permission-iterator)
    ≡ fold (λ sorted name. with_name name sorted) (map (λ name. name.now) l.fn.names.items) (map (λ permission. permission.name) l.fn.permissions)
