use Rattle.std.proofs.Common.{◌≡◌, map}
use Rattle.std.specs.List.{filter, fold}
use Rattle.pol_texts.specs.NameLists.{with_name}
use Rattle.pol_commons.specs.Permissions.{has_permission}
use Rattle.info_classes.proofs.constraint_parts.insert_names.Given as goal

-- what is left makes of the names what the whole makes of those before
abbrev pub invariant-loop-permission : goal.invariant-loop-permission
invariant-loop-permission l =
    fold (λ sorted name. with_name name sorted) (map (λ name. name.now) l.names.items) (map (λ permission. permission.name) (filter (has_permission l.mask) l.permission-iterator))
    ≡ fold (λ sorted name. with_name name sorted) (map (λ name. name.now) l.fn.names.items) (map (λ permission. permission.name) (filter (has_permission l.mask) l.fn.permissions))
