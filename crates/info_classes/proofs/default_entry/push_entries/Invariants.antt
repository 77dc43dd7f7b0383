use Rattle.std.proofs.Common.{◌≡◌, ◌++◌, ◌∷◌, [], map, take}
use Rattle.std.specs.List.{filter}
use Rattle.info_classes.specs.declared.default_entry.DefaultKind.TheVariants.{OfUser, OfRole, OfType, OfRange}
use Rattle.info_classes.specs.DefaultLines.{has_default}
use Rattle.info_classes.proofs.default_entry.push_entries.Given as goal

-- the defaults of the kinds before were added
abbrev pub invariant-loop-kind : goal.invariant-loop-kind
invariant-loop-kind l =
    (l.entries.items ≡ l.fn.entries.items ++ map (λ kind. record { class = l.found; kind = kind }) (filter (has_default l.found.value) (take l.kind-index l.kind-items)))
    × (l.kind-items ≡ OfUser ∷ OfRole ∷ OfType ∷ OfRange ∷ [])
