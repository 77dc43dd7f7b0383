-- The references that a symbol has where it is an alias or has bounds.
use Rattle.std.specs.Prelude.{Bool, List, [], ◌∷◌, nat_le, if◌then◌else◌}
use Rattle.pol_cursor.specs.References.{Reference}

-- the value that an alias stands for, which a primary record has to declare (this project's profile). A primary record has no
-- such reference.
abbrev pub alias_reference : Bool → Reference → List Reference
alias_reference is_primary r = if is_primary then [] else r ∷ []

-- the value that bounds a symbol, of the same table (libsepol's policydb_validate). 0 bounds nothing.
abbrev pub bounds_reference : Reference → List Reference
bounds_reference r = if nat_le 1 r.value then r ∷ [] else []
