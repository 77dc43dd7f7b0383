-- The last check as the code holds it.
use Rattle.std.specs.Prelude.{ℕ, List, [], ◌∷◌}
use Rattle.check_list.specs.declared.written.Last.{Last as LastCode}
use Rattle.check_list.specs.declared.written.Last.TheVariants as lasts
use Rattle.check_list.specs.Checklists.{Last, Nothing, Named, Begun}

abbrev pub last_of : LastCode → Last
last_of lasts.Nothing = Nothing
last_of (lasts.Heading name) = Named name.now
last_of (lasts.Check check) = Begun check

-- the name of the last check, if there is one
abbrev pub names_begun : Last → List (List ℕ)
names_begun Nothing = []
names_begun (Named name) = name ∷ []
names_begun (Begun check) = check.name ∷ []
