-- How a set of names is written while they come one after the other: what serves the code alone.
use Rattle.std.specs.Prelude.{ℕ, List, ◌∷◌, ◌++◌, codes, map}
use Rattle.std.specs.List.{filter}
use Rattle.pol_commons.specs.declared.PermissionRec.{PermissionRec}
use Rattle.pol_commons.specs.Permissions.{has_permission}
use Rattle.pol_texts.specs.SetTexts.{listed, set_text}
use Rattle.rule_text.specs.declared.shown_names.Unwritten.{Unwritten}
use Rattle.rule_text.specs.declared.shown_names.Unwritten.TheVariants.{Nothing, First, End}

-- what is still to be written, with the names that come
unfoldable pub text_left : Unwritten → List (List ℕ) → List ℕ
text_left Nothing names = set_text names
text_left (First name) names = set_text (name.now ∷ names)
text_left End names = listed names ++ codes " }"

-- what is still to be written, with the permissions that come and that a mask has
unfoldable pub shown_left : ℕ → Unwritten → List PermissionRec → List ℕ
shown_left mask unwritten permissions = text_left unwritten (map (λ permission. permission.name) (filter (has_permission mask) permissions))
