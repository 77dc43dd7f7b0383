-- Masks of permissions, as the set of names that SETools prints.
use Rattle.std.specs.Prelude.{ℕ, List, map}
use Rattle.std.specs.List.{filter}
use Rattle.pol_commons.specs.declared.PermissionRec.{PermissionRec}
use Rattle.pol_commons.specs.Permissions.{has_permission}
use Rattle.pol_texts.specs.NameLists.{in_order}
use Rattle.pol_texts.specs.SetTexts.{set_text}

-- the names of those of these permissions that a mask has, as a set in the order of the names
unfoldable pub permissions_text : ℕ → List PermissionRec → List ℕ
permissions_text mask permissions = set_text (in_order (map (λ permission. permission.name) (filter (has_permission mask) permissions)))
