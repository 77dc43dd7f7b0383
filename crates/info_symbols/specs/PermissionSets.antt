-- The permissions of a class or a common as the text of a set.
use Rattle.std.specs.Prelude.{ℕ, List, map}
use Rattle.pol_commons.specs.declared.permission_rec.PermissionRec.{PermissionRec}
use Rattle.pol_texts.specs.SetTexts.{set_text}
use Rattle.pol_texts.specs.NameLists.{in_order}

-- their names in order: one name is itself, otherwise they stand in braces
abbrev pub permission_set : List PermissionRec → List ℕ
permission_set permissions = set_text (in_order (map (λ permission. permission.name) permissions))
