-- The statements of classes and commons.
use Rattle.std.specs.Prelude.{ℕ, ◌++◌, ◌==◌, [], List, length, codes, if◌then◌else◌}
use Rattle.pol_commons.specs.declared.permission_rec.PermissionRec.{PermissionRec}
use Rattle.pol_commons.specs.declared.common_rec.CommonRec.{CommonRec}
use Rattle.pol_classes.specs.declared.class_rec.ClassRec.{ClassRec}
use Rattle.info_symbols.specs.PermissionSets.{permission_set}

-- the common of a class, whose name is empty where it has none
abbrev pub inherits_text : List ℕ → List ℕ
inherits_text common = if length common == 0 then [] else codes " inherits " ++ common

-- its own permissions, where it has some
abbrev pub own_text : List PermissionRec → List ℕ
own_text permissions = if length permissions == 0 then [] else codes " " ++ permission_set permissions

-- class NAME inherits COMMON { PERMISSIONS }
unfoldable pub class_statement : ClassRec → List ℕ
class_statement class = codes "class " ++ class.name ++ inherits_text class.common ++ own_text class.permissions

-- common NAME { PERMISSIONS }
unfoldable pub common_statement : CommonRec → List ℕ
common_statement common = codes "common " ++ common.name ++ codes " " ++ permission_set common.permissions
