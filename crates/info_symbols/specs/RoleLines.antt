-- The statements of roles, as seinfo of SETools prints them.
use Rattle.std.specs.Prelude.{ℕ, ◌++◌, ◌==◌, [], List, length, codes, if◌then◌else◌}
use Rattle.pol_fields.specs.declared.TableKind.TheVariants.{Types}
use Rattle.pol_bitmap.specs.Nodes.{bits_of}
use Rattle.pol_datums.specs.declared.RoleRec.{RoleRec}
use Rattle.pol_symbols.specs.declared.symbols.Symbols.{Symbols}
use Rattle.pol_texts.specs.SetTexts.{set_text}
use Rattle.info_lines.specs.NameSets.{names_of_bits}

-- the types of a role by their names, where it has some
abbrev pub types_text : List (List ℕ) → List ℕ
types_text types = if length types == 0 then [] else codes " types " ++ set_text types

-- role NAME types SET;
unfoldable pub role_statement : Symbols → RoleRec → List ℕ
role_statement symbols role = codes "role " ++ role.name ++ types_text (names_of_bits symbols Types (bits_of role.types)) ++ codes ";"
