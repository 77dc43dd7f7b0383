-- The statements of users, as seinfo of SETools prints them.
use Rattle.std.specs.Prelude.{ℕ, ◌++◌, List, codes}
use Rattle.pol_fields.specs.declared.TableKind.TheVariants.{Roles}
use Rattle.pol_bitmap.specs.Nodes.{bits_of}
use Rattle.pol_mls.specs.MlsTexts.{level_text, range_text}
use Rattle.pol_symbols.specs.declared.user_rec.UserRec.{UserRec}
use Rattle.pol_symbols.specs.declared.symbols.Symbols.{Symbols}
use Rattle.pol_symbols.specs.PolicySymbols.{name_in}
use Rattle.pol_texts.specs.SetTexts.{set_text}
use Rattle.info_lines.specs.NameSets.{names_of_bits}

-- the roles of a user by their names
abbrev pub roles_text : Symbols → UserRec → List ℕ
roles_text symbols user = codes " roles " ++ set_text (names_of_bits symbols Roles (bits_of user.roles))

-- its default level, and the levels that it may have
abbrev pub levels_text : Symbols → UserRec → List ℕ
levels_text symbols user = codes " level " ++ level_text (name_in symbols) user.level ++ codes " range " ++ range_text (name_in symbols) user.range

-- user NAME roles SET level LEVEL range RANGE;
unfoldable pub user_statement : Symbols → UserRec → List ℕ
user_statement symbols user = codes "user " ++ user.name ++ roles_text symbols user ++ levels_text symbols user ++ codes ";"
