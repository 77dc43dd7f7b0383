-- The names that listings know.
use Rattle.std.specs.Prelude.{ℕ, Bool, true, List, is_some}
use Rattle.pol_fields.specs.declared.TableKind.{TableKind}
use Rattle.pol_fields.specs.declared.TableKind.TheVariants as tables
use Rattle.pol_file.specs.declared.parts.Parts.{Parts}
use Rattle.info_lines.specs.declared.listing.Listing.{Listing}
use Rattle.info_lines.specs.declared.listing.Listing.TheVariants.{Classes, Commons, Constraints, Validatetrans, Defaults, Roles, Types, Attributes, Users, Booleans, Sensitivities, Categories, InitialSids, FsUses, Genfscons, Netifcons, Nodecons, Portcons, Ibpkeycons, Ibendportcons, Permissives, Capabilities, Typebounds}
use Rattle.info_lines.specs.NameOrder.{number_named}
use Rattle.info_symbols.specs.declared.TypeSet.{TypeSet}
use Rattle.info_symbols.specs.declared.TypeSet.TheVariants as sets
use Rattle.info_symbols.specs.TypeListings.{number_if_in}

-- a primary record of a table has the name, or one of its aliases has it
abbrev pub is_in_table : Parts → TableKind → List ℕ → Bool
is_in_table policy table name = is_some (number_named policy.symbols table name)

-- so has a record of a set of types
abbrev pub is_in_set : Parts → TypeSet → List ℕ → Bool
is_in_set policy set name = is_some (number_if_in policy set (number_named policy.symbols tables.Types name))

-- A listing knows a name: it finds it in its table, or looks no names up. Default rules and constraints are those of a class, and
-- each type is known where permissive types are listed.
unfoldable pub knows_name : Parts → Listing → List ℕ → Bool
knows_name policy Classes name = is_in_table policy tables.Classes name
knows_name policy Commons name = is_in_table policy tables.Commons name
knows_name policy Constraints name = is_in_table policy tables.Classes name
knows_name policy Validatetrans name = is_in_table policy tables.Classes name
knows_name policy Defaults name = is_in_table policy tables.Classes name
knows_name policy Roles name = is_in_table policy tables.Roles name
knows_name policy Types name = is_in_set policy sets.PlainTypes name
knows_name policy Attributes name = is_in_set policy sets.Attributes name
knows_name policy Users name = is_in_table policy tables.Users name
knows_name policy Booleans name = is_in_table policy tables.Booleans name
knows_name policy Sensitivities name = is_in_table policy tables.Levels name
knows_name policy Categories name = is_in_table policy tables.Categories name
knows_name policy InitialSids name = true
knows_name policy FsUses name = true
knows_name policy Genfscons name = true
knows_name policy Netifcons name = true
knows_name policy Nodecons name = true
knows_name policy Portcons name = true
knows_name policy Ibpkeycons name = true
knows_name policy Ibendportcons name = true
knows_name policy Permissives name = is_in_set policy sets.PlainTypes name
knows_name policy Capabilities name = true
knows_name policy Typebounds name = true
