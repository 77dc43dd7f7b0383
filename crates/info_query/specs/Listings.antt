-- The lines of each listing of a policy, as seinfo of SETools prints them.
use Rattle.std.specs.Prelude.{ℕ, ◌++◌, Bool, true, false, Option, Some, None, List}
use Rattle.pol_fields.specs.declared.TableKind.TheVariants as tables
use Rattle.pol_file.specs.declared.parts.Parts.{Parts}
use Rattle.info_lines.specs.declared.listing.Listing.{Listing}
use Rattle.info_lines.specs.declared.listing.Listing.TheVariants.{Classes, Commons, Constraints, Validatetrans, Defaults, Roles, Types, Attributes, Users, Booleans, Sensitivities, Categories, InitialSids, FsUses, Genfscons, Netifcons, Nodecons, Portcons, Ibpkeycons, Ibendportcons, Permissives, Capabilities, Typebounds}
use Rattle.info_symbols.specs.declared.TypeSet.TheVariants as sets
use Rattle.info_symbols.specs.SymbolListings.{symbol_listing}
use Rattle.info_symbols.specs.TypeListings.{set_listing}
use Rattle.info_symbols.specs.AttributeStatement.{attribute_statement_listing, attribute_statement_listing_named}
use Rattle.info_classes.specs.declared.ConstraintKind.TheVariants.{OnPermissions, OnChange}
use Rattle.info_classes.specs.ConstraintLines.{constraint_listing}
use Rattle.info_classes.specs.DefaultLines.{default_listing}
use Rattle.info_classes.specs.BoundsLines.{bounds_listing}
use Rattle.info_contexts.specs.SidLines.{sid_listing_of}
use Rattle.info_contexts.specs.FsUseLines.{fsuse_listing_of}
use Rattle.info_contexts.specs.GenfsLines.{genfs_listing_of}
use Rattle.info_contexts.specs.NetifLines.{netif_listing_of}
use Rattle.info_contexts.specs.NodeLines.{node_listing, node6_listing}
use Rattle.info_contexts.specs.PortLines.{port_listing}
use Rattle.info_contexts.specs.IbPkeyLines.{ibpkey_listing}
use Rattle.info_contexts.specs.IbEndPortLines.{ibendport_listing}
use Rattle.info_query.specs.Capabilities.{capability_listing}
use Rattle.info_query.specs.declared.listing_lines.ListingLines.{ListingLines}
use Rattle.info_query.specs.declared.listing_lines.ListingLines.TheVariants as kinds

-- the attributes by their names, or expanded with their types
unfoldable pub attribute_lines : Parts → Bool → Option (List ℕ) → Option (List (List ℕ))
attribute_lines policy false name = set_listing policy sets.Attributes false name
attribute_lines policy true None = Some (attribute_statement_listing policy)
attribute_lines policy true (Some name) = attribute_statement_listing_named policy name

-- The lines of a listing, plain or expanded: those of a name, or all. Where a name is looked up and finds no record, there are
-- none to speak of. A name of initial SIDs, file systems, interfaces and capabilities is compared alone, and the contexts of
-- addresses and ports, those of IPv4 before those of IPv6, and bounds of types know no names.
unfoldable pub lines_of : Parts → Bool → Listing → Option (List ℕ) → Option (List (List ℕ))
lines_of policy expand Classes name = symbol_listing policy.symbols tables.Classes expand name
lines_of policy expand Commons name = symbol_listing policy.symbols tables.Commons expand name
lines_of policy expand Constraints name = constraint_listing policy.symbols OnPermissions name
lines_of policy expand Validatetrans name = constraint_listing policy.symbols OnChange name
lines_of policy expand Defaults name = default_listing policy.symbols name
lines_of policy expand Roles name = symbol_listing policy.symbols tables.Roles expand name
lines_of policy expand Types name = set_listing policy sets.PlainTypes expand name
lines_of policy expand Attributes name = attribute_lines policy expand name
lines_of policy expand Users name = symbol_listing policy.symbols tables.Users expand name
lines_of policy expand Booleans name = symbol_listing policy.symbols tables.Booleans expand name
lines_of policy expand Sensitivities name = symbol_listing policy.symbols tables.Levels expand name
lines_of policy expand Categories name = symbol_listing policy.symbols tables.Categories expand name
lines_of policy expand InitialSids name = Some (sid_listing_of expand policy.symbols name policy.labels.contexts.sid)
lines_of policy expand FsUses name = Some (fsuse_listing_of policy.symbols name policy.labels.contexts.fsuse)
lines_of policy expand Genfscons name = Some (genfs_listing_of policy.symbols name policy.labels.genfs)
lines_of policy expand Netifcons name = Some (netif_listing_of policy.symbols name policy.labels.contexts.netif)
lines_of policy expand Nodecons name = Some (node_listing policy.symbols policy.labels.contexts.node ++ node6_listing policy.symbols policy.labels.contexts.node6)
lines_of policy expand Portcons name = Some (port_listing policy.symbols policy.labels.contexts.port)
lines_of policy expand Ibpkeycons name = Some (ibpkey_listing policy.symbols policy.labels.contexts.ibpkey)
lines_of policy expand Ibendportcons name = Some (ibendport_listing policy.symbols policy.labels.contexts.ibendport)
lines_of policy expand Permissives name = set_listing policy sets.PermissiveTypes expand name
lines_of policy expand Capabilities name = Some (capability_listing policy expand name)
lines_of policy expand Typebounds name = Some (bounds_listing policy.symbols)

-- the lines that are left
abbrev pub left_of : ListingLines → List (List ℕ)
left_of (kinds.Symbols lines) = lines
left_of (kinds.Types lines) = lines
left_of (kinds.Attributes lines) = lines
left_of (kinds.Constraints lines) = lines
left_of (kinds.Defaults lines) = lines
left_of (kinds.Typebounds lines) = lines
left_of (kinds.InitialSids lines) = lines
left_of (kinds.FsUses lines) = lines
left_of (kinds.Genfscons lines) = lines
left_of (kinds.Netifcons lines) = lines
left_of (kinds.Nodecons lines) = lines
left_of (kinds.Portcons lines) = lines
left_of (kinds.Ibpkeycons lines) = lines
left_of (kinds.Ibendportcons lines) = lines
left_of (kinds.Capabilities lines) = lines
