-- Records 25 to 33: the tables that hold contexts (libsepol's ocontext_read_selinux).
use Rattle.std.specs.Prelude.{ℕ, Bool, true, false, List, [], nat_le}
use Rattle.pol_fields.specs.declared.codes.TheConstants.{POLICYDB_VERSION_INFINIBAND}
use Rattle.pol_fields.specs.declared.fields.TheConstants.{SID_COUNT, FS_COUNT, FS_LEN, FS_NAME, PORT_COUNT, NETIF_COUNT, NETIF_LEN, NETIF_NAME, NODE_COUNT, NODE_ADDRESS, NODE_MASK, FSUSE_COUNT, NODE6_COUNT, NODE6_ADDRESS, NODE6_MASK, IBPKEY_COUNT, IBENDPORT_COUNT}
use Rattle.pol_cursor.specs.Outcome.{Reader, ◌>>=◌, done}
use Rattle.pol_cursor.specs.Parts.{counted, records_at}
use Rattle.pol_cursor.specs.References.{placed}
use Rattle.pol_contexts.specs.SidRecord.{sid_at}
use Rattle.pol_contexts.specs.NamedRecord.{named_at}
use Rattle.pol_contexts.specs.PortRecord.{port_at}
use Rattle.pol_contexts.specs.AddressRecord.{address_at}
use Rattle.pol_contexts.specs.FsUseRecord.{fsuse_at}
use Rattle.pol_contexts.specs.IbPkeyRecord.{ibpkey_at}
use Rattle.pol_contexts.specs.IbEndPortRecord.{ibendport_at}
use Rattle.pol_contexts.specs.declared.tables.Contexts.{Contexts}

-- a table that is there or is empty
unfoldable pub table_if : {A : Type 0} → Bool → Reader (List A) → Reader (List A)
table_if true table = table
table_if false table = done []

-- The tables of InfiniBand came with version 31.
abbrev pub has_infiniband : ℕ → Bool
has_infiniband version = nat_le POLICYDB_VERSION_INFINIBAND version

unfoldable pub contexts_at : ℕ → Reader Contexts
contexts_at version = do
  sid ← counted SID_COUNT (records_at (placed sid_at))
  fs ← counted FS_COUNT (records_at (placed (named_at FS_LEN FS_NAME)))
  port ← counted PORT_COUNT (records_at (placed port_at))
  netif ← counted NETIF_COUNT (records_at (placed (named_at NETIF_LEN NETIF_NAME)))
  node ← counted NODE_COUNT (records_at (placed (address_at NODE_ADDRESS NODE_MASK 4)))
  fsuse ← counted FSUSE_COUNT (records_at (placed fsuse_at))
  node6 ← counted NODE6_COUNT (records_at (placed (address_at NODE6_ADDRESS NODE6_MASK 16)))
  ibpkey ← table_if (has_infiniband version) (counted IBPKEY_COUNT (records_at (placed ibpkey_at)))
  ibendport ← table_if (has_infiniband version) (counted IBENDPORT_COUNT (records_at (placed ibendport_at)))
  done (record { sid = sid; fs = fs; port = port; netif = netif; node = node; fsuse = fsuse; node6 = node6; ibpkey = ibpkey; ibendport = ibendport })
