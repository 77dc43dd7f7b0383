-- The header of a policy (libsepol's policydb_read, for a kernel policy with MLS).
use Rattle.std.specs.Prelude.{ℕ, ◌+◌, ◌^◌, ◌<◌, ◌≤◌, ◌%◌, ◌/◌, ◌==◌, ◌&&◌, Option, Some, None, List, ◌++◌, length, codes, bytes_eq, nat_le, if◌then◌else◌}
use Rattle.pol_fields.specs.declared.limits.TheConstants.{MAX_POLICY_BYTES}
use Rattle.pol_fields.specs.declared.codes.TheConstants.{SYM_NUM, OCON_NODE6, OCON_IBENDPORT, POLICYDB_VERSION_DEFAULT_TYPE, POLICYDB_VERSION_INFINIBAND, POLICYDB_VERSION_COND_XPERMS}
use Rattle.pol_fields.specs.declared.Cause.{Cause}
use Rattle.pol_fields.specs.declared.Cause.TheVariants.{BadMagic, BadIdentity, UnsupportedVersion, NotMls, BadUnknown, BadCounts}
use Rattle.pol_fields.specs.declared.fields.TheConstants.{HEADER_MAGIC, HEADER_IDLEN, HEADER_ID, HEADER_VERSION, HEADER_CONFIG, HEADER_SYMTABS, HEADER_CONTEXTS}
use Rattle.pol_cursor.specs.Outcome.{Reader, ◌>>=◌, done}
use Rattle.pol_cursor.specs.Parts.{num, number_if, string_if, unless}
use Rattle.pol_cursor.specs.Spelling.{bytes_of}
use Rattle.pol_file.specs.declared.header_rec.HeaderRec.{HeaderRec}

-- ---- the conditions of its fields

-- SELINUX_MAGIC of libsepol
abbrev pub policy_magic : ℕ
policy_magic = 0xf97cff8c

abbrev pub identity : List ℕ
identity = codes "SE Linux"

abbrev pub magic_test : ℕ → Option Cause
magic_test magic = unless (magic == policy_magic) BadMagic

abbrev pub identity_length_test : ℕ → Option Cause
identity_length_test len = unless (len == 8) BadIdentity

abbrev pub identity_test : List ℕ → Option Cause
identity_test id = unless (bytes_eq id identity) BadIdentity

-- this project reads the versions 28 to 34, by their names in libsepol
abbrev pub version_test : ℕ → Option Cause
version_test version = unless (nat_le POLICYDB_VERSION_DEFAULT_TYPE version && nat_le version POLICYDB_VERSION_COND_XPERMS) UnsupportedVersion

-- Bit 0x1 of config is MLS, 0x2 refuses unknown classes and 0x4 allows them (libsepol's POLICYDB_CONFIG_MLS, REJECT_UNKNOWN, ALLOW_UNKNOWN).
abbrev pub config_test : ℕ → Option Cause
config_test config = if config % 2 == 1 then (if config / 2 % 4 == 3 then Some BadUnknown else None) else Some NotMls

abbrev pub symbol_tables_test : ℕ → Option Cause
symbol_tables_test count = unless (count == SYM_NUM) BadCounts

-- all tables, but those of InfiniBand below the version that brought them
abbrev pub context_tables : ℕ → ℕ
context_tables version = if nat_le POLICYDB_VERSION_INFINIBAND version then OCON_IBENDPORT + 1 else OCON_NODE6 + 1

abbrev pub context_tables_test : ℕ → ℕ → Option Cause
context_tables_test version count = unless (count == context_tables version) BadCounts

-- ---- reading and spelling

-- what says that the file is a kernel policy
unfoldable pub identity_at : Reader (Unit {0})
identity_at = do
  magic ← number_if HEADER_MAGIC 4 magic_test
  len ← number_if HEADER_IDLEN 4 identity_length_test
  id ← string_if HEADER_ID 8 identity_test
  done tt

-- the numbers of tables of a version
unfoldable pub counts_at : ℕ → Reader (Unit {0})
counts_at version = do
  symbol_tables ← number_if HEADER_SYMTABS 4 symbol_tables_test
  context_tables ← number_if HEADER_CONTEXTS 4 (context_tables_test version)
  done tt

unfoldable pub header_at : Reader HeaderRec
header_at = do
  identified ← identity_at
  version ← number_if HEADER_VERSION 4 version_test
  config ← number_if HEADER_CONFIG 4 config_test
  counted ← counts_at version
  done (record { version = version; config = config })

abbrev pub spell_identity : List ℕ
spell_identity = bytes_of 4 policy_magic ++ bytes_of 4 8 ++ identity

abbrev pub spell_counts : ℕ → List ℕ
spell_counts version = bytes_of 4 SYM_NUM ++ bytes_of 4 (context_tables version)

abbrev pub spell_header : HeaderRec → List ℕ
spell_header header = spell_identity ++ bytes_of 4 header.version ++ bytes_of 4 header.config ++ spell_counts header.version

-- the numbers of a header fit their fields
pub record HeaderFits (header : HeaderRec) : Type 0 where
  pub version : header.version < 2 ^ 32
  pub config : header.config < 2 ^ 32

-- ---- the header that stands at a place

abbrev pub header_in : List ℕ → ℕ → HeaderRec
header_in bytes place = record { version = num bytes (place + 16) 4; config = num bytes (place + 20) 4 }

-- its 32 bytes stand there, in a buffer of a policy's size
abbrev pub HasHeader : List ℕ → ℕ → Type 0
HasHeader bytes place = (place + 32 ≤ length bytes) × (length bytes ≤ MAX_POLICY_BYTES)
