-- The file-name transitions of a policy, one by one or as groups (libsepol's filename_trans_read).
use Rattle.std.specs.Prelude.{ℕ, Bool, nat_le, if◌then◌else◌}
use Rattle.pol_fields.specs.declared.codes.TheConstants.{POLICYDB_VERSION_COMP_FTRANS}
use Rattle.pol_fields.specs.declared.fields.TheConstants.{NAMETRANS_COUNT, NAMEGROUP_COUNT}
use Rattle.pol_cursor.specs.Outcome.{Reader, ◌>>=◌, done}
use Rattle.pol_cursor.specs.Parts.{counted, records_at}
use Rattle.pol_cursor.specs.References.{placed}
use Rattle.pol_trans.specs.declared.name_trans.NameTrans.{NameTrans}
use Rattle.pol_trans.specs.declared.name_trans.NameTrans.TheVariants.{Entries, Groups}
use Rattle.pol_trans.specs.NameTransRecord.{name_trans_at}
use Rattle.pol_trans.specs.NameGroupRecord.{name_group_at}

-- they are groups from version 33 on, and stand one by one below it (libsepol's filename_trans_read and filename_trans_write)
abbrev pub has_groups : ℕ → Bool
has_groups version = nat_le POLICYDB_VERSION_COMP_FTRANS version

abbrev pub entries_at : Reader NameTrans
entries_at = counted NAMETRANS_COUNT (records_at (placed name_trans_at)) >>= λ entries. done (Entries entries)

abbrev pub groups_at : Reader NameTrans
groups_at = counted NAMEGROUP_COUNT (records_at (placed name_group_at)) >>= λ groups. done (Groups groups)

abbrev pub name_transitions_at : ℕ → Reader NameTrans
name_transitions_at version = if has_groups version then groups_at else entries_at
