-- Record 30: how the files of a file system get their contexts (libsepol's ocontext_read_selinux).
use Rattle.std.specs.Prelude.{ℕ, ◌+◌, ◌^◌, ◌<◌, ◌&&◌, Option, List, ◌++◌, length, nat_le}
use Rattle.pol_fields.specs.declared.codes.TheConstants.{SECURITY_FS_USE_XATTR, SECURITY_FS_USE_TASK}
use Rattle.pol_fields.specs.declared.fields.TheConstants.{FSUSE_BEHAVIOUR, FSUSE_LEN, FSUSE_NAME}
use Rattle.pol_cursor.specs.Outcome.{Reader, ◌>>=◌, done}
use Rattle.pol_cursor.specs.Parts.{num, number_if, unless}
use Rattle.pol_cursor.specs.References.{Placed, Reference}
use Rattle.pol_cursor.specs.Spelling.{bytes_of}
use Rattle.pol_fields.specs.declared.fault.Cause.{Cause}
use Rattle.pol_fields.specs.declared.fault.Cause.TheVariants.{BadBehaviour}
use Rattle.pol_cursor.specs.FileNames.{name_at, spell_name, NameFits, name_in, name_end}
use Rattle.pol_mls.specs.ContextRecord.{context_at, spell_context, ContextFits, context_in, HasContext, context_references}
use Rattle.pol_contexts.specs.declared.fsuse_rec.FsUseRec.{FsUseRec}

-- ---- reading and spelling

-- one of the three that libsepol names: by extended attributes, by transition or by task
abbrev pub behaviour_test : ℕ → Option Cause
behaviour_test behaviour = unless (nat_le SECURITY_FS_USE_XATTR behaviour && nat_le behaviour SECURITY_FS_USE_TASK) BadBehaviour

unfoldable pub behaviour_at : Reader ℕ
behaviour_at = number_if FSUSE_BEHAVIOUR 4 behaviour_test

unfoldable pub fsuse_at : Reader FsUseRec
fsuse_at = do
  behaviour ← behaviour_at
  name ← name_at FSUSE_LEN FSUSE_NAME
  context ← context_at
  done (record { behaviour = behaviour; name = name; context = context })

abbrev pub spell_fsuse : FsUseRec → List ℕ
spell_fsuse entry = bytes_of 4 entry.behaviour ++ spell_name entry.name ++ spell_context entry.context

-- the length and the numbers of an entry fit their fields
pub record FsUseFits (entry : FsUseRec) : Type 0 where
  pub behaviour : entry.behaviour < 2 ^ 32
  pub name : NameFits entry.name
  pub context : ContextFits entry.context

-- ---- the entry that stands at a place

abbrev pub fsuse_in : List ℕ → ℕ → FsUseRec
fsuse_in bytes place = record {
  behaviour = num bytes place 4;
  name = name_in bytes (place + 4);
  context = context_in bytes (name_end bytes (place + 4));
}

abbrev pub HasFsUse : List ℕ → ℕ → Type 0
HasFsUse bytes place = HasContext bytes (name_end bytes (place + 4))

-- ---- what it names

abbrev pub fsuse_references : Placed FsUseRec → List Reference
fsuse_references entry = context_references (record { place = entry.place + 8 + length entry.value.name; value = entry.value.context })
