-- Record 25: the context of an initial SID (libsepol's ocontext_read_selinux).
use Rattle.std.specs.Prelude.{ℕ, ◌+◌, ◌^◌, ◌<◌, List, ◌++◌}
use Rattle.pol_fields.specs.declared.fields.TheConstants.{SID_SID}
use Rattle.pol_cursor.specs.Outcome.{Reader, ◌>>=◌, done}
use Rattle.pol_cursor.specs.Parts.{num, number}
use Rattle.pol_cursor.specs.References.{Placed, Reference}
use Rattle.pol_cursor.specs.Spelling.{bytes_of}
use Rattle.pol_mls.specs.ContextRecord.{context_at, spell_context, ContextFits, context_in, HasContext, context_references}
use Rattle.pol_contexts.specs.declared.sid_rec.SidRec.{SidRec}

-- ---- reading and spelling

unfoldable pub sid_at : Reader SidRec
sid_at = do
  sid ← number SID_SID 4
  context ← context_at
  done (record { sid = sid; context = context })

abbrev pub spell_sid : SidRec → List ℕ
spell_sid entry = bytes_of 4 entry.sid ++ spell_context entry.context

-- the numbers of an entry fit their fields
pub record SidFits (entry : SidRec) : Type 0 where
  pub sid : entry.sid < 2 ^ 32
  pub context : ContextFits entry.context

-- ---- the entry that stands at a place

abbrev pub sid_in : List ℕ → ℕ → SidRec
sid_in bytes place = record { sid = num bytes place 4; context = context_in bytes (place + 4) }

abbrev pub HasSid : List ℕ → ℕ → Type 0
HasSid bytes place = HasContext bytes (place + 4)

-- ---- what it names

abbrev pub sid_references : Placed SidRec → List Reference
sid_references entry = context_references (record { place = entry.place + 4; value = entry.value.context })
