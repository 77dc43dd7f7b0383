-- Record 33: the context of an InfiniBand device at a port (libsepol's ocontext_read_selinux).
use Rattle.std.specs.Prelude.{ℕ, ◌+◌, ◌^◌, ◌<◌, List, ◌++◌, length, take, drop}
use Rattle.pol_fields.specs.declared.fields.TheConstants.{IBENDPORT_LEN, IBENDPORT_PORT, IBENDPORT_NAME}
use Rattle.pol_cursor.specs.Outcome.{Reader, ◌>>=◌, done}
use Rattle.pol_cursor.specs.Parts.{num, number}
use Rattle.pol_cursor.specs.References.{Placed, Reference}
use Rattle.pol_cursor.specs.Spelling.{bytes_of}
use Rattle.pol_cursor.specs.FileNames.{name_length_at, name_bytes_at, NameFits}
use Rattle.pol_mls.specs.ContextRecord.{context_at, spell_context, ContextFits, context_in, HasContext, context_references}
use Rattle.pol_contexts.specs.declared.ibendport_rec.IbEndPortRec.{IbEndPortRec}

-- ---- reading and spelling

-- The port stands between the length of the name and the name.
unfoldable pub ibendport_at : Reader IbEndPortRec
ibendport_at = do
  len ← name_length_at IBENDPORT_LEN
  port ← number IBENDPORT_PORT 4
  name ← name_bytes_at IBENDPORT_NAME len
  context ← context_at
  done (record { port = port; name = name; context = context })

abbrev pub spell_ibendport : IbEndPortRec → List ℕ
spell_ibendport entry = bytes_of 4 (length entry.name) ++ bytes_of 4 entry.port ++ entry.name ++ spell_context entry.context

-- the length and the numbers of an entry fit their fields
pub record IbEndPortFits (entry : IbEndPortRec) : Type 0 where
  pub port : entry.port < 2 ^ 32
  pub name : NameFits entry.name
  pub context : ContextFits entry.context

-- ---- the entry that stands at a place

abbrev pub ibendport_in : List ℕ → ℕ → IbEndPortRec
ibendport_in bytes place = record {
  port = num bytes (place + 4) 4;
  name = take (num bytes place 4) (drop (place + 8) bytes);
  context = context_in bytes (place + 8 + num bytes place 4);
}

abbrev pub HasIbEndPort : List ℕ → ℕ → Type 0
HasIbEndPort bytes place = HasContext bytes (place + 8 + num bytes place 4)

-- ---- what it names

abbrev pub ibendport_references : Placed IbEndPortRec → List Reference
ibendport_references entry = context_references (record { place = entry.place + 8 + length entry.value.name; value = entry.value.context })
