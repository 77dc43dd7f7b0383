-- Record 27: the context of a range of ports (libsepol's ocontext_read_selinux).
use Rattle.std.specs.Prelude.{ℕ, ◌+◌, ◌^◌, ◌<◌, List, ◌++◌}
use Rattle.pol_fields.specs.declared.fields.TheConstants.{PORT_PROTOCOL, PORT_LOW, PORT_HIGH}
use Rattle.pol_cursor.specs.Outcome.{Reader, ◌>>=◌, done}
use Rattle.pol_cursor.specs.Parts.{num, number}
use Rattle.pol_cursor.specs.References.{Placed, Reference}
use Rattle.pol_cursor.specs.Spelling.{bytes_of}
use Rattle.pol_mls.specs.ContextRecord.{context_at, spell_context, ContextFits, context_in, HasContext, context_references}
use Rattle.pol_contexts.specs.declared.port_rec.PortRec.{PortRec}

-- ---- reading and spelling

unfoldable pub port_at : Reader PortRec
port_at = do
  protocol ← number PORT_PROTOCOL 4
  low ← number PORT_LOW 4
  high ← number PORT_HIGH 4
  context ← context_at
  done (record { protocol = protocol; low = low; high = high; context = context })

abbrev pub spell_port : PortRec → List ℕ
spell_port entry = bytes_of 4 entry.protocol ++ bytes_of 4 entry.low ++ bytes_of 4 entry.high ++ spell_context entry.context

-- the numbers of an entry fit their fields
pub record PortFits (entry : PortRec) : Type 0 where
  pub protocol : entry.protocol < 2 ^ 32
  pub low : entry.low < 2 ^ 32
  pub high : entry.high < 2 ^ 32
  pub context : ContextFits entry.context

-- ---- the entry that stands at a place

abbrev pub port_in : List ℕ → ℕ → PortRec
port_in bytes place = record {
  protocol = num bytes place 4;
  low = num bytes (place + 4) 4;
  high = num bytes (place + 8) 4;
  context = context_in bytes (place + 12);
}

abbrev pub HasPort : List ℕ → ℕ → Type 0
HasPort bytes place = HasContext bytes (place + 12)

-- ---- what it names

abbrev pub port_references : Placed PortRec → List Reference
port_references entry = context_references (record { place = entry.place + 12; value = entry.value.context })
