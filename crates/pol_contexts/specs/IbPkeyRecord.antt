-- Record 32: the context of a range of InfiniBand partition keys (libsepol's ocontext_read_selinux).
use Rattle.std.specs.Prelude.{ℕ, ◌+◌, ◌^◌, ◌<◌, ◌≡◌, List, ◌++◌, length, take, drop}
use Rattle.pol_fields.specs.declared.fields.TheConstants.{IBPKEY_PREFIX, IBPKEY_LOW, IBPKEY_HIGH}
use Rattle.pol_cursor.specs.Outcome.{Reader, ◌>>=◌, done}
use Rattle.pol_cursor.specs.Parts.{num, number, string}
use Rattle.pol_cursor.specs.References.{Placed, Reference}
use Rattle.pol_cursor.specs.Spelling.{bytes_of}
use Rattle.pol_mls.specs.ContextRecord.{context_at, spell_context, ContextFits, context_in, HasContext, context_references}
use Rattle.pol_contexts.specs.declared.ibpkey_rec.IbPkeyRec.{IbPkeyRec}

-- ---- reading and spelling

unfoldable pub ibpkey_at : Reader IbPkeyRec
ibpkey_at = do
  prefix ← string IBPKEY_PREFIX 8
  low ← number IBPKEY_LOW 4
  high ← number IBPKEY_HIGH 4
  context ← context_at
  done (record { prefix = prefix; low = low; high = high; context = context })

abbrev pub spell_ibpkey : IbPkeyRec → List ℕ
spell_ibpkey entry = entry.prefix ++ bytes_of 4 entry.low ++ bytes_of 4 entry.high ++ spell_context entry.context

-- the parts of an entry fit their fields
pub record IbPkeyFits (entry : IbPkeyRec) : Type 0 where
  pub prefix : length entry.prefix ≡ 8
  pub low : entry.low < 2 ^ 32
  pub high : entry.high < 2 ^ 32
  pub context : ContextFits entry.context

-- ---- the entry that stands at a place

abbrev pub ibpkey_in : List ℕ → ℕ → IbPkeyRec
ibpkey_in bytes place = record {
  prefix = take 8 (drop place bytes);
  low = num bytes (place + 8) 4;
  high = num bytes (place + 12) 4;
  context = context_in bytes (place + 16);
}

abbrev pub HasIbPkey : List ℕ → ℕ → Type 0
HasIbPkey bytes place = HasContext bytes (place + 16)

-- ---- what it names

abbrev pub ibpkey_references : Placed IbPkeyRec → List Reference
ibpkey_references entry = context_references (record { place = entry.place + 16; value = entry.value.context })
