-- Record 29 and 31: the context of IPv4 addresses, and in the same form that of IPv6 addresses (libsepol's ocontext_read_selinux).
use Rattle.std.specs.Prelude.{ℕ, ◌+◌, ◌≡◌, List, ◌++◌, length, take, drop}
use Rattle.pol_fields.specs.declared.field.Field.{Field}
use Rattle.pol_cursor.specs.Outcome.{Reader, ◌>>=◌, done}
use Rattle.pol_cursor.specs.Parts.{string}
use Rattle.pol_cursor.specs.References.{Placed, Reference}
use Rattle.pol_mls.specs.ContextRecord.{context_at, spell_context, ContextFits, context_in, HasContext, context_references}
use Rattle.pol_contexts.specs.declared.address_rec.AddressRec.{AddressRec}

-- ---- reading and spelling

-- an entry of one of the two tables, by the fields of its address and its mask, which have so many bytes
unfoldable pub address_at : Field → Field → (width : ℕ) → Reader (AddressRec width)
address_at address_field mask_field width = do
  address ← string address_field width
  mask ← string mask_field width
  context ← context_at
  done (record { address = address; mask = mask; context = context })

abbrev pub spell_address : {width : ℕ} → AddressRec width → List ℕ
spell_address entry = entry.address ++ entry.mask ++ spell_context entry.context

-- the parts of an entry fit their fields
pub record AddressFits (width : ℕ) (entry : AddressRec width) : Type 0 where
  pub address : length entry.address ≡ width
  pub mask : length entry.mask ≡ width
  pub context : ContextFits entry.context

-- ---- the entry that stands at a place

abbrev pub address_in : (width : ℕ) → List ℕ → ℕ → AddressRec width
address_in width bytes place = record {
  address = take width (drop place bytes);
  mask = take width (drop (place + width) bytes);
  context = context_in bytes (place + width + width);
}

abbrev pub HasAddress : ℕ → List ℕ → ℕ → Type 0
HasAddress width bytes place = HasContext bytes (place + width + width)

-- ---- what it names

abbrev pub address_references : (width : ℕ) → Placed (AddressRec width) → List Reference
address_references width entry = context_references (record { place = entry.place + width + width; value = entry.value.context })
