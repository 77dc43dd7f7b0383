-- Record 26 and 28: the two contexts of a file system, and in the same form those of a network interface (libsepol's ocontext_read_selinux).
use Rattle.std.specs.Prelude.{ℕ, ◌+◌, List, ◌++◌, length}
use Rattle.pol_fields.specs.declared.field.Field.{Field}
use Rattle.pol_cursor.specs.Outcome.{Reader, ◌>>=◌, done}
use Rattle.pol_cursor.specs.References.{Placed, Reference}
use Rattle.pol_cursor.specs.FileNames.{name_at, spell_name, NameFits, name_in, name_end}
use Rattle.pol_mls.specs.ContextRecord.{context_at, spell_context, ContextFits, context_in, context_length, context_end, HasContext, context_references}
use Rattle.pol_contexts.specs.declared.named_rec.NamedRec.{NamedRec}

-- ---- reading and spelling

-- an entry of one of the two tables, by the fields of its name
unfoldable pub named_at : Field → Field → Reader NamedRec
named_at len_field name_field = do
  name ← name_at len_field name_field
  context ← context_at
  second_context ← context_at
  done (record { name = name; context = context; second_context = second_context })

abbrev pub spell_named : NamedRec → List ℕ
spell_named entry = spell_name entry.name ++ spell_context entry.context ++ spell_context entry.second_context

-- the length and the numbers of an entry fit their fields
pub record NamedFits (entry : NamedRec) : Type 0 where
  pub name : NameFits entry.name
  pub context : ContextFits entry.context
  pub second_context : ContextFits entry.second_context

-- ---- the entry that stands at a place

abbrev pub named_in : List ℕ → ℕ → NamedRec
named_in bytes place = record {
  name = name_in bytes place;
  context = context_in bytes (name_end bytes place);
  second_context = context_in bytes (context_end bytes (name_end bytes place));
}

abbrev pub HasNamed : List ℕ → ℕ → Type 0
HasNamed bytes place = HasContext bytes (name_end bytes place) × HasContext bytes (context_end bytes (name_end bytes place))

-- ---- what it names

-- the place of the first context
abbrev pub context_place : Placed NamedRec → ℕ
context_place entry = entry.place + 4 + length entry.value.name

-- the place of the second one
abbrev pub second_place : Placed NamedRec → ℕ
second_place entry = context_place entry + context_length entry.value.context

-- the references of the first context, and then those of the second
abbrev pub named_references : Placed NamedRec → List Reference
named_references entry =
    context_references (record { place = context_place entry; value = entry.value.context })
    ++ context_references (record { place = second_place entry; value = entry.value.second_context })
