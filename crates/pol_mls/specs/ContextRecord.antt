-- Record 24: a security context, which is a user, a role, a type and a range (libsepol's context_read_and_validate).
use Rattle.std.specs.Prelude.{ℕ, ◌+◌, ◌^◌, ◌<◌, List, ◌∷◌, ◌++◌}
use Rattle.pol_fields.specs.declared.table_kind.TableKind.TheVariants.{Users, Roles, Types}
use Rattle.pol_fields.specs.declared.fields.TheConstants.{CONTEXT_USER, CONTEXT_ROLE, CONTEXT_TYPE}
use Rattle.pol_cursor.specs.Outcome.{Reader, ◌>>=◌, done}
use Rattle.pol_cursor.specs.Parts.{num, number}
use Rattle.pol_cursor.specs.References.{Placed, Reference}
use Rattle.pol_cursor.specs.Spelling.{bytes_of}
use Rattle.pol_mls.specs.RangeRecord.{range_at, spell_range, RangeFits, range_in, range_length, range_end, HasRange, range_references}
use Rattle.pol_mls.specs.declared.context_rec.ContextRec.{ContextRec}

-- ---- reading and spelling

unfoldable pub context_at : Reader ContextRec
context_at = do
  user ← number CONTEXT_USER 4
  role ← number CONTEXT_ROLE 4
  type_value ← number CONTEXT_TYPE 4
  range ← range_at
  done (record { user = user; role = role; type_value = type_value; range = range })

abbrev pub spell_context : ContextRec → List ℕ
spell_context context = bytes_of 4 context.user ++ bytes_of 4 context.role ++ bytes_of 4 context.type_value ++ spell_range context.range

-- the numbers of a context fit their fields
pub record ContextFits (context : ContextRec) : Type 0 where
  pub user : context.user < 2 ^ 32
  pub role : context.role < 2 ^ 32
  pub type_value : context.type_value < 2 ^ 32
  pub range : RangeFits context.range

-- ---- the context that stands at a place

abbrev pub context_in : List ℕ → ℕ → ContextRec
context_in bytes place = record {
  user = num bytes place 4;
  role = num bytes (place + 4) 4;
  type_value = num bytes (place + 8) 4;
  range = range_in bytes (place + 12);
}

-- how many bytes a context takes
abbrev pub context_length : ContextRec → ℕ
context_length context = 12 + range_length context.range

-- the place behind the one there
abbrev pub context_end : List ℕ → ℕ → ℕ
context_end bytes place = range_end bytes (place + 12)

-- a context stands there, in a buffer of a policy's size
abbrev pub HasContext : List ℕ → ℕ → Type 0
HasContext bytes place = HasRange bytes (place + 12)

-- ---- what it names

-- the user, the role and the type, and then the sensitivities
abbrev pub context_references : Placed ContextRec → List Reference
context_references context =
    record { place = context.place; field = CONTEXT_USER; table = Users; value = context.value.user } ∷
    record { place = context.place + 4; field = CONTEXT_ROLE; table = Roles; value = context.value.role } ∷
    record { place = context.place + 8; field = CONTEXT_TYPE; table = Types; value = context.value.type_value } ∷
    range_references (record { place = context.place + 12; value = context.value.range })
