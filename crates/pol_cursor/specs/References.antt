-- References of a record to the values of the symbol tables (libsepol's policydb_validate): each value that a record
-- names has to be declared by a primary record of its table.
use Rattle.std.specs.Prelude.{◌≡◌, ℕ, List, [], ◌∷◌, Option, Some, None, is_some, unwrap_or, map, if◌then◌else◌, Result, Ok, Err}
use Rattle.std.specs.List.{flat_map}
use Rattle.pol_fields.specs.declared.field.Field.{Field}
use Rattle.pol_fields.specs.declared.fault.Fault.{Fault}
use Rattle.pol_fields.specs.declared.fault.Cause.TheVariants.{Dangling}
use Rattle.pol_fields.specs.declared.table_kind.TableKind.{TableKind}
use Rattle.pol_cursor.specs.Outcome.{Outcome, Reader, Got, and_then, fault}

-- a record and the place of its first byte
pub record Placed (A : Type 0) : Type 0 where
  pub place : ℕ
  pub value : A

-- a record with the place where it was read
unfoldable pub placed : {A : Type 0} → Reader A → Reader (Placed A)
placed record_at bytes place = and_then (record_at bytes place) (λ x next. Got (record { place = place; value = x }) next)

-- the records without their places
abbrev pub values_of : {A : Type 0} → List (Placed A) → List A
values_of records = map (λ r. r.value) records

-- an outcome of records with their places, without the places
abbrev pub without_places : {A : Type 0} → Outcome (List (Placed A)) → Outcome (List A)
without_places o = and_then o (λ records next. Got (values_of records) next)

-- a reference: the place of its field, the field, and the value of a table that it names
pub record Reference : Type 0 where
  pub place : ℕ
  pub field : Field
  pub table : TableKind
  pub value : ℕ

-- what names a value, by its table, where a primary record declares it
abbrev pub Named : Type 0
Named = TableKind → ℕ → Option (List ℕ)

-- the name of a value, which is empty where no primary record declares it
abbrev pub name_of : Named → TableKind → ℕ → List ℕ
name_of named table value = unwrap_or (named table value) []

-- the first reference whose value is not declared, as a fault at its field
abbrev pub dangling_of : Named → List Reference → Option Fault
dangling_of named [] = None
dangling_of named (r ∷ rs) = if is_some (named r.table r.value) then dangling_of named rs else Some (fault r.place r.field (Dangling r.table r.value))

-- the references of the records of a list
abbrev pub references_in : {A : Type 0} → (Placed A → List Reference) → List (Placed A) → List Reference
references_in references records = flat_map references records

-- all of them are declared, or the fault is the first that is not
abbrev pub AreDeclared : Result (Unit {0}) Fault → Named → List Reference → Type 0
AreDeclared (Ok u) named references = dangling_of named references ≡ None
AreDeclared (Err fault) named references = dangling_of named references ≡ Some fault
