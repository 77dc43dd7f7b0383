-- The constraints of a class, one behind the other (libsepol's read_cons_helper).
use Rattle.std.specs.Prelude.{ℕ, nat_le, Bool, List}
use Rattle.pol_fields.specs.declared.codes.TheConstants.{POLICYDB_VERSION_CONSTRAINT_NAMES}
use Rattle.pol_cursor.specs.Outcome.{Reader}
use Rattle.pol_cursor.specs.Parts.{records_at}
use Rattle.pol_cursor.specs.References.{values_of}
use Rattle.pol_cursor.specs.NestedRecords.{nested_in, nested_end, HasNested}
use Rattle.pol_constraints.specs.declared.constraint_rec.ConstraintRec.{ConstraintRec}
use Rattle.pol_constraints.specs.ConstraintRecord.{constraint_at, constraint_in, constraint_end, HasConstraint}

-- n constraints of a policy of a version, in which a third context is allowed or not
abbrev pub constraints_at : ℕ → Bool → ℕ → Reader (List ConstraintRec)
constraints_at version xtarget n = records_at (constraint_at version xtarget) n

-- the constraints of a version have type sets
abbrev pub has_type_sets : ℕ → Bool
has_type_sets version = nat_le POLICYDB_VERSION_CONSTRAINT_NAMES version

-- ---- the constraints that stand from a place on

-- n of them
abbrev pub constraints_in : ℕ → List ℕ → ℕ → ℕ → List ConstraintRec
constraints_in version bytes place n = values_of (nested_in (constraint_in version) (constraint_end version) bytes place n)

-- the place behind them
abbrev pub constraints_end : ℕ → List ℕ → ℕ → ℕ → ℕ
constraints_end version = nested_end (constraint_end version)

-- they stand there
abbrev pub HaveConstraints : ℕ → List ℕ → ℕ → ℕ → Type 0
HaveConstraints version = HasNested (HasConstraint version) (constraint_end version)
