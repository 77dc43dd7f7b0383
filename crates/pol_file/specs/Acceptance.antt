-- Which files are policies: those that are read whole, and whose references are all declared (libsepol's policydb_read and
-- policydb_validate; the order of faults is this project's own).
use Rattle.std.specs.Prelude.{◌≡◌, ℕ, List, Result, Ok, Err, Option, Some, None}
use Rattle.pol_fields.specs.declared.Fault.{Fault}
use Rattle.pol_cursor.specs.declared.ReadError.{ReadError}
use Rattle.pol_cursor.specs.declared.ReadError.TheVariants as errors
use Rattle.pol_cursor.specs.Outcome.{Outcome, Got, Bad}
use Rattle.pol_cursor.specs.References.{dangling_of}
use Rattle.pol_symbols.specs.PolicySymbols.{name_in}
use Rattle.pol_file.specs.PolicyParts.{policy_at}
use Rattle.pol_file.specs.PolicyReferences.{policy_references}
use Rattle.pol_file.specs.declared.parts.Parts.{Parts}

-- the first reference of a policy whose value no primary record of its table declares, as a fault at its field
abbrev pub undeclared : Parts → Option Fault
undeclared policy = dangling_of (name_in policy.symbols) (policy_references policy)

abbrev pub unless_undeclared : Option Fault → Parts → Result Parts Fault
unless_undeclared None policy = Ok policy
unless_undeclared (Some fault) policy = Err fault

-- the policy that was read, unless one of its references is undeclared
abbrev pub judged : Outcome Parts → Result Parts Fault
judged (Bad fault) = Err fault
judged (Got policy next) = unless_undeclared (undeclared policy) policy

-- the policy in a file, or its first faulty field, else its first reference that is undeclared
unfoldable pub accept : List ℕ → Result Parts Fault
accept bytes = judged (policy_at bytes 0)

-- What the reader of the code answers is that, where memory suffices.
abbrev pub Accepts : {P : Type 0} → (P → Parts) → Result P ReadError → List ℕ → Type 0
Accepts parts (Ok policy) bytes = accept bytes ≡ Ok (parts policy)
Accepts parts (Err errors.Memory) bytes = Unit {0}
Accepts parts (Err (errors.Fault fault)) bytes = accept bytes ≡ Err fault
