-- The versions of the format that are read (this project reads those from 28 to 34).
use Rattle.std.specs.Prelude.{ℕ, ◌≤◌}
use Rattle.pol_fields.specs.declared.codes.TheConstants.{POLICYDB_VERSION_DEFAULT_TYPE, POLICYDB_VERSION_COND_XPERMS}

pub record IsVersion (version : ℕ) : Type 0 where
  pub least : POLICYDB_VERSION_DEFAULT_TYPE ≤ version
  pub most : version ≤ POLICYDB_VERSION_COND_XPERMS
