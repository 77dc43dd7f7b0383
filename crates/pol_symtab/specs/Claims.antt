-- What the records before one in its symbol table have taken: libsepol's hashtab_insert refuses a name twice, and its type_index
-- and the like refuse a value twice.
use Rattle.std.specs.Prelude.{ℕ, Bool, Option, Some, None, List, [], ◌∷◌, ◌++◌, nat_eq, if◌then◌else◌}
use Rattle.std.specs.List.{list_any}
use Rattle.std.specs.Str.{bytes_eq}

-- the names of those records, aliases included, and the values of the primary ones, each once
pub record Claims : Type 0 where
  pub names : List (List ℕ)
  pub values : List ℕ

abbrev pub no_claims : Claims
no_claims = record { names = []; values = [] }

abbrev pub has_name : Claims → List ℕ → Bool
has_name claims name = list_any (bytes_eq name) claims.names

abbrev pub has_value : Claims → ℕ → Bool
has_value claims value = list_any (nat_eq value) claims.values

-- a set of distinct members, with one more unless it is there
abbrev pub with_member : {A : Type 0} → (A → A → Bool) → List A → A → List A
with_member same members x = if list_any (same x) members then members else members ++ x ∷ []

-- the claims with those of one more record: its name, and its value where it is primary
abbrev pub with_claim : Claims → List ℕ → Option ℕ → Claims
with_claim claims name None = record { names = with_member bytes_eq claims.names name; values = claims.values }
with_claim claims name (Some value) = record { names = with_member bytes_eq claims.names name; values = with_member nat_eq claims.values value }

-- the claims after a record: its name, and its value where it is primary
abbrev pub claims_after : Claims → List ℕ → Bool → ℕ → Claims
claims_after claims name primary value = with_claim claims name (if primary then Some value else None)
