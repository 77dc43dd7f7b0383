-- What reading a symbol record says of it, and what the next record of its table is read under.
use Rattle.std.specs.Prelude.{◌≡◌, ℕ, ◌≤◌, Bool, true, false, List}
use Rattle.pol_cursor.specs.Outcome.{Reader, Got}
use Rattle.pol_symtab.specs.Claims.{Claims, has_name, has_value}

-- the fact holds of each value that is read
pub record Gives {A : Type 0} (r : Reader A) (P : A → Type 0) : Type 0 where
  pub each : (bytes : List ℕ) (place : ℕ) (x : A) (next : ℕ) → r bytes place ≡ Got x next → P x

-- A record that may stand behind those with the claims: none of them has its name, and where it is primary, its value is 1 to
-- nprim and none of the primary ones among them has it.
pub record IsFresh (nprim : ℕ) (claims : Claims) (name : List ℕ) (primary : Bool) (value : ℕ) : Type 0 where
  pub name_is_new : has_name claims name ≡ false
  pub value_is_new : primary ≡ true → (1 ≤ value) × (value ≤ nprim) × (has_value claims value ≡ false)
