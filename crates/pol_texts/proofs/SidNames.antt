-- The numbers of initial SIDs that have no name.
use Rattle.std.proofs.Common.{◌≡◌, ℕ, zero, suc, ◌≤◌, None, arith}
use Rattle.std.proofs.lemmas.Option.{slice_get_past}
use Rattle.pol_texts.specs.NumberNames.{sid_names, known_sid}

pub no_sid_past : (n : ℕ) → 28 ≤ n → known_sid n ≡ None
no_sid_past zero le = absurd (omega arith)
no_sid_past (suc n) le = slice_get_past sid_names n (omega arith)
