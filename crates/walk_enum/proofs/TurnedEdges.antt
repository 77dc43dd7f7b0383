-- Edges that are turned round join the nodes that they joined before.
use Rattle.std.proofs.Common.{◌≡◌, ℕ, ◌≤◌, Bool, true, false}
use Rattle.walk_enum.specs.Turned.{turned}

pub turned_between : (n : ℕ) (edge : ℕ → ℕ → Bool) → ((a b : ℕ) → edge a b ≡ true → (1 ≤ a) × (a ≤ n) × (1 ≤ b) × (b ≤ n)) → (reverse : Bool) (a b : ℕ) → turned reverse edge a b ≡ true → (1 ≤ a) × (a ≤ n) × (1 ≤ b) × (b ≤ n)
turned_between n edge between true a b e = let p = between b a e in (p.2, p.3, p.0, p.1)
turned_between n edge between false a b e = between a b e
