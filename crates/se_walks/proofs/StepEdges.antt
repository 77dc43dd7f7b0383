-- Texts of edges that were added behind others.
use Rattle.std.proofs.Common.{◌≡◌, ◌∙◌, ◌++◌, ◌-◌, ℕ, zero, suc, List, [], ◌∷◌, Result, Ok, Err, OnOk, ap, arith, drop, length, length-append, take, take_all}

behind : (had edge : List ℕ) (start : ℕ) → start ≡ length had → drop start (had ++ edge) ≡ edge
behind [] edge start is = ap (λ n. drop n edge) is
behind (x ∷ had) edge zero is = absurd (omega (arith, is))
behind (x ∷ had) edge (suc start) is = behind had edge start (omega (arith, is))

-- what was added, from its start on
pub added_is : (had edge has all : List ℕ) (start : ℕ) → start ≡ length had → has ≡ had ++ edge → all ≡ has → take (length all - start) (drop start all) ≡ edge
added_is had edge has all start at added is =
    let whole : all ≡ had ++ edge = is ∙ added in
    let long = length-append had edge in
    ap (λ (l : List ℕ). take (length l - start) (drop start l)) whole ∙ ap (take (length (had ++ edge) - start)) (behind had edge start at) ∙ take_all (length (had ++ edge) - start) edge (omega (arith, at, long))

-- what is true is so where a call succeeds
pub on_any : {T E : Type 0} (result : Result T E) (P : Type 0) → P → OnOk result P
on_any (Ok x) P p = p
on_any (Err e) P p = tt
