-- Texts that are added part by part.
use Rattle.std.proofs.Common.{◌≡◌, ◌∙◌, ◌++◌, List, ℕ, Result, Ok, Err, OnOk, append_assoc, ap}

-- a part after those that were added
pub onto : (x y z a b : List ℕ) → y ≡ x ++ a → z ≡ y ++ b → z ≡ x ++ (a ++ b)
onto x y z a b p q = q ∙ ap (λ (text : List ℕ). text ++ b) p ∙ append_assoc x a b

-- and the last part, which a call adds if it ends well
pub onto-last : {T E : Type 0} (result : Result T E) (x y z a b : List ℕ) → y ≡ x ++ a → OnOk result (z ≡ y ++ b) → OnOk result (z ≡ x ++ (a ++ b))
onto-last (Ok value) x y z a b p q = onto x y z a b p q
onto-last (Err error) x y z a b p q = q
