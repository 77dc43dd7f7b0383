-- What `next` gives, step after step.
use Rattle.std.proofs.Common.{◌≡◌, ℕ, zero, suc, ◌+◌, List, [], ◌∷◌, length, drop, refl, sym, ap, subst, ◌∙◌, arith, Option, Some, None, slice_get}
use Rattle.std.proofs.lemmas.List.{drop_all}
use Rattle.std.proofs.lemmas.Option.{slice_get_within}
use Rattle.set_products.specs.declared.entry.Place.{Place}
use Rattle.set_products.specs.declared.entry.Single.{Single}
use Rattle.set_products.specs.Members.{Product, members}
use Rattle.set_products.specs.Standing.{StandsAt, NextGives, IsNext, IsListing}

drop_here : {X : Type 0} (xs : List X) (k : ℕ) (x : X) → slice_get xs k ≡ Some x → drop k xs ≡ x ∷ drop (k + 1) xs
drop_here [] k x e = absurd cc
drop_here {X} (y ∷ ys) zero x e = let same : y ≡ x = cc in ap (λ (z : X). z ∷ ys) same
drop_here {X} (y ∷ ys) (suc k) x e =
    let on : suc k + 1 ≡ suc (k + 1) = omega arith in
    drop_here ys k x e ∙ ap (λ (n : ℕ). x ∷ drop n (y ∷ ys)) (sym on)

module _ (ps : List Product) (next : Place → Option (Single × Place)) (steps : IsNext ps next) where
  -- what is left from a place on is given
  listed : (n : ℕ) (at : Place) (k : ℕ) → StandsAt ps at k → length (members ps) ≡ k + n → IsListing next at (drop k (members ps))
  listed zero at k h long = by (next at) refl (steps at k h)
    where
      by : (r : Option (Single × Place)) → next at ≡ r → NextGives ps k r → IsListing next at (drop k (members ps))
      by None e g = subst (IsListing next at) (sym (drop_all k (members ps) (omega (arith, long)))) e
      by (Some step) e g = absurd (omega (arith, long, slice_get_within (members ps) k step.0 g.0))
  listed (suc n) at k h long = by (λ place stands. listed n place (k + 1) stands (omega (arith, long))) (next at) refl (steps at k h)
    where
      by : ((place : Place) → StandsAt ps place (k + 1) → IsListing next place (drop (k + 1) (members ps))) → (r : Option (Single × Place)) → next at ≡ r → NextGives ps k r → IsListing next at (drop k (members ps))
      by rest None e g = absurd (omega (arith, long, g))
      by rest (Some step) e g = subst (IsListing next at) (sym (drop_here (members ps) k step.0 g.0)) (step.1, e, rest step.1 g.1)

  pub all_listed : (first : Place) → StandsAt ps first 0 → IsListing next first (members ps)
  all_listed first h = listed (length (members ps)) first 0 h (omega arith)

  -- and nothing else
  pub only_listed : (seen : List Single) (at : Place) (k : ℕ) → StandsAt ps at k → IsListing next at seen → seen ≡ drop k (members ps)
  only_listed [] at k h e =
      let end : NextGives ps k None = subst (NextGives ps k) e (steps at k h) in
      sym (drop_all k (members ps) (omega (arith, end)))
  only_listed (s ∷ ss) at k h (after, e, rest) =
      let g : NextGives ps k (Some (s, after)) = subst (NextGives ps k) e (steps at k h) in
      ap (λ (xs : List Single). s ∷ xs) (only_listed ss after (k + 1) g.1 rest) ∙ sym (drop_here (members ps) k s g.0)
