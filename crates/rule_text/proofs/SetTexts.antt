-- Sets of names, as they are written one after the other.
use Rattle.std.proofs.Common.{◌≡◌, ℕ, List, ◌∷◌, ◌++◌, append_assoc}
use Rattle.std.specs.Prelude.{codes}
use Rattle.pol_texts.specs.SetTexts.{listed, set_text}

braced : (a others : List ℕ) → codes "{" ++ ((codes " " ++ a) ++ others) ++ codes " }" ≡ codes "{ " ++ (a ++ (others ++ codes " }"))
braced a others = simp append_assoc

-- two names and more
pub set_of_two : (a b : List ℕ) (bs : List (List ℕ)) → set_text (a ∷ b ∷ bs) ≡ codes "{ " ++ (a ++ (listed (b ∷ bs) ++ codes " }"))
set_of_two a b bs = braced a (listed (b ∷ bs))

-- the second name, where the first was not written yet
pub second_name : (out a b d e first name : List ℕ) (names : List (List ℕ)) → a ≡ out ++ codes "{ " → b ≡ a ++ first → d ≡ b ++ codes " " → e ≡ d ++ name → e ++ (listed names ++ codes " }") ≡ out ++ set_text (first ∷ name ∷ names)
second_name out a b d e first name names ha hb hd he = rw (he, hd, hb, ha, set_of_two first name names) (two_names out first name (listed names))
  where
    two_names : (out first name others : List ℕ) → out ++ codes "{ " ++ first ++ codes " " ++ name ++ (others ++ codes " }") ≡ out ++ (codes "{ " ++ (first ++ (((codes " " ++ name) ++ others) ++ codes " }")))
    two_names out first name others = simp append_assoc

-- one name more
pub next_name : (out a b name : List ℕ) (names : List (List ℕ)) → a ≡ out ++ codes " " → b ≡ a ++ name → b ++ (listed names ++ codes " }") ≡ out ++ (listed (name ∷ names) ++ codes " }")
next_name out a b name names ha hb = rw (hb, ha) (one_name out name (listed names))
  where
    one_name : (out name others : List ℕ) → out ++ codes " " ++ name ++ (others ++ codes " }") ≡ out ++ (((codes " " ++ name) ++ others) ++ codes " }")
    one_name out name others = simp append_assoc
