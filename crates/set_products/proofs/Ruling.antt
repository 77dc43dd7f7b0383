-- Entries that are one a rule.
use Rattle.std.proofs.Common.{◌≡◌, ℕ, suc, ◌+◌, List, [], ◌∷◌, ◌++◌, map, length, refl, sym, ◌∙◌, arith, Some, slice_get}
use Rattle.std.specs.List.{flat_map, enumerate_from}
use Rattle.std.proofs.lemmas.Option.{same_Some}
use Rattle.pol_bitmap.specs.declared.Node.{Node}
use Rattle.set_products.specs.declared.entry.Entry.{Entry}
use Rattle.set_products.specs.declared.entry.Single.{Single}
use Rattle.set_products.specs.Members.{bits_at, members_of, product_of, products_of, members, single_rules, AreOfRules}

-- a rule's number with the expansions of its ends
abbrev Numbered : Type 0
Numbered = ℕ × (List ℕ × List ℕ)

-- the singles of one rule
abbrev singles : Numbered → List Single
singles r = flat_map (λ s. map (λ t. record { rule = r.0; source = s; target = t }) r.1.1) r.1.0

ruled : (sets : List (List Node)) (from : ℕ) (entries : List Entry) (expansions : List (List ℕ × List ℕ)) → length entries ≡ length expansions
    → ((n : ℕ) (e : Entry) → slice_get entries n ≡ Some e → e.rule ≡ from + n)
    → ((n : ℕ) (e : Entry) → slice_get entries n ≡ Some e → slice_get expansions n ≡ Some (bits_at sets e.sources, bits_at sets e.targets))
    → flat_map members_of (products_of entries sets) ≡ flat_map singles (enumerate_from from expansions)
ruled sets from [] [] long rules ends = refl
ruled sets from [] (x ∷ xs) long rules ends = absurd cc
ruled sets from (e ∷ es) [] long rules ends = absurd cc
ruled sets from (e ∷ es) (x ∷ xs) long rules ends =
    let rule : e.rule ≡ from = rules 0 e refl ∙ omega arith in
    let pair : List ℕ × List ℕ = (bits_at sets e.sources, bits_at sets e.targets) in
    let both : x ≡ pair = same_Some x pair (ends 0 e refl) in
    let here : members_of (product_of sets e) ≡ singles (from, x) = λ i. singles (rule i, sym both i) in
    let rest = ruled sets (from + 1) es xs (omega (arith, long)) (λ n f is. rules (suc n) f is ∙ omega arith) (λ n f is. ends (suc n) f is) in
    λ i. here i ++ rest i

pub members_ruled : (entries : List Entry) (sets : List (List Node)) (expansions : List (List ℕ × List ℕ)) → AreOfRules entries sets expansions → members (products_of entries sets) ≡ single_rules expansions
unfolding members
members_ruled entries sets expansions h = ruled sets 0 entries expansions h.count (λ n e is. h.rules n e is ∙ omega arith) h.ends
