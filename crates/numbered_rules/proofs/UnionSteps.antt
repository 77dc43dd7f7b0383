-- The sets of some numbers put together, from the last to the first.
use Rattle.std.proofs.Common.{◌≡◌, ℕ, suc, ◌-◌, ◌<◌, ◌≤◌, ◌++◌, ◌∷◌, [], List, length, drop, slice_index_or, drop-cons, refl, sym, ap, ◌∙◌, arith}
use Rattle.std.specs.List.{flat_map}
use Rattle.std.specs.Ordering.{nat_cmp}
use Rattle.keyed_lists.specs.KeyOrder.{keys_in_order}
use Rattle.pol_bitmap.specs.declared.node.Node.{Node}
use Rattle.pol_bitmap.specs.Nodes.{bits_of}
use Rattle.pol_bitmap.specs.Sets.{IsSet, IsUnion}
use Rattle.numbered_rules.specs.Forms.{bits_at}
use Rattle.numbered_rules.proofs.SetFacts.{alone_in_order, union_in_order}

dropped : (sets : List (List Node)) (numbers : List ℕ) (n d : ℕ) → 0 < n → n ≤ length numbers
    → flat_map (bits_at sets) (drop (n - 1) numbers) ≡ bits_at sets (slice_index_or numbers (n - 1) d) ++ flat_map (bits_at sets) (drop n numbers)
dropped sets numbers n d some within =
    let back : suc (n - 1) ≡ n = omega arith in
    ap (flat_map (bits_at sets)) (drop-cons numbers (n - 1) d (omega arith)) ∙ ap (λ m. bits_at sets (slice_index_or numbers (n - 1) d) ++ flat_map (bits_at sets) (drop m numbers)) back

drop_all : (numbers : List ℕ) → drop (length numbers) numbers ≡ []
drop_all [] = refl
drop_all (n ∷ numbers) = drop_all numbers

pub first_step : (sets : List (List Node)) (numbers : List ℕ) (d : ℕ) (union : List Node) → 0 < length numbers → IsSet union → bits_of union ≡ bits_at sets (slice_index_or numbers (length numbers - 1) d)
    → bits_of union ≡ keys_in_order nat_cmp (flat_map (bits_at sets) (drop (length numbers - 1) numbers))
first_step sets numbers d union some is e =
    alone_in_order union is
    ∙ ap (λ ns. keys_in_order nat_cmp (ns ++ [])) e
    ∙ ap (keys_in_order nat_cmp) (sym (dropped sets numbers (length numbers) d some (omega arith)
    ∙ ap (λ ms. bits_at sets (slice_index_or numbers (length numbers - 1) d) ++ flat_map (bits_at sets) ms) (drop_all numbers)))

pub next_step : (sets : List (List Node)) (numbers : List ℕ) (n d : ℕ) (set union new : List Node) → 0 < n → n ≤ length numbers → IsSet new → bits_of set ≡ bits_at sets (slice_index_or numbers (n - 1) d)
    → IsUnion (bits_of set) (bits_of union) (bits_of new) → bits_of union ≡ keys_in_order nat_cmp (flat_map (bits_at sets) (drop n numbers))
    → bits_of new ≡ keys_in_order nat_cmp (flat_map (bits_at sets) (drop (n - 1) numbers))
next_step sets numbers n d set union new some within is e united before =
    union_in_order set union new (flat_map (bits_at sets) (drop n numbers)) is united before
    ∙ ap (λ ns. keys_in_order nat_cmp (ns ++ flat_map (bits_at sets) (drop n numbers))) e
    ∙ ap (keys_in_order nat_cmp) (sym (dropped sets numbers n d some within))
