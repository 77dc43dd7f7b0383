-- The common bits of two sets, as a list.
use Rattle.std.proofs.Common.{◌≡◌, ◌+◌, ℕ, Bool, List, [], ◌∷◌, arith}
use Rattle.std.specs.List.{filter}
use Rattle.std.proofs.lemmas.Bool.{cond_both}
use Rattle.pol_bitmap.specs.declared.Node.{Node}
use Rattle.pol_bitmap.specs.Nodes.{bits_of, has_bit}
use Rattle.pol_bitmap.specs.Sets.{IsSet, IsCommon}
use Rattle.pol_bitmap.proofs.BitLists.{RisesFrom, rises_lower, rises_same, bits_rise, has_bit-from_bits, bits-from_has_bit}
use Rattle.pol_bitmap.proofs.Elements.{keeps, kept}

filter_rises : (p : ℕ → Bool) (least : ℕ) (xs : List ℕ) → RisesFrom least xs → RisesFrom least (filter p xs)
filter_rises p least [] h = tt
filter_rises p least (x ∷ xs) h =
    let rest = filter_rises p (x + 1) xs h.1 in
    cond_both (p x) (x ∷ filter p xs) (filter p xs) (RisesFrom least) (λ t. (h.0, rest)) (λ t. rises_lower least (x + 1) (filter p xs) (omega (arith, h.0)) rest)

pub common_is_filter : (given left common : List Node) → IsSet given → IsSet common → IsCommon (bits_of given) (bits_of left) (bits_of common) → bits_of common ≡ filter (has_bit left) (bits_of given)
common_is_filter given left common set made is =
    rises_same 0 0 (bits_of common) (filter (has_bit left) (bits_of given)) (bits_rise 0 common made.0) (filter_rises (has_bit left) 0 (bits_of given) (bits_rise 0 given set.0)) λ x. (
      λ m. let both = (is.each x).0 m in keeps (has_bit left) (bits_of given) x both.0 (has_bit-from_bits left x both.1),
      λ m. let both = kept (has_bit left) (bits_of given) x m in (is.each x).1 (both.0, bits-from_has_bit left x both.1),
    )
