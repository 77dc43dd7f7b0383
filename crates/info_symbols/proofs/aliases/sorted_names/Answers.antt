use Rattle.std.proofs.Common.{List, ℕ, Bor, map, subst}
use Rattle.std.specs.List.Sorted.{IsPermutation}
use Rattle.std.specs.Ordering.{nat_cmp, is_lt}
use Rattle.std.specs.Cmp.Lexicographic.{slice_cmp}
use Rattle.std.proofs.lemmas.List.Sorted.{IsPermutation-map}
use Rattle.pol_texts.proofs.OrderedNames.{in_order_is, sorted_map}
use Rattle.info_symbols.proofs.aliases.sorted_names.Goals as goal

pub returns : goal.returns
returns c =
    let now : Bor (List ℕ) → List ℕ = λ name. name.now in
    let sorted = c.sort.new.self.items in
    in_order_is (map now c.args.names.now) (map now sorted) (record {
      same = subst (λ (names : List (Bor (List ℕ))). IsPermutation (map now names) (map now sorted)) c.in_ok-sorted.ensures.items (IsPermutation-map now c.in_ok-sorted.sorted.items sorted c.sort.ensures.permutation);
      rises = sorted_map now (λ x y. is_lt (slice_cmp nat_cmp x y)) sorted c.in_ok-sort.ensures.sorted;
    })
