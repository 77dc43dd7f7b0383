-- How a set is spelled.
use Rattle.std.proofs.Common.{◌≡◌, ℕ, zero, suc, ◌+◌, ◌-◌, List, [], ◌∷◌, length, slice_get, Some, sym, ap, arith}
use Rattle.std.proofs.lemmas.Option.{slice_get_within}
use Rattle.pol_bitmap.specs.declared.node.Node.{Node}
use Rattle.pol_bitmap.specs.Bitmap.{high_of}

-- the highbit is the end of the last node
high_of-last : (ns : List Node) (i : ℕ) (n : Node) → i + 1 ≡ length ns → slice_get ns i ≡ Some n → high_of ns ≡ n.start + 64
high_of-last [] i n e at = absurd cc
high_of-last (m ∷ []) zero n e at = let same : m ≡ n = cc in ap (λ (x : Node). x.start + 64) same
high_of-last (m ∷ []) (suc i) n e at = absurd (omega arith)
high_of-last (m ∷ k ∷ ns) zero n e at = absurd (omega arith)
high_of-last (m ∷ k ∷ ns) (suc i) n e at = high_of-last (k ∷ ns) i n (omega arith) at

pub last_end : (ns : List Node) (n : Node) → slice_get ns (length ns - 1) ≡ Some n → n.start + 64 ≡ high_of ns
last_end ns n at = let lt = slice_get_within ns (length ns - 1) n at in sym (high_of-last ns (length ns - 1) n (omega arith) at)
