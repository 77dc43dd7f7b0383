-- A set without a bit.
use Rattle.std.proofs.Common.{◌≡◌, List, []}
use Rattle.pol_bitmap.specs.declared.Node.{Node}
use Rattle.pol_bitmap.specs.Nodes.{bits_of}
use Rattle.pol_bitmap.specs.Sets.{IsSet}
use Rattle.pol_bitmap.proofs.SetLaws.{sets_same_bits}

pub no_bits : (s : List Node) → IsSet s → bits_of s ≡ [] → s ≡ []
no_bits s h e = sets_same_bits s [] h (tt, tt) (record { each = λ bit. rw e (λ m. m, λ m. m) })
