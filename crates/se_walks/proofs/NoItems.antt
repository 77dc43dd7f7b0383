-- Where nothing is listed.
use Rattle.std.proofs.Common.{◌≡◌, ◌↔◌, ℕ, Bool, true, false, List, [], Option, Ok, IsTrue, refl, sym}
use Rattle.std.specs.Prelude.{Contains}
use Rattle.pol_bitmap.specs.declared.Node.{Node}
use Rattle.pol_bitmap.specs.Nodes.{bits_of, has_bit}
use Rattle.pol_bitmap.proofs.BitLists.{bits-from_has_bit, has_bit-from_bits}
use Rattle.std.specs.List.{concat}
use Rattle.se_outside.specs.Outside.{SinkState}
use Rattle.se_items.specs.Paging.{page}
use Rattle.se_items.specs.Writing.{Sends}
use Rattle.se_items.proofs.Resuming.{page-none}
use Rattle.se_items.proofs.Wrotes.{none_sent}

pub no_items_sent : {T : Type 0} (sink : SinkState) (from : ℕ) (limit : Option ℕ) (u : T) → Sends sink sink (concat (page from limit [])) (Ok u)
no_items_sent sink from limit u = rw (page-none from limit) (none_sent sink u)

by-test : (nodes : List Node) (bit : ℕ) → (Contains (bits_of nodes) bit → ⊥) → (b : Bool) → has_bit nodes bit ≡ b → false ≡ has_bit nodes bit
by-test nodes bit none true e = absurd (none (bits-from_has_bit nodes bit e))
by-test nodes bit none false e = sym e

-- whether a set has a bit
pub has-is : (r : Bool) (nodes : List Node) (bit : ℕ) → (IsTrue r ↔ Contains (bits_of nodes) bit) → r ≡ has_bit nodes bit
has-is true nodes bit h = sym (has_bit-from_bits nodes bit (h.0 refl))
has-is false nodes bit h = by-test nodes bit (λ there. let e = h.1 there in cc) (has_bit nodes bit) refl
