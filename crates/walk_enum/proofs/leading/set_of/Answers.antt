use Rattle.std.proofs.Common.{◌≡◌, ℕ, List, sym, subst, ◌∙◌}
use Rattle.std.specs.List.{Contains}
use Rattle.std.proofs.lemmas.Result.{IfOk-weaker}
use Rattle.pol_bitmap.specs.Nodes.{bits_of}
use Rattle.pol_bitmap.proofs.KeptOnce.{kept_once, rise_once}
use Rattle.walk_enum.proofs.leading.set_of.Goals as goal

pub from_rising-requires : goal.from_rising-requires
from_rising-requires c = rw c.deref.ensures.value (rise_once c.sort_unstable.new.self.items c.dedup.new.self.items c.sort_unstable.ensures.sorted c.dedup.ensures.filtered)

pub returns : goal.returns
returns c =
    let nodes = c.args.nodes.now.items in
    IfOk-weaker c.from_rising.result (λ s. bits_of s ≡ c.deref.result.now) (λ s. (node : ℕ) → Contains nodes node → Contains (bits_of s) node)
    (λ s is node has. subst (λ (l : List ℕ). Contains l node) (sym (is ∙ c.deref.ensures.value))
    ((kept_once nodes c.sort_unstable.new.self.items c.dedup.new.self.items c.sort_unstable.ensures.permutation c.dedup.ensures.filtered node).1 has)) c.from_rising.ensures.bits
