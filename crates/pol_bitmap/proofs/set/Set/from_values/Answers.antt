use Rattle.std.proofs.Common.{◌≡◌, ℕ, List, sym, subst, ◌∙◌}
use Rattle.std.specs.Prelude.{◌↔◌, Contains}
use Rattle.std.proofs.lemmas.Result.{IfOk-weaker}
use Rattle.pol_bitmap.specs.Nodes.{bits_of}
use Rattle.pol_bitmap.proofs.KeptOnce.{kept_once, rise_once}
use Rattle.pol_bitmap.proofs.set.Set.from_values.Goals as goal

pub from_rising-requires : goal.from_rising-requires
from_rising-requires c = rw c.deref.ensures.value (rise_once c.sort_unstable.new.self.items c.dedup.new.self.items c.sort_unstable.ensures.sorted c.dedup.ensures.filtered)

pub returns-clause-bits : goal.returns-clause-bits
returns-clause-bits c =
    let values = c.args.values.items in
    let kept = kept_once values c.sort_unstable.new.self.items c.dedup.new.self.items c.sort_unstable.ensures.permutation c.dedup.ensures.filtered in
    IfOk-weaker c.from_rising.result (λ s. bits_of s ≡ c.deref.result.now) (λ s. (bit : ℕ) → Contains (bits_of s) bit ↔ Contains values bit)
    (λ s is bit. subst (λ (l : List ℕ). Contains l bit ↔ Contains values bit) (sym (is ∙ c.deref.ensures.value)) (kept bit)) c.from_rising.ensures.bits
