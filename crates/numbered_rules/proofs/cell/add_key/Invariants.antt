use Rattle.std.proofs.Common.{◌≡◌, ◌++◌, take, drop}
use Rattle.keyed_lists.specs.KeyOrder.{with_key}
use Rattle.numbered_rules.specs.NumberedRules.{key_cmp}
use Rattle.numbered_rules.proofs.cell.add_key.Given as goal

abbrev pub invariant-loop-place : goal.invariant-loop-place
invariant-loop-place l =
    (l.keys.items ≡ l.fn.keys.items) × (with_key key_cmp l.key l.keys.items ≡ take l.place l.keys.items ++ with_key key_cmp l.key (drop l.place l.keys.items))
