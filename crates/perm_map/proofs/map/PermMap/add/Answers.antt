use Rattle.std.proofs.Common.{ℕ, List, ap, ◌∙◌}
use Rattle.perm_map.specs.declared.direction.Direction.{Direction}
use Rattle.perm_map.specs.declared.map.Key.{Key}
use Rattle.perm_map.specs.Inner.KeyedWeights.{entries_kept}
use Rattle.perm_map.specs.PermissionMap.{weights_of}
use Rattle.perm_map.proofs.Gaining.{inserted}
use Rattle.perm_map.proofs.map.PermMap.add.Goals as goal

pub returns : goal.returns
returns c = rw (← c.self.view_is) (
    ap (λ (kept : List (Key × (Direction × ℕ))). weights_of (entries_kept kept)) c.in_ok-insert.ensures.entries
    ∙ inserted (record { class = c.args.class; permission = c.args.line.name }) (c.args.line.direction, c.args.line.weight) c.self.inside.weights.entries)
