use Rattle.std.proofs.Common.{sym, ◌∙◌}
use Rattle.perm_map.proofs.Gaining.{kept_lookup}
use Rattle.perm_map.proofs.map.PermMap.weight.Goals as goal

pub returns : goal.returns
returns c = rw (← c.self.view_is) (c.copied.ensures ∙ c.get.ensures.value ∙ sym (kept_lookup c.args.class.now c.args.permission.now c.self.inside.weights.entries))
