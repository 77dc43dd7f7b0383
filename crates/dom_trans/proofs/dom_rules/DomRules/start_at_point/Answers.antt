use Rattle.std.proofs.Common.{sym, ap, subst, ◌∙◌}
use Rattle.std.specs.List.{All, Contains}
use Rattle.pol_bitmap.specs.Nodes.{bits_of}
use Rattle.rules_between.specs.ChosenRules.{ChosenRules, targets_of_rules}
use Rattle.dom_trans.proofs.Defaults.{point_met}
use Rattle.dom_trans.proofs.dom_rules.DomRules.start_at_point.Goals as goal

pub targets_of_rules-requires : goal.targets_of_rules-requires
targets_of_rules-requires c = subst (λ (r : ChosenRules). All (Contains r.rules) c.args.numbers.now) (sym c.list.ensures) c.requires.rules

pub returns : goal.returns
returns c =
    let starts = c.in_ok-starts.ensures ∙ ap (λ (r : ChosenRules). targets_of_rules r.policy c.args.numbers.now) c.list.ensures in
    point_met c.args.self.now c.args.numbers.now c.args.b (bits_of c.args.types.now) (bits_of c.in_ok-starts.starts) (bits_of c.in_ok-entries.entries) (bits_of c.in_ok-points.points) c.meets.result c.requires.within starts c.in_ok-entries.ensures.bits c.in_ok-points.ensures
    c.meets.ensures
