use Rattle.std.proofs.Common.{ℕ, List, get_or, ap}
use Rattle.pol_conditionals.proofs.Groups.{rule_of_nodes}
use Rattle.pol_conditionals.proofs.conditionals.Conditionals.branch_view.Goals as goal

pub at-requires : goal.at-requires
at-requires c =
    let rule = rule_of_nodes c.args.self.now c.args.node c.args.branch c.place.result.0.now c.place.result.1 c.args.i (get_or c.places.result.now c.args.i 0) (rw c.self.view_is at c.place.ensures.same) c.place.ensures.stands c.requires.rule
    (ap (λ (places : List ℕ). get_or places c.args.i 0) c.places.ensures.are) in
    rule.0

pub returns : goal.returns
returns c =
    let rule = rule_of_nodes c.args.self.now c.args.node c.args.branch c.place.result.0.now c.place.result.1 c.args.i (get_or c.places.result.now c.args.i 0) (rw c.self.view_is at c.place.ensures.same) c.place.ensures.stands c.requires.rule
    (ap (λ (places : List ℕ). get_or places c.args.i 0) c.places.ensures.are) in
    rw c.at.ensures rule.1
