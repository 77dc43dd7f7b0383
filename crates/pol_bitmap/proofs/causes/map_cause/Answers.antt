use Rattle.pol_bitmap.proofs.Shifts.{within_limit}
use Rattle.pol_bitmap.proofs.causes.map_cause.Goals as goal

pub returns-in-None-next_in-clause-exact : goal.returns-in-None-next_in-clause-exact
returns-in-None-next_in-clause-exact c = rw c.in-Some.is (within_limit c.in-Some.limit c.args.start c.args.map c.if-map-eq0.false c.in-None-next_in.ensures.none)
