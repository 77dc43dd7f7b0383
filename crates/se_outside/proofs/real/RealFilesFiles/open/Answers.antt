use Rattle.std.proofs.Common.{refl}
use Rattle.se_outside.proofs.Slots.{not-policy, not-map, not-list}
use Rattle.se_outside.proofs.real.RealFilesFiles.open.Goals as goal

pub returns-in-Policy-clause-opens : goal.returns-in-Policy-clause-opens
returns-in-Policy-clause-opens g c = rw c.in-Policy.is (record { this = c.open.ensures.opens c.args.name.now; others = not-policy _ _ refl refl })

pub returns-in-Map-clause-opens : goal.returns-in-Map-clause-opens
returns-in-Map-clause-opens g c = rw c.in-Map.is (record { this = c.open-in-Map.ensures.opens c.args.name.now; others = not-map _ _ refl refl })

pub returns-in-List-clause-opens : goal.returns-in-List-clause-opens
returns-in-List-clause-opens g c = rw c.in-List.is (record { this = c.open-in-List.ensures.opens c.args.name.now; others = not-list _ _ refl refl })
