use Rattle.std.proofs.Common.{None, Some}
use Rattle.se_items.proofs.Pages.{page-cut, page-rest, page-shorter}
use Rattle.se_items.proofs.window.Window.of.Goals as goal

pub returns-in-Some-clause-items : goal.returns-in-Some-clause-items
returns-in-Some-clause-items c =
    rw c.in-Some.is (page-cut c.args.self.now.from c.in-Some.count c.args.items.now _ _ _ c.front-listed.ensures c.min-passed.ensures c.front.ensures)

pub returns-in-Some-clause-few : goal.returns-in-Some-clause-few
returns-in-Some-clause-few c =
    rw (page-cut c.args.self.now.from c.in-Some.count c.args.items.now _ _ _ c.front-listed.ensures c.min-passed.ensures c.front.ensures)
    (page-shorter c.args.self.now.from (Some c.in-Some.count) c.args.items.now)

pub returns-in-None-clause-items : goal.returns-in-None-clause-items
returns-in-None-clause-items c = rw c.in-None.is (page-rest c.args.self.now.from c.args.items.now _ _ c.front-listed.ensures c.min-passed.ensures)

pub returns-in-None-clause-few : goal.returns-in-None-clause-few
returns-in-None-clause-few c =
    rw (page-rest c.args.self.now.from c.args.items.now _ _ c.front-listed.ensures c.min-passed.ensures) (page-shorter c.args.self.now.from None c.args.items.now)
