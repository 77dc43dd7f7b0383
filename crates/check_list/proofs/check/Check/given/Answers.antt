use Rattle.std.proofs.Common.{Some, None}
use Rattle.check_list.proofs.Settings.{given_found}
use Rattle.check_list.proofs.check.Check.given.Goals as goal

pub returns-in-Some : goal.returns-in-Some
returns-in-Some c = rw (← c.self.view_is) (given_found c.args.key c.deref.result.now c.self.inside.settings.items (Some c.in-Some.setting.now) c.deref.ensures.value c.in-Some.ensures)

pub returns-in-None : goal.returns-in-None
returns-in-None c = rw (← c.self.view_is) (given_found c.args.key c.deref.result.now c.self.inside.settings.items None c.deref.ensures.value c.in-None.ensures)
