use Rattle.std.proofs.Common.{◌∙◌}
use Rattle.check_list.proofs.Settings.{any_setting}
use Rattle.check_list.proofs.check.has_key.Goals as goal

pub returns : goal.returns
returns c = c.is_set.ensures ∙ any_setting c.args.key c.args.settings.now
