use Rattle.std.proofs.Common.{Bool, Some, None, ap, ◌∙◌, option_map}
use Rattle.std.specs.List.{find}
use Rattle.check_list.specs.Checklists.{Setting}
use Rattle.se_checker.specs.KnownNames.{has_unknown}
use Rattle.se_checker.proofs.UnknownLines.{found_line}
use Rattle.se_checker.proofs.known.unknown_in.Goals as goal

pub returns-in-Some : goal.returns-in-Some
returns-in-Some c =
    let symbols = c.args.symbols.now in
    let settings = c.args.check.now.settings in
    found_line (has_unknown symbols c.may_miss-missing.result) c.settings.result.now settings (Some c.in-Some.setting.now) c.settings.ensures c.in-Some.ensures
    ∙ ap (λ (missing : Bool). option_map (λ (s : Setting). s.line) (find (has_unknown symbols missing) settings)) c.may_miss-missing.ensures

pub returns-in-None : goal.returns-in-None
returns-in-None c =
    let symbols = c.args.symbols.now in
    let settings = c.args.check.now.settings in
    found_line (has_unknown symbols c.may_miss-missing.result) c.settings.result.now settings None c.settings.ensures c.in-None.ensures
    ∙ ap (λ (missing : Bool). option_map (λ (s : Setting). s.line) (find (has_unknown symbols missing) settings)) c.may_miss-missing.ensures
