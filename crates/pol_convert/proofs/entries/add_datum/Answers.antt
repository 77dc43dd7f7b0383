use Rattle.std.proofs.Common.{◌++◌, ℕ, List, map, ap, ◌∙◌}
use Rattle.pol_convert.specs.Ungrouped.{entry_of}
use Rattle.pol_convert.proofs.DeclaredSources.{found_is}
use Rattle.pol_convert.proofs.entries.add_datum.Goals as goal

pub returns : goal.returns
returns c =
    c.in_ok-add_found.ensures
    ∙ ap (λ (vs : List ℕ). c.args.entries.now.items ++ map (entry_of c.args.group.now c.args.datum.now.default) vs) (found_is c.args.declared.now c.args.datum.now.sources c.requires c.nodes.ensures.form)
