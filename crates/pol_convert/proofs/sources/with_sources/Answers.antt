use Rattle.std.proofs.Common.{◌+◌, ◌-◌, ◌^◌, ℕ, List, length, ap, ◌∙◌}
use Rattle.std.specs.Prelude.{min}
use Rattle.pol_convert.proofs.DeclaredSources.{found_is}
use Rattle.pol_convert.proofs.sources.with_sources.Goals as goal

pub returns : goal.returns
returns c = c.with_found-count.ensures ∙ ap (λ (vs : List ℕ). min (c.args.start + length vs) (2 ^ 64 - 1)) (found_is c.args.declared.now c.args.sources.now c.requires c.nodes.ensures.form)
