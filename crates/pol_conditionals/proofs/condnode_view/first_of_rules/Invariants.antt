use Rattle.std.proofs.Common.{◌≡◌}
use Rattle.std.specs.List.{flat_map}
use Rattle.pol_cursor.specs.References.{dangling_of}
use Rattle.pol_avtab.specs.AvRecord.{av_references}
use Rattle.pol_conditionals.proofs.condnode_view.first_of_rules.Given as goal

abbrev pub invariant-loop-rule : goal.invariant-loop-rule
invariant-loop-rule g l =
    let named = g.N.Names.named l.names in
    dangling_of named (flat_map av_references l.rule-iterator) ≡ dangling_of named (flat_map av_references l.fn.rules)
