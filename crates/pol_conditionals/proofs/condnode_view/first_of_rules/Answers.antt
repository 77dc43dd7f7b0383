use Rattle.std.proofs.Common.{sym, ap, ◌∙◌, List}
use Rattle.std.specs.List.{flat_map}
use Rattle.pol_cursor.specs.References.{Placed, dangling_of}
use Rattle.pol_avtab.specs.declared.AvRec.{AvRec}
use Rattle.pol_avtab.specs.AvRecord.{av_references}
use Rattle.pol_cursor.proofs.DanglingLists.{undeclared_first}
use Rattle.pol_conditionals.proofs.condnode_view.first_of_rules.Goals as goal

pub returns-in-Some-dangling : goal.returns-in-Some-dangling
returns-in-Some-dangling g c =
    let named = g.N.Names.named c.args.names.now in
    let rule = c.in-Some.rule in
    let here = sym c.dangling.ensures ∙ c.in-Some-dangling.is in
    let found = undeclared_first named (av_references rule) (flat_map av_references c.next.new.self) c.in-Some-dangling.fault here in
    sym (sym c.loop-rule.invariant ∙ ap (λ (rules : List (Placed AvRec)). dangling_of named (flat_map av_references rules)) c.in-Some.ensures.steps ∙ found)
