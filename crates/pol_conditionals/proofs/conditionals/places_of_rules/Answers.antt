use Rattle.std.proofs.Common.{◌∙◌, ◌++◌, ◌∷◌, [], take, map, ap, sym}
use Rattle.std.proofs.lemmas.List.{take_more, map_push}
use Rattle.std.proofs.lemmas.Option.{get_or_from_slice_get, slice_get_within}
use Rattle.pol_cursor.specs.References.{Placed}
use Rattle.pol_conditionals.specs.declared.condnode_rec.CondNodeRec.{CondNodeRec}
use Rattle.pol_conditionals.specs.CondNodeRecord.{branch_rules}
use Rattle.pol_conditionals.specs.Inner.PlaceGroups.{places_of}
use Rattle.pol_conditionals.proofs.conditionals.places_of_rules.Goals as goal

pub loop-i-preserved : goal.loop-i-preserved
loop-i-preserved c =
    let nodes = c.args.nodes.now in
    let f = λ (node : Placed CondNodeRec). places_of (branch_rules node c.args.branch) in
    let node = c.view.result in
    let here = get_or_from_slice_get nodes c.loop-i.i node node c.view.ensures in
    let more = take_more nodes c.loop-i.i node (slice_get_within nodes c.loop-i.i node c.view.ensures) in
    c.in_ok-push.ensures ∙ rw (c.rules.ensures, c.loop-i.invariant) (sym (map_push f (take c.loop-i.i nodes) node)) ∙ ap (map f) (sym (more ∙ ap (λ (m : Placed CondNodeRec). take c.loop-i.i nodes ++ m ∷ []) here))
