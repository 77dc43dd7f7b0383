use Rattle.std.proofs.Common.{Some, refl, sym, ap, ◌∙◌}
use Rattle.pol_cursor.specs.References.{Placed}
use Rattle.pol_trans.specs.declared.NameDatumRec.{NameDatumRec}
use Rattle.pol_read.proofs.RuleNodes.{group_within, group_found, datum_stands, datum_found, node_within, node_found}
use Rattle.pol_read.proofs.name_index.node_at.Goals as goal

pub place-requires : goal.place-requires
place-requires c = group_within c.args.symbols.now c.args.groups.now c.args.places.now c.requires.places c.args.n c.requires.node (record { group = 0; datum = 0; node = 0 })

pub view-requires : goal.view-requires
view-requires c κs = ((refl, tt), group_within c.args.symbols.now c.args.groups.now c.args.places.now c.requires.places c.args.n c.requires.node (record { group = 0; datum = 0; node = 0 }))

pub at-datum-requires : goal.at-datum-requires
at-datum-requires c =
    datum_stands c.args.symbols.now c.args.groups.now c.args.places.now c.requires.places c.args.n c.requires.node (record { group = 0; datum = 0; node = 0 }) c.place.result.0.now c.place.result.1 c.place.ensures.stands c.place.ensures.same

pub node-node-requires : goal.node-node-requires
node-node-requires c = rw (c.sources.ensures, c.at-datum.ensures)
    (node_within c.args.symbols.now c.args.groups.now c.args.places.now c.requires.places c.args.n c.requires.node (record { group = 0; datum = 0; node = 0 }) c.place.result.0.now c.place.result.1 c.place.ensures.stands c.place.ensures.same)

pub returns-clause-group : goal.returns-clause-group
returns-clause-group c =
    group_found c.args.symbols.now c.args.groups.now c.args.places.now c.requires.places c.args.n c.requires.node (record { group = 0; datum = 0; node = 0 }) c.view.result c.view.ensures

pub returns-clause-datum : goal.returns-clause-datum
returns-clause-datum c =
    datum_found c.args.symbols.now c.args.groups.now c.args.places.now c.requires.places c.args.n c.requires.node (record { group = 0; datum = 0; node = 0 }) c.place.result.0.now c.place.result.1 c.place.ensures.stands c.place.ensures.same
    ∙ ap (λ (x : Placed NameDatumRec). Some x) (sym c.at-datum.ensures)

pub returns-clause-node : goal.returns-clause-node
returns-clause-node c =
    node_found c.args.symbols.now c.args.groups.now c.args.places.now c.requires.places c.args.n c.requires.node (record { group = 0; datum = 0; node = 0 }) c.place.result.0.now c.place.result.1 c.place.ensures.stands c.place.ensures.same c.node-node.result
    (rw (c.sources.ensures, c.at-datum.ensures) at c.node-node.ensures.is)
