use Rattle.std.proofs.Common.{List}
use Rattle.std.proofs.lemmas.Result.{IfOk-weaker}
use Rattle.pol_bitmap.specs.declared.Node.{Node}
use Rattle.pol_bitmap.specs.Nodes.{bits_of}
use Rattle.pol_bitmap.specs.Sets.{IsUnion}
use Rattle.dom_trans.specs.Inner.Targets.{AreSources}
use Rattle.dom_trans.proofs.FoundSources.{sources_are}
use Rattle.dom_trans.proofs.dom_rules.DomRules.sources.Goals as goal

pub returns : goal.returns
returns c =
    let entering = bits_of c.in_ok-entering.entering in
    let turning = bits_of c.in_ok-turning.turning in
    IfOk-weaker c.union.result (λ (set : List Node). IsUnion entering turning (bits_of set)) (λ (set : List Node). AreSources c.args.self.now c.args.b (bits_of set))
    (λ set union. sources_are c.args.self.now c.args.b entering turning (bits_of set) c.in_ok-entering.ensures c.in_ok-turning.ensures union)
    c.union.ensures.bits
