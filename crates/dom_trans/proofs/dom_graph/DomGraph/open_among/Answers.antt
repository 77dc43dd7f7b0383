use Rattle.std.proofs.Common.{◌≡◌, List, [], IfOk, sym, subst, ◌∙◌, arith}
use Rattle.std.specs.Prelude.{true, false}
use Rattle.std.proofs.lemmas.Bool.{false≢true}
use Rattle.std.proofs.lemmas.Result.{IfOk-weaker}
use Rattle.pol_bitmap.specs.declared.Node.{Node}
use Rattle.pol_bitmap.specs.Nodes.{bits_of}
use Rattle.pol_bitmap.specs.Sets.{IsDifference}
use Rattle.dom_trans.specs.DomainEdges.{Domains}
use Rattle.dom_trans.specs.Inner.Targets.{AreOpen}
use Rattle.dom_trans.proofs.Steps.{none_open, open_are}
use Rattle.dom_trans.proofs.dom_graph.DomGraph.open_among.Goals as goal

pub returns-then-not-has : goal.returns-then-not-has
returns-then-not-has c =
    let inside = c.self.inside in
    let domains : Domains = record { rules = inside.rules; excluded = inside.excluded; reverse = inside.reverse } in
    let types = bits_of c.args.types.now in
    let answer : c.has.result ≡ false = grind (arith, c.if-not-has.true) in
    subst (λ (d : Domains). IfOk c.empty.result (λ (found : List Node). AreOpen d c.args.a types (bits_of found))) c.self.view_is
    (IfOk-weaker c.empty.result (λ (set : List Node). bits_of set ≡ []) (λ (set : List Node). AreOpen domains c.args.a types (bits_of set))
    (λ set none. none_open domains inside.included c.args.a types (bits_of set) c.self.invariant (λ m. false≢true (sym answer ∙ c.has.ensures.1 m)) none) c.empty.ensures.bits)

pub returns : goal.returns
returns c =
    let inside = c.self.inside in
    let domains : Domains = record { rules = inside.rules; excluded = inside.excluded; reverse = inside.reverse } in
    let types = bits_of c.args.types.now in
    let both = bits_of c.in_ok-both.both in
    let itself = bits_of c.in_ok-itself.itself in
    let answer : c.has.result ≡ true = grind (arith, c.if-not-has.false) in
    subst (λ (d : Domains). IfOk c.difference.result (λ (found : List Node). AreOpen d c.args.a types (bits_of found))) c.self.view_is
    (IfOk-weaker c.difference.result (λ (set : List Node). IsDifference both itself (bits_of set)) (λ (set : List Node). AreOpen domains c.args.a types (bits_of set))
    (λ set less. open_are domains inside.included c.args.a types both itself (bits_of set) c.self.invariant (c.has.ensures.0 answer) c.in_ok-both.ensures.bits c.in_ok-itself.ensures.bits less) c.difference.ensures.bits)
