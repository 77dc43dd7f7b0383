use Rattle.std.proofs.Common.{◌∷◌, [], sym}
use Rattle.pol_expand.specs.Expansion.{expansion_of as expansion_in}
use Rattle.pol_expand.specs.PolicyMap.{expand}
use Rattle.pol_expand.proofs.PolicyMaps.{declared_in}
use Rattle.rule_query.proofs.TypeEnds.{bits_same, undeclared_expands}
use Rattle.rule_query.proofs.ends.expansion_of.Goals as goal

pub expansion-requires : goal.expansion-requires
expansion-requires c = declared_in c.args.policy.now c.args.types.now c.args.value c.in-Some.field-0 c.requires.map c.requires.value (sym (rw c.symbols.ensures at c.in-Some.ensures))

pub returns-in-Some : goal.returns-in-Some
returns-in-Some c = bits_same c.expansion.result (expansion_in c.args.types.now.expansions c.args.value) (expand c.args.policy.now c.args.value) c.expansion.ensures.bits
    (c.requires.map.expands c.args.value (declared_in c.args.policy.now c.args.types.now c.args.value c.in-Some.field-0 c.requires.map c.requires.value (sym (rw c.symbols.ensures at c.in-Some.ensures))))

pub returns-in-None : goal.returns-in-None
returns-in-None c = bits_same c.from_rising.result (c.args.value ∷ []) (expand c.args.policy.now c.args.value) c.from_rising.ensures.bits (sym (undeclared_expands c.args.policy.now c.args.value (sym (rw c.symbols.ensures at c.in-None.ensures))))
