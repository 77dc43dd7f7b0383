use Rattle.std.proofs.Common.{◌≡◌, ◌∙◌, ap, arith, length}
use Rattle.pol_expand.specs.PolicyMap.{expand}
use Rattle.rule_query.proofs.TypeEnds.{in_map}
use Rattle.se_make.proofs.Counted.{expansion_few}
use Rattle.se_make.proofs.singles.count_expansion.Goals as goal

pub expansion-requires : goal.expansion-requires
expansion-requires c = in_map c.is_accepted.ensures.accepted.0 c.args.policy.now c.args.types.now c.args.value c.is_accepted.ensures.accepted.1 c.requires.map c.requires.declared

pub returns-clause-count : goal.returns-clause-count
returns-clause-count c =
    let declared = in_map c.is_accepted.ensures.accepted.0 c.args.policy.now c.args.types.now c.args.value c.is_accepted.ensures.accepted.1 c.requires.map c.requires.declared in
    c.count-2.ensures.bits ∙ ap length (c.in_ok-expansion.ensures.bits ∙ c.requires.map.expands c.args.value declared)

pub returns-clause-few : goal.returns-clause-few
returns-clause-few c =
    let declared = in_map c.is_accepted.ensures.accepted.0 c.args.policy.now c.args.types.now c.args.value c.is_accepted.ensures.accepted.1 c.requires.map c.requires.declared in
    let is : c.count-2.result ≡ length (expand c.args.policy.now c.args.value) = c.count-2.ensures.bits ∙ ap length (c.in_ok-expansion.ensures.bits ∙ c.requires.map.expands c.args.value declared) in
    omega (arith, is, expansion_few c.args.policy.now c.args.value c.type_count-count.result c.type_count-count.ensures.count c.type_count-count.ensures.few)
