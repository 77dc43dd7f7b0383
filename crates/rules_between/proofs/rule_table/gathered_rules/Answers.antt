use Rattle.std.proofs.Common.{◌≡◌, true, get_or}
use Rattle.std.proofs.lemmas.List.Elements.{All-get_or}
use Rattle.pol_expand.specs.JoinedTypes.{has_type_ends, is_between_types}
use Rattle.pol_expand.proofs.DeclaredEnds.{passes_within}
use Rattle.rules_between.proofs.rule_table.gathered_rules.Goals as goal

pub loop-number-init : goal.loop-number-init
loop-number-init c = (c.new-gathered.ensures.none, c.new-gathered.ensures.ends c.args.policy.now)

pub rule-requires : goal.rule-requires
rule-requires c =
    let policy = c.args.policy.now in
    let numbers = c.args.numbers.now in
    let i = c.loop-number.number-index in
    passes_within policy (λ rule. has_type_ends rule.kind) (get_or numbers i 0) (All-get_or (λ number. is_between_types policy number ≡ true) numbers i 0 c.loop-number-test.true c.requires)
