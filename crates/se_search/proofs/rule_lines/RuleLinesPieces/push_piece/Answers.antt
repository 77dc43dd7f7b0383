use Rattle.std.proofs.Common.{subst}
use Rattle.pol_file.specs.declared.Parts.{Parts}
use Rattle.rule_listing.specs.ReadRules.{IsOfFirst, PassesNumber, RulesLeft}
use Rattle.se_search.proofs.LinesOfRules.{first_stored, line-pushed}
use Rattle.se_search.proofs.rule_lines.RuleLinesPieces.push_piece.Goals as goal

pub push_line-requires : goal.push_line-requires
push_line-requires c =
    let old = c.args.self.now in
    first_stored old.texts old.rules.numbers c.in-Some.rule (subst (λ (policy : Parts). IsOfFirst policy old.rules.numbers c.in-Some.rule) old.of_policy c.in-Some.ensures.rule)

pub returns-clause-piece : goal.returns-clause-piece
returns-clause-piece c =
    let old = c.args.self.now in
    let rule = c.in-Some.rule in
    let left = c.pass.new.self.numbers in
    let first : IsOfFirst old.texts old.rules.numbers rule = subst (λ (policy : Parts). IsOfFirst policy old.rules.numbers rule) old.of_policy c.in-Some.ensures.rule in
    let passes : PassesNumber old.rules.numbers left c.pass.result = subst (λ (rules : RulesLeft). PassesNumber rules.numbers left c.pass.result) c.front.ensures.left c.pass.ensures.numbers in
    rw c.push_line.ensures.policy (line-pushed old.texts rule old.rules.numbers left c.args.buffer.now.items c.push_line.new.buffer.items c.pass.result first passes c.in_ok-push_line.ensures.line)
