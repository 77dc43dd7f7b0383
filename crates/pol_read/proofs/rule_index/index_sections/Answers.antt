use Rattle.std.proofs.Common.{◌≡◌, ◌∙◌, ℕ, List, [], ◌∷◌, length, sum, ap, arith}
use Rattle.std.proofs.lemmas.List.{length-map}
use Rattle.std.proofs.lemmas.Result.{IfOk-weaker}
use Rattle.std.specs.List.{range_with_len}
use Rattle.pol_read.specs.StoredRules.{rules_of_node, rules_of_nodes}
use Rattle.pol_read.specs.Inner.RuleNumbers.{section_lengths}
use Rattle.pol_read.proofs.RuleSums.{total_is, section_sizes}
use Rattle.pol_read.proofs.rule_index.index_sections.Goals as goal

pub of-requires-clause-limit : goal.of-requires-clause-limit
of-requires-clause-limit c =
    let nodes = c.args.parts.now.rules.conditionals in
    let conditional : c.total.result ≡ length (rules_of_nodes nodes) =
    c.total.ensures.is ∙ ap (λ (ns : List ℕ). sum ns) c.requires.nodes ∙ total_is (rules_of_node nodes) (range_with_len 0 (length nodes)) in
    omega (arith, c.requires.few, section_sizes c.args.parts.now, conditional, c.len.ensures, c.len-2.ensures, c.len-3.ensures, c.name_rule_count-named.ensures, c.len-4.ensures)

pub returns : goal.returns
returns c =
    let nodes = c.args.parts.now.rules.conditionals in
    let conditional : c.total.result ≡ length (rules_of_nodes nodes) =
    c.total.ensures.is ∙ ap (λ (ns : List ℕ). sum ns) c.requires.nodes ∙ total_is (rules_of_node nodes) (range_with_len 0 (length nodes)) in
    let lengths = c.len.result ∷ c.total.result ∷ c.len-2.result ∷ c.len-3.result ∷ c.name_rule_count-named.result ∷ c.len-4.result ∷ [] in
    IfOk-weaker c.of.result (λ sums. sums ≡ lengths) (λ sums. sums ≡ section_lengths c.args.parts.now) (λ sums is. is ∙ rw (c.len.ensures, conditional, c.len-2.ensures, c.len-3.ensures, c.name_rule_count-named.ensures, c.len-4.ensures) (simp length-map))
    c.of.ensures
