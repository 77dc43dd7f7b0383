-- The texts of flows, with the rules that give each. They are this project's own.
use Rattle.std.specs.Prelude.{ℕ, List, ◌++◌, codes, decimal}
use Rattle.std.specs.List.{flat_map}
use Rattle.pol_file.specs.declared.Parts.{Parts}
use Rattle.counted_rules.specs.CountedRules.{Counted}
use Rattle.perm_map.specs.PermissionMap.{Weights}
use Rattle.flow_search.specs.Flows.{flow_rules, flow_weight}
use Rattle.rule_text.specs.RuleTexts.{text_of_rule}
use Rattle.se_walks.specs.WalkTexts.{EdgeWords}

-- the line of a rule, after an indent
unfoldable pub rule_line : Parts → List ℕ → ℕ → List ℕ
rule_line policy indent number = indent ++ text_of_rule policy number ++ codes "\n"

-- what stands behind the ends of a flow: `, weight V`, and the rules that count and give it at least a weight
unfoldable pub flow_text : Weights → Counted → ℕ → List ℕ → ℕ → ℕ → List ℕ
flow_text weights rules least indent from to =
    codes ", weight " ++ decimal (flow_weight weights rules from to) ++ codes "\n"
    ++ flat_map (rule_line rules.policy indent) (flow_rules weights rules least from to)

-- how seinfoflow writes the flows of at least a weight by the rules of a policy that count
unfoldable pub flow_words : Weights → Counted → ℕ → EdgeWords
flow_words weights rules least = record { word = codes "Flow"; symbols = rules.policy.symbols; behind = flow_text weights rules least }
