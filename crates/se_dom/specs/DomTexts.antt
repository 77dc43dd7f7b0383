-- The texts of transitions, with the rules behind each. They are this project's own.
use Rattle.std.specs.Prelude.{ℕ, List, ◌++◌, codes}
use Rattle.std.specs.List.{flat_map}
use Rattle.pol_fields.specs.declared.TableKind.TheVariants.{Types}
use Rattle.pol_file.specs.declared.Parts.{Parts}
use Rattle.pol_cursor.specs.References.{name_of}
use Rattle.pol_symbols.specs.PolicySymbols.{name_in}
use Rattle.counted_rules.specs.CountedRules.{Counted}
use Rattle.dom_trans.specs.declared.EntryReason.{EntryReason}
use Rattle.dom_trans.specs.declared.Reasons.{Reasons}
use Rattle.dom_trans.specs.ReasonLists.{reasons_between}
use Rattle.rule_text.specs.RuleTexts.{text_of_rule}
use Rattle.se_walks.specs.WalkTexts.{EdgeWords}

-- `WORD: RULE`, after an indent
unfoldable pub reason_line : Parts → List ℕ → List ℕ → ℕ → List ℕ
reason_line policy indent word number = indent ++ word ++ codes ": " ++ text_of_rule policy number ++ codes "\n"

-- a line for each of some rules
abbrev pub reason_lines : Parts → List ℕ → List ℕ → List ℕ → List ℕ
reason_lines policy indent word numbers = flat_map (reason_line policy indent word) numbers

-- `entry TYPE`, and the rules of the entry type after three spaces more
unfoldable pub entry_text : Parts → List ℕ → EntryReason → List ℕ
entry_text policy indent reason =
    indent ++ codes "entry " ++ name_of (name_in policy.symbols) Types reason.entry ++ codes "\n"
    ++ reason_lines policy (indent ++ codes "   ") (codes "entrypoint") reason.entrypoint
    ++ reason_lines policy (indent ++ codes "   ") (codes "execute") reason.execute
    ++ reason_lines policy (indent ++ codes "   ") (codes "type_transition") reason.default

-- all rules of a transition
unfoldable pub reasons_text : Parts → List ℕ → Reasons → List ℕ
reasons_text policy indent reasons =
    reason_lines policy indent (codes "transition") reasons.transition
    ++ reason_lines policy indent (codes "setexec") reasons.setexec
    ++ flat_map (entry_text policy indent) reasons.entries
    ++ reason_lines policy indent (codes "dyntransition") reasons.dyntransition
    ++ reason_lines policy indent (codes "setcurrent") reasons.setcurrent

-- what stands behind the ends of a transition: all rules of it that count
unfoldable pub transition_text : Counted → List ℕ → ℕ → ℕ → List ℕ
transition_text rules indent from to = codes "\n" ++ reasons_text rules.policy indent (reasons_between rules from to)

-- how sedta writes the transitions by the rules of a policy that count
unfoldable pub dom_words : Counted → EdgeWords
dom_words rules = record { word = codes "Transition"; symbols = rules.policy.symbols; behind = transition_text rules }
