-- The text of the condition that a rule stands under, as a function of the items of its expression (this project's profile, in the
-- words of the policy language).
use Rattle.std.specs.Prelude.{ℕ, Bool, true, false, Option, Some, None, List, [], ◌++◌, codes, slice_get}
use Rattle.pol_cursor.specs.References.{Named, Placed}
use Rattle.pol_expr.specs.ConditionMeaning.{expression_text}
use Rattle.pol_conditionals.specs.declared.CondNodeRec.{CondNodeRec}
use Rattle.pol_read.specs.declared.rule.Condition.{Condition}

-- the text of the condition of a node
abbrev pub node_text : Named → Option (Placed CondNodeRec) → List ℕ
node_text named None = []
node_text named (Some node) = expression_text named node.value.condition.items

-- whether a rule holds where its condition is true, or where it is false
abbrev pub branch_text : Bool → List ℕ
branch_text true = codes "True"
branch_text false = codes "False"

-- what stands behind a rule: [ EXPRESSION ]:True or [ EXPRESSION ]:False, or nothing where it stands under no condition
unfoldable pub condition_text : Named → List (Placed CondNodeRec) → Option Condition → List ℕ
condition_text named nodes None = []
condition_text named nodes (Some condition) =
    codes " [ " ++ node_text named (slice_get nodes condition.node) ++ codes " ]:" ++ branch_text condition.branch
