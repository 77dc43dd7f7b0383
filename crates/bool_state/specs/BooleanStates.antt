-- Which booleans of a policy are true, and the value of a condition under them (libsepol's cond_evaluate_expr, over the states of the
-- policy's booleans). That states are given in place of the stored ones is this project's own.
use Rattle.std.specs.Prelude.{◌≡◌, ℕ, ◌==◌, nat_eq, Bool, false, Option, List, [], ◌∷◌, map, reverse, option_map, unwrap_or}
use Rattle.std.specs.List.{find, filter}
use Rattle.std.specs.Ordering.{nat_cmp}
use Rattle.std.specs.Coded.{Coded, coded_ℕ}
use Rattle.std.specs.FinSet as set
use Rattle.pol_cursor.specs.References.{Placed}
use Rattle.pol_datums.specs.declared.BooleanRec.{BooleanRec}
use Rattle.pol_expr.specs.declared.ConditionItem.{ConditionItem}
use Rattle.pol_expr.specs.Trees.{postorder, trees_after}
use Rattle.pol_expr.specs.ConditionMeaning.{ConditionTree, condition_symbols, value_of}
use Rattle.bool_state.specs.declared.given.Given.{Given}

-- Values of booleans, as those that are true.
abbrev pub Booleans : Type 0
Booleans = set.FinSet nat_cmp

-- its code, for the values that hold one
abbrev pub values_code : Coded Booleans
values_code = set.code coded_ℕ

-- ---- the booleans that are true

-- the last state that is given for a boolean
abbrev pub last_given : List Given → ℕ → Option Bool
last_given given value = option_map (λ g. g.on) (find (λ g. nat_eq g.value value) (reverse given))

-- A boolean is true by the last state that is given for it, and where none is given by the stored one, which is 1 where it is true.
abbrev pub is_on : List Given → BooleanRec → Bool
is_on given boolean = unwrap_or (last_given given boolean.value) (boolean.state == 1)

-- the values of those of some booleans that are true
unfoldable pub values_on : List Given → List (Placed BooleanRec) → List ℕ
values_on given booleans = map (λ b. b.value.value) (filter (λ b. is_on given b.value) booleans)

-- as a set
abbrev pub true_booleans : List Given → List (Placed BooleanRec) → Booleans
true_booleans given booleans = set.from_list (values_on given booleans)

-- ---- the value of a condition

-- The value of the items of a condition where exactly the booleans of a set are true: that of the tree that they stand for, each operator
-- after its operands.
pub record HasValue (on : Booleans) (items : List ConditionItem) (value : Bool) : Type 0 where
  pub tree : ConditionTree
  pub listed : postorder tree ≡ condition_symbols items
  pub truth : value_of (set.contains on) tree ≡ value

-- the value of the latest of some trees
abbrev pub tree_value : Booleans → List ConditionTree → Bool
tree_value on [] = false
tree_value on (t ∷ ts) = value_of (set.contains on) t

-- it as a function of any items; it says nothing where they are those of no condition (`conditions_have_one_value`)
unfoldable pub condition_value : Booleans → List ConditionItem → Bool
condition_value on items = tree_value on (trees_after (condition_symbols items) [])
