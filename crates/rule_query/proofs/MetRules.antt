-- Rules that are gathered in file order: one rule more, and where those of the next conditional node stand.
use Rattle.std.proofs.Common.{◌≡◌, ℕ, suc, ◌+◌, ◌-◌, ◌<◌, Bool, true, false, Option, Some, List, [], ◌∷◌, ◌++◌, length, map, slice_get, refl, sym, ap, subst, ◌∙◌, append-nil, arith}
use Rattle.std.specs.List.{flat_map, range_with_len}
use Rattle.std.proofs.lemmas.List.{length-append}
use Rattle.std.proofs.lemmas.Option.{slice_get_within}
use Rattle.pol_cursor.specs.References.{Placed}
use Rattle.pol_conditionals.specs.declared.CondNodeRec.{CondNodeRec}
use Rattle.pol_conditionals.specs.CondNodeRecord.{branch_rules}
use Rattle.pol_file.specs.declared.Parts.{Parts}
use Rattle.pol_read.specs.DeclaredRules.{IsDeclaredRule}
use Rattle.pol_read.specs.StoredRules.{StoredRule, av_rule, rules_of_branch, rules_of_node, stored_rules}
use Rattle.pol_read.proofs.RuleSums.{get_left, get_right}
use Rattle.rule_order.specs.declared.found_rules.FoundRules.{FoundRules}
use Rattle.rule_query.specs.declared.query.Query.{Query}
use Rattle.rule_order.specs.ListedOrder.{in_rule_order}
use Rattle.rule_criteria.specs.declared.Criteria.{Criteria}
use Rattle.rule_order.specs.FoundRules.{AreFound, first_ones, limit_of}
use Rattle.rule_query.specs.Inner.Gathering.{HasMet, StandFrom}
use Rattle.rule_query.specs.Meeting.{meeting, meets}
use Rattle.rule_query.specs.Queries.{IsQueryOf}
use Rattle.rule_query.specs.QueryTests.{passes}
use Rattle.rule_query.proofs.Passing.{kept_next, meets_at}

-- ---- one rule more

module _ (policy : Parts) (query : Query) (rule : StoredRule) (n : ℕ) (there : slice_get (stored_rules policy) n ≡ Some rule) where
  -- a rule that passes
  pub met_passing : (old new : FoundRules) → IsDeclaredRule policy rule → passes policy.symbols query rule ≡ true → ((numbers : List ℕ) → AreFound policy numbers old → AreFound policy (numbers ++ n ∷ []) new) → HasMet policy query n old → HasMet policy query (n + 1) new
  met_passing old new declared passing added met = record {
    within = omega (arith, slice_get_within (stored_rules policy) n rule there);
    few = met.few;
    numbers = met.numbers ++ n ∷ [];
    gathered = added met.numbers met.gathered;
    meet = λ criteria is.
        kept_next (meets policy criteria) n met.numbers (met.numbers ++ n ∷ []) true (met.meet criteria is) refl
        (meets_at policy criteria query rule n true is declared there (sym passing));
  }

  -- one that does not
  pub met_failing : (found : FoundRules) → IsDeclaredRule policy rule → passes policy.symbols query rule ≡ false → HasMet policy query n found → HasMet policy query (n + 1) found
  met_failing found declared failing met = record {
    within = omega (arith, slice_get_within (stored_rules policy) n rule there);
    few = met.few;
    numbers = met.numbers;
    gathered = met.gathered;
    meet = λ criteria is.
        kept_next (meets policy criteria) n met.numbers met.numbers false (met.meet criteria is) (sym (append-nil met.numbers))
        (meets_at policy criteria query rule n false is declared there (sym failing));
  }

-- ---- all rules

-- the numbers that are listed of the rules that are found
pub listed_are : (policy : Parts) (query : Query) (found : FoundRules) (limit : Option ℕ) (listed : List ℕ) → limit_of found ≡ limit → HasMet policy query (length (stored_rules policy)) found
    → ((numbers : List ℕ) → AreFound policy numbers found → listed ≡ first_ones (limit_of found) (in_rule_order policy numbers))
    → (criteria : Criteria) → IsQueryOf policy criteria query → listed ≡ first_ones limit (in_rule_order policy (meeting policy criteria))
listed_are policy query found limit listed same met are criteria is =
    are met.numbers met.gathered
    ∙ ap (λ (o : Option ℕ). first_ones o (in_rule_order policy met.numbers)) same
    ∙ ap (λ (numbers : List ℕ). first_ones limit (in_rule_order policy numbers)) (met.meet criteria is)

-- ---- rules that stand one behind the other

stand_same : (policy : Parts) (first : ℕ) (xs ys : List StoredRule) → xs ≡ ys → StandFrom policy first xs → StandFrom policy first ys
stand_same policy first xs ys e stand = subst (λ (rules : List StoredRule). StandFrom policy first rules) e stand

pub stand_right : (policy : Parts) (first next : ℕ) (xs ys : List StoredRule) → next ≡ first + length xs → StandFrom policy first (xs ++ ys) → StandFrom policy next ys
stand_right policy first next xs ys e stand = record {
  at = λ i lt.
      let place : next + i ≡ first + (length xs + i) = omega arith in
      ap (slice_get (stored_rules policy)) place ∙ stand.at (length xs + i) (omega (arith, length-append xs ys)) ∙ get_right xs ys (length xs + i) i refl;
}

-- the first of them, and those behind it
module _ (policy : Parts) (first : ℕ) (rules more : List StoredRule) (rule : StoredRule) (e : rules ≡ rule ∷ more) (stand : StandFrom policy first rules) where
  pub stand_first : slice_get (stored_rules policy) first ≡ Some rule
  stand_first =
      let here : first ≡ first + 0 = omega arith in
      ap (slice_get (stored_rules policy)) here ∙ (stand_same policy first rules (rule ∷ more) e stand).at 0 (omega arith)

  pub stand_behind : StandFrom policy (first + 1) more
  stand_behind = stand_right policy first (first + 1) (rule ∷ []) more (omega arith) (stand_same policy first rules (rule ∷ more) e stand)

-- ---- those under conditions

-- the rules of a branch of the node that is there
pub branch_there : (nodes : List (Placed CondNodeRec)) (i : ℕ) (branch : Bool) (node : Placed CondNodeRec) → slice_get nodes i ≡ Some node → map (av_rule (Some (record { node = i; branch = branch }))) (branch_rules node branch) ≡ rules_of_branch nodes i branch
branch_there nodes i branch node e = rw e refl

-- the rules of the nodes from a number on
abbrev pub rules_from_node : List (Placed CondNodeRec) → ℕ → List StoredRule
rules_from_node nodes i = flat_map (rules_of_node nodes) (range_with_len i (length nodes - i))

one_node : (nodes : List (Placed CondNodeRec)) (i : ℕ) → i < length nodes → rules_from_node nodes i ≡ rules_of_node nodes i ++ rules_from_node nodes (i + 1)
one_node nodes i lt = let e : length nodes - i ≡ suc (length nodes - (i + 1)) = omega arith in ap (λ (n : ℕ). flat_map (rules_of_node nodes) (range_with_len i n)) e

pub stand_next : (policy : Parts) (next after i : ℕ) → i < length policy.rules.conditionals → after ≡ next + length (rules_of_node policy.rules.conditionals i) → StandFrom policy next (rules_from_node policy.rules.conditionals i)
    → StandFrom policy after (rules_from_node policy.rules.conditionals (i + 1))
stand_next policy next after i lt e stand =
    let nodes = policy.rules.conditionals in
    stand_right policy next after (rules_of_node nodes i) (rules_from_node nodes (i + 1)) e
    (stand_same policy next (rules_from_node nodes i) (rules_of_node nodes i ++ rules_from_node nodes (i + 1)) (one_node nodes i lt) stand)

-- the rules of the first of these nodes stand there
pub stand_here : (policy : Parts) (next i : ℕ) → i < length policy.rules.conditionals → StandFrom policy next (rules_from_node policy.rules.conditionals i) → StandFrom policy next (rules_of_node policy.rules.conditionals i)
stand_here policy next i lt stand =
    let here = rules_of_node policy.rules.conditionals i in
    let behind = rules_from_node policy.rules.conditionals (i + 1) in
    let all = stand_same policy next (rules_from_node policy.rules.conditionals i) (here ++ behind) (one_node policy.rules.conditionals i lt) stand in
    record { at = λ n within. all.at n (omega (arith, within, length-append here behind)) ∙ get_left here behind n within }
