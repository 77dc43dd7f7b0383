-- The stored rules of a policy by their kinds.
use Rattle.std.proofs.Common.{◌≡◌, ℕ, ◌+◌, ◌-◌, ◌≤◌, ◌<◌, ◌^◌, true, false, Some, None, List, [], ◌∷◌, ◌++◌, map, length, take, slice_get, get_or, refl, sym, ap, ◌∙◌, append_assoc, append-nil, length-append, length-take, arith}
use Rattle.std.specs.Prelude.{slice_set}
use Rattle.std.specs.List.{All, flat_map, range_with_len}
use Rattle.std.proofs.lemmas.List.Elements.{All-nil, All-cons, All-append}
use Rattle.std.proofs.lemmas.List.Concat.{flat_map-cons}
use Rattle.std.proofs.Math.Seq.{take-append_seam}
use Rattle.std.proofs.lemmas.List.{take_more, length-map}
use Rattle.std.proofs.lemmas.Option.{get_or_from_slice_get, slice_get_within}
use Rattle.pol_cursor.specs.References.{Placed}
use Rattle.pol_conditionals.specs.declared.CondNodeRec.{CondNodeRec}
use Rattle.pol_conditionals.specs.CondNodeRecord.{rules_of_branch as access_vectors_of}
use Rattle.info_lines.proofs.FileOrder.{first_of, none_of}
use Rattle.pol_read.proofs.RuleSums.{node_length}
use Rattle.pol_symbols.specs.declared.Symbols.{Symbols}
use Rattle.pol_trans.specs.declared.NameTrans.{NameTrans}
use Rattle.pol_trans.specs.declared.NameTrans.TheVariants.{Entries, Groups}
use Rattle.pol_file.specs.declared.Parts.{Parts}
use Rattle.pol_read.specs.declared.RuleKind.{RuleKind}
use Rattle.pol_read.specs.declared.RuleKind.TheVariants.{Allow, Auditallow, Dontaudit, AllowXperm, AuditallowXperm, DontauditXperm, TypeTransition, TypeChange, TypeMember, RoleAllow, RoleTransition, RangeTransition}
use Rattle.pol_read.specs.StoredRules.{StoredRule, av_rule, rules_of_node, rules_of_nodes, role_trans_rule, role_allow_rule, name_rules, name_trans_rule, rules_of_group, rules_of_datum, range_trans_rule, stored_rules}
use Rattle.pol_read.specs.RuleKinds.{kind_number}
use Rattle.info_summary.specs.RuleCounts.{kind_counts}
use Rattle.info_summary.proofs.Counting.{more_of_number, within}

-- ---- kinds

pub kind_below : (kind : RuleKind) → kind_number kind < 12
kind_below Allow = omega arith
kind_below Auditallow = omega arith
kind_below Dontaudit = omega arith
kind_below AllowXperm = omega arith
kind_below AuditallowXperm = omega arith
kind_below DontauditXperm = omega arith
kind_below TypeTransition = omega arith
kind_below TypeChange = omega arith
kind_below TypeMember = omega arith
kind_below RoleAllow = omega arith
kind_below RoleTransition = omega arith
kind_below RangeTransition = omega arith

-- all of these rules are of a kind
abbrev pub AreOf : RuleKind → List StoredRule → Type 0
AreOf kind rules = All (λ rule. kind_number rule.kind ≡ kind_number kind) rules

all_of : {X : Type 0} (kind : RuleKind) (f : X → StoredRule) → ((x : X) → kind_number (f x).kind ≡ kind_number kind) → (xs : List X) → AreOf kind (map f xs)
all_of kind f same [] = All-nil (λ rule. kind_number rule.kind ≡ kind_number kind)
all_of kind f same (x ∷ xs) = All-cons (λ rule. kind_number rule.kind ≡ kind_number kind) (f x) (map f xs) (same x) (all_of kind f same xs)

all_of_each : {X : Type 0} (kind : RuleKind) (f : X → List StoredRule) → ((x : X) → AreOf kind (f x)) → (xs : List X) → AreOf kind (flat_map f xs)
all_of_each kind f same [] = All-nil (λ rule. kind_number rule.kind ≡ kind_number kind)
all_of_each kind f same (x ∷ xs) = rw (flat_map-cons f x xs) (All-append (λ rule. kind_number rule.kind ≡ kind_number kind) (f x) (flat_map f xs) (same x) (all_of_each kind f same xs))

are_named : (symbols : Symbols) (transitions : NameTrans) → AreOf TypeTransition (name_rules symbols transitions)
are_named symbols (Entries entries) = all_of TypeTransition name_trans_rule (λ x. refl) entries
are_named symbols (Groups groups) =
    all_of_each TypeTransition (rules_of_group symbols) (λ group. all_of_each TypeTransition (rules_of_datum symbols group.value) (λ datum. all_of TypeTransition _ (λ source. refl) _) group.value.datums) groups

-- ---- counts

-- so many more rules of a kind are counted
pub more_of_kind : (rules more : List StoredRule) (kind : RuleKind) (n : ℕ) → AreOf kind more → n ≡ length more
    → slice_set (kind_counts rules) (kind_number kind) (get_or (kind_counts rules) (kind_number kind) 0 + n) ≡ kind_counts (rules ++ more)
unfolding kind_counts
more_of_kind rules more kind n all are = rw are (more_of_number (λ (rule : StoredRule). kind_number rule.kind) rules more (kind_number kind) (kind_below kind) all)

-- and no kind has more than there are rules
pub counted_within : (rules : List StoredRule) (kind : RuleKind) → get_or (kind_counts rules) (kind_number kind) 0 ≤ length rules
unfolding kind_counts
counted_within rules kind = within (λ (rule : StoredRule). kind_number rule.kind) rules (kind_number kind) (kind_below kind)

-- one rule more of the first ones
pub one_counted : (rules : List StoredRule) (n : ℕ) (rule : StoredRule) → slice_get rules n ≡ Some rule
    → slice_set (kind_counts (take n rules)) (kind_number rule.kind) (get_or (kind_counts (take n rules)) (kind_number rule.kind) 0 + 1) ≡ kind_counts (take (n + 1) rules)
one_counted rules n rule at =
    more_of_kind (take n rules) (rule ∷ []) rule.kind 1 (All-cons (λ r. kind_number r.kind ≡ kind_number rule.kind) rule [] refl (All-nil (λ r. kind_number r.kind ≡ kind_number rule.kind))) refl
    ∙ ap kind_counts (sym (rw (take_more rules n rule (slice_get_within rules n rule at), get_or_from_slice_get rules n rule rule at) refl))

pub counted_within_first : (rules : List StoredRule) (n : ℕ) (kind : RuleKind) → get_or (kind_counts (take n rules)) (kind_number kind) 0 ≤ n
counted_within_first rules n kind = omega (arith, counted_within (take n rules) kind, length-take n rules)

-- ---- rules under conditions

-- how many stand under the nodes from one on
abbrev pub rules_from : List (Placed CondNodeRec) → ℕ → ℕ
rules_from nodes i = length (flat_map (rules_of_node nodes) (range_with_len i (length nodes - i)))

pub node_counted : (nodes : List (Placed CondNodeRec)) (i : ℕ) → i < length nodes
    → rules_from nodes i ≡ length (access_vectors_of nodes i true) + length (access_vectors_of nodes i false) + rules_from nodes (i + 1)
node_counted nodes i lt =
    rw (first_of i (length nodes) lt, flat_map-cons (rules_of_node nodes) i (range_with_len (i + 1) (length nodes - (i + 1))), length-append (rules_of_node nodes i) (flat_map (rules_of_node nodes) (range_with_len (i + 1) (length nodes - (i + 1)))), node_length nodes i) refl

pub nodes_counted : (nodes : List (Placed CondNodeRec)) (i : ℕ) → length nodes ≤ i → rules_from nodes i ≡ 0
nodes_counted nodes i le = rw (none_of i (length nodes) le) refl

-- ---- the sections

abbrev pub vectors : Parts → List StoredRule
vectors policy = map (av_rule None) policy.rules.table ++ rules_of_nodes policy.rules.conditionals

abbrev pub roles : Parts → List StoredRule
roles policy = map role_trans_rule policy.rules.role_trans

abbrev pub allows : Parts → List StoredRule
allows policy = map role_allow_rule policy.rules.role_allows

abbrev pub named : Parts → List StoredRule
named policy = name_rules policy.symbols policy.rules.name_trans

abbrev pub ranges : Parts → List StoredRule
ranges policy = map range_trans_rule policy.labels.range_trans

-- the rules before the file-name transitions, before the range transitions, and all
sections : (policy : Parts) → stored_rules policy ≡ (((vectors policy ++ roles policy) ++ allows policy) ++ named policy) ++ ranges policy
sections policy = simp (append_assoc, append-nil)

after_vectors : (policy : Parts) → stored_rules policy ≡ vectors policy ++ (roles policy ++ (allows policy ++ (named policy ++ (ranges policy ++ []))))
after_vectors policy = simp (append_assoc)

pub all_rules : (policy : Parts) → length (stored_rules policy) ≡ length policy.rules.table + length (rules_of_nodes policy.rules.conditionals) + length policy.rules.role_trans + length policy.rules.role_allows
    + length (name_rules policy.symbols policy.rules.name_trans) + length policy.labels.range_trans
all_rules policy = rw (sections policy) (simp (length-append, length-map))

-- ---- section by section

-- the first section
pub first_counted : (policy : Parts) (first : List ℕ) (n : ℕ) → n ≡ length (vectors policy) → first ≡ kind_counts (take n (stored_rules policy)) → first ≡ kind_counts (vectors policy)
first_counted policy first n many are =
    let seam : take n (stored_rules policy) ≡ vectors policy =
    rw (many, after_vectors policy) (take-append_seam (vectors policy) (roles policy ++ (allows policy ++ (named policy ++ (ranges policy ++ []))))) in
    are ∙ ap kind_counts seam

-- and one more
pub next_counted : (rules more : List StoredRule) (kind : RuleKind) (old new : List ℕ) (n : ℕ) → AreOf kind more → n ≡ length more → old ≡ kind_counts rules
    → new ≡ slice_set old (kind_number kind) (get_or old (kind_number kind) 0 + n) → new ≡ kind_counts (rules ++ more)
next_counted rules more kind old new n all many are set = set ∙ rw are (more_of_kind rules more kind n all many)

pub are_roles : (policy : Parts) → AreOf RoleTransition (roles policy)
are_roles policy = all_of RoleTransition role_trans_rule (λ x. refl) policy.rules.role_trans

pub are_allows : (policy : Parts) → AreOf RoleAllow (allows policy)
are_allows policy = all_of RoleAllow role_allow_rule (λ x. refl) policy.rules.role_allows

pub are_ranges : (policy : Parts) → AreOf RangeTransition (ranges policy)
are_ranges policy = all_of RangeTransition range_trans_rule (λ x. refl) policy.labels.range_trans

-- what the code knows before it counts
pub record Sizes (policy : Parts) (all n r a g : ℕ) : Type 0 where
  pub all_are : all ≡ length (stored_rules policy)
  pub fits : all < 2 ^ 32
  pub vectors_are : n ≡ length (vectors policy)
  pub roles_are : r ≡ length (roles policy)
  pub allows_are : a ≡ length (allows policy)
  pub ranges_are : g ≡ length (ranges policy)

pub sizes_are : (policy : Parts) (all table nodes r a g : ℕ) → all ≡ length (stored_rules policy) → all < 2 ^ 32
    → table ≡ length policy.rules.table → nodes ≡ length (rules_of_nodes policy.rules.conditionals) → r ≡ length (roles policy) → a ≡ length (allows policy) → g ≡ length (ranges policy)
    → Sizes policy all (table + nodes) r a g
sizes_are policy all table nodes r a g all-are fits table-are nodes-are roles-are allows-are ranges-are = record {
  all_are = all-are;
  fits = fits;
  vectors_are = rw (length-append (map (av_rule None) policy.rules.table) (rules_of_nodes policy.rules.conditionals), length-map policy.rules.table (av_rule None), table-are, nodes-are) refl;
  roles_are = roles-are;
  allows_are = allows-are;
  ranges_are = ranges-are;
}

-- the sizes of all sections
sizes : (policy : Parts) → length (stored_rules policy) ≡ length (vectors policy) + length (roles policy) + length (allows policy) + length (named policy) + length (ranges policy)
sizes policy = rw (sections policy) (simp (length-append))

pub named_are : (policy : Parts) (all n r a g : ℕ) → Sizes policy all n r a g → all - n - r - a - g ≡ length (named policy)
named_are policy all n r a g s = omega (arith, sizes policy, s.all_are, s.vectors_are, s.roles_are, s.allows_are, s.ranges_are)

-- a count of some of the rules has 32 bits
pub count_fits : (policy : Parts) (all : ℕ) (rules : List StoredRule) (counts : List ℕ) (kind : RuleKind) → counts ≡ kind_counts rules → length rules ≤ all → all < 2 ^ 32 → get_or counts (kind_number kind) 0 < 2 ^ 32
count_fits policy all rules counts kind are le fits = rw are (omega (arith, counted_within rules kind, le, fits))

pub record AfterOne (policy : Parts) (counts : List ℕ) : Type 0 where
  pub are : counts ≡ kind_counts (vectors policy ++ roles policy)
  pub fits : get_or counts 9 0 < 2 ^ 32

pub first_fits : (policy : Parts) (all n r a g : ℕ) (first : List ℕ) → Sizes policy all n r a g → first ≡ kind_counts (take n (stored_rules policy)) → get_or first 10 0 < 2 ^ 32
first_fits policy all n r a g first s are =
    count_fits policy all (vectors policy) first RoleTransition (first_counted policy first n s.vectors_are are) (omega (arith, sizes policy, s.all_are)) s.fits

pub after_one : (policy : Parts) (all n r a g : ℕ) (first one : List ℕ) → Sizes policy all n r a g → first ≡ kind_counts (take n (stored_rules policy))
    → one ≡ slice_set first 10 (get_or first 10 0 + r) → AfterOne policy one
after_one policy all n r a g first one s are set =
    let is : one ≡ kind_counts (vectors policy ++ roles policy) =
    next_counted (vectors policy) (roles policy) RoleTransition first one r (are_roles policy) s.roles_are (first_counted policy first n s.vectors_are are) set in
    record { are = is; fits = count_fits policy all (vectors policy ++ roles policy) one RoleAllow is (rw (length-append (vectors policy) (roles policy)) (omega (arith, sizes policy, s.all_are))) s.fits }

pub record AfterTwo (policy : Parts) (counts : List ℕ) : Type 0 where
  pub are : counts ≡ kind_counts ((vectors policy ++ roles policy) ++ allows policy)
  pub fits : get_or counts 6 0 < 2 ^ 32

pub after_two : (policy : Parts) (all n r a g : ℕ) (one two : List ℕ) → Sizes policy all n r a g → AfterOne policy one → two ≡ slice_set one 9 (get_or one 9 0 + a) → AfterTwo policy two
after_two policy all n r a g one two s before set =
    let is : two ≡ kind_counts ((vectors policy ++ roles policy) ++ allows policy) =
    next_counted (vectors policy ++ roles policy) (allows policy) RoleAllow one two a (are_allows policy) s.allows_are before.are set in
    record {
      are = is;
      fits = count_fits policy all ((vectors policy ++ roles policy) ++ allows policy) two TypeTransition is
          (rw (length-append (vectors policy ++ roles policy) (allows policy), length-append (vectors policy) (roles policy)) (omega (arith, sizes policy, s.all_are))) s.fits;
    }

pub record AfterThree (policy : Parts) (counts : List ℕ) : Type 0 where
  pub are : counts ≡ kind_counts (((vectors policy ++ roles policy) ++ allows policy) ++ named policy)
  pub fits : get_or counts 11 0 < 2 ^ 32

pub after_three : (policy : Parts) (all n r a g : ℕ) (two three : List ℕ) → Sizes policy all n r a g → AfterTwo policy two → three ≡ slice_set two 6 (get_or two 6 0 + (all - n - r - a - g)) → AfterThree policy three
after_three policy all n r a g two three s before set =
    let is : three ≡ kind_counts (((vectors policy ++ roles policy) ++ allows policy) ++ named policy) =
    next_counted ((vectors policy ++ roles policy) ++ allows policy) (named policy) TypeTransition two three (all - n - r - a - g) (are_named policy.symbols policy.rules.name_trans) (named_are policy all n r a g s) before.are set in
    record {
      are = is;
      fits = count_fits policy all (((vectors policy ++ roles policy) ++ allows policy) ++ named policy) three RangeTransition is
          (rw (length-append ((vectors policy ++ roles policy) ++ allows policy) (named policy), length-append (vectors policy ++ roles policy) (allows policy), length-append (vectors policy) (roles policy)) (omega (arith, sizes policy, s.all_are))) s.fits;
    }

pub all_counted : (policy : Parts) (all n r a g : ℕ) (three four : List ℕ) → Sizes policy all n r a g → AfterThree policy three → four ≡ slice_set three 11 (get_or three 11 0 + g) → four ≡ kind_counts (stored_rules policy)
all_counted policy all n r a g three four s before set =
    next_counted (((vectors policy ++ roles policy) ++ allows policy) ++ named policy) (ranges policy) RangeTransition three four g (are_ranges policy) s.ranges_are before.are set ∙ ap kind_counts (sym (sections policy))
