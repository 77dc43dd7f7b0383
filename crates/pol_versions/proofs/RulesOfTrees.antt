-- The stored rules of a policy by the records of its tree.
use Rattle.std.proofs.Common.{◌≡◌, ℕ, zero, suc, ◌+◌, ◌^◌, Bool, true, false, cond, ◌||◌, List, [], ◌∷◌, ◌++◌, map, length, Some, None, refl, sym, ap, ◌∙◌}
use Rattle.std.specs.Prelude.{◌&&◌, nat_lt, nat_eq, is_some, option_map}
use Rattle.std.specs.List.{filter, find, flat_map, list_any, range_with_len}
use Rattle.std.proofs.lemmas.List.{append-nil, length-map}
use Rattle.pol_cursor.specs.References.{Placed, values_of}
use Rattle.pol_cursor.proofs.PlacedNested.{values_placed}
use Rattle.pol_bitmap.specs.Nodes.{bits_of}
use Rattle.pol_symtab.specs.SymbolTables.{declares, primary_name}
use Rattle.pol_datums.specs.declared.TypeRec.{TypeRec}
use Rattle.pol_datums.specs.TypeRecord.{is_primary_type}
use Rattle.pol_symbols.specs.declared.Symbols.{Symbols}
use Rattle.pol_avtab.specs.declared.AvRec.{AvRec}
use Rattle.pol_conditionals.specs.declared.CondNodeRec.{CondNodeRec}
use Rattle.pol_conditionals.specs.CondNodeRecord.{rule_length, true_place, false_place, rules_of_branch as access_vectors_of}
use Rattle.pol_trans.specs.declared.NameTransRec.{NameTransRec}
use Rattle.pol_trans.specs.declared.NameDatumRec.{NameDatumRec}
use Rattle.pol_trans.specs.declared.NameGroupRec.{NameGroupRec}
use Rattle.pol_trans.specs.declared.NameTrans.{NameTrans}
use Rattle.pol_trans.specs.declared.NameTrans.TheVariants.{Entries, Groups}
use Rattle.pol_file.specs.declared.Parts.{Parts}
use Rattle.pol_read.specs.StoredRules.{StoredRule, av_rule, rules_of_branch, rules_of_node, rules_of_nodes, role_trans_rule, role_allow_rule, range_trans_rule, name_rule, name_trans_rule, is_declared_type, rules_of_datum, rules_of_group, name_rules}
use Rattle.pol_tree.specs.declared.Tree.{Tree}
use Rattle.pol_tree.specs.PolicyTree.{entries_of, groups_of, tree_of}
use Rattle.pol_versions.specs.KeptRecords.{bare_rule, bare_rules}

-- ---- lists

-- a record as if it stood first in the file
abbrev first_place : {A : Type 0} → A → Placed A
first_place x = record { place = 0; value = x }

module _ {A : Type 0} (rule_of : Placed A → StoredRule) where
  -- the rule of a record, wherever that stands
  abbrev pub rule_of_value : A → StoredRule
  rule_of_value x = bare_rule (rule_of (first_place x))

  by_values : ((r : Placed A) → bare_rule (rule_of r) ≡ rule_of_value r.value) → (rs : List (Placed A)) → map bare_rule (map rule_of rs) ≡ map rule_of_value (values_of rs)
  by_values same [] = refl
  by_values same (r ∷ rs) = rw (same r, by_values same rs) refl

bare_append : (xs ys : List StoredRule) → map bare_rule (xs ++ ys) ≡ map bare_rule xs ++ map bare_rule ys
bare_append [] ys = refl
bare_append (x ∷ xs) ys = ap (λ (rs : List StoredRule). bare_rule x ∷ rs) (bare_append xs ys)

bare_flat : {A : Type 0} (f g : A → List StoredRule) → ((x : A) → map bare_rule (f x) ≡ g x) → (xs : List A) → map bare_rule (flat_map f xs) ≡ flat_map g xs
bare_flat f g same [] = refl
bare_flat f g same (x ∷ xs) = bare_append (f x) (flat_map f xs) ∙ rw (same x, bare_flat f g same xs) refl

same_filter : (p q : ℕ → Bool) → ((n : ℕ) → p n ≡ q n) → (ns : List ℕ) → filter p ns ≡ filter q ns
same_filter p q same [] = refl
same_filter p q same (n ∷ ns) = rw (same n, same_filter p q same ns) refl

-- ---- rules under conditions

-- the access vectors of a branch of the node of a number
abbrev branch_of : CondNodeRec → Bool → List AvRec
branch_of node true = node.true_rules
branch_of node false = node.false_rules

abbrev vectors_of : List CondNodeRec → ℕ → Bool → List AvRec
vectors_of [] i branch = []
vectors_of (node ∷ nodes) zero branch = branch_of node branch
vectors_of (node ∷ nodes) (suc i) branch = vectors_of nodes i branch

vectors_by_values : (nodes : List (Placed CondNodeRec)) (i : ℕ) (branch : Bool) → values_of (access_vectors_of nodes i branch) ≡ vectors_of (values_of nodes) i branch
vectors_by_values [] i branch = refl
vectors_by_values (node ∷ nodes) zero true = values_placed rule_length (true_place node) node.value.true_rules
vectors_by_values (node ∷ nodes) zero false = values_placed rule_length (false_place node) node.value.false_rules
vectors_by_values (node ∷ nodes) (suc i) branch = vectors_by_values nodes i branch

abbrev branch_rules : List CondNodeRec → ℕ → Bool → List StoredRule
branch_rules nodes i branch = map (rule_of_value (av_rule (Some (record { node = i; branch = branch })))) (vectors_of nodes i branch)

abbrev pub node_rules : List CondNodeRec → List StoredRule
node_rules nodes = flat_map (λ i. branch_rules nodes i true ++ branch_rules nodes i false) (range_with_len 0 (length nodes))

branch_by_values : (nodes : List (Placed CondNodeRec)) (i : ℕ) (branch : Bool)
    → map bare_rule (map (av_rule (Some (record { node = i; branch = branch }))) (access_vectors_of nodes i branch)) ≡ branch_rules (values_of nodes) i branch
branch_by_values nodes i branch =
    by_values (av_rule (Some (record { node = i; branch = branch }))) (λ r. refl) (access_vectors_of nodes i branch)
    ∙ ap (map (rule_of_value (av_rule (Some (record { node = i; branch = branch }))))) (vectors_by_values nodes i branch)

node_by_values : (nodes : List (Placed CondNodeRec)) (i : ℕ) → map bare_rule (rules_of_node nodes i) ≡ branch_rules (values_of nodes) i true ++ branch_rules (values_of nodes) i false
node_by_values nodes i =
    bare_append (rules_of_branch nodes i true) (rules_of_branch nodes i false)
    ∙ ap (λ (rs : List StoredRule). rs ++ map bare_rule (rules_of_branch nodes i false)) (branch_by_values nodes i true)
    ∙ ap (λ (rs : List StoredRule). branch_rules (values_of nodes) i true ++ rs) (branch_by_values nodes i false)

nodes_by_values : (nodes : List (Placed CondNodeRec)) → map bare_rule (rules_of_nodes nodes) ≡ node_rules (values_of nodes)
nodes_by_values nodes =
    bare_flat (rules_of_node nodes) (λ i. branch_rules (values_of nodes) i true ++ branch_rules (values_of nodes) i false)
    (node_by_values nodes) (range_with_len 0 (length nodes))
    ∙ ap (λ (n : ℕ). flat_map (λ i. branch_rules (values_of nodes) i true ++ branch_rules (values_of nodes) i false) (range_with_len 0 n)) (sym (length-map nodes (λ (r : Placed CondNodeRec). r.value)))

-- ---- file-name transitions

-- a record declares a value
abbrev pub declares_value : ℕ → TypeRec → Bool
declares_value value t = is_primary_type t.properties && nat_eq t.value value

-- some record of types declares it
abbrev pub declared_by : List TypeRec → ℕ → Bool
declared_by types value = nat_lt value (2 ^ 32) && list_any (declares_value value) types

pub found_by : (records : List (Placed TypeRec)) (value : ℕ)
    → is_some (primary_name (λ (t : TypeRec). t.name) (λ (t : TypeRec). is_primary_type t.properties) (λ (t : TypeRec). t.value) records value) ≡ list_any (declares_value value) (values_of records)
unfolding primary_name
found_by [] value = refl
found_by (r ∷ rs) value = go (declares_value value r.value) (found_by rs value)
  where
    test : Placed TypeRec → Bool
    test = declares (λ (t : TypeRec). is_primary_type t.properties) (λ (t : TypeRec). t.value) value

    go : (b : Bool) → is_some (option_map (λ (r : Placed TypeRec). r.value.name) (find (declares (λ (t : TypeRec). is_primary_type t.properties) (λ (t : TypeRec). t.value) value) rs)) ≡ list_any (declares_value value) (values_of rs)
        → is_some (option_map (λ (r : Placed TypeRec). r.value.name) (cond b (Some r) (find (declares (λ (t : TypeRec). is_primary_type t.properties) (λ (t : TypeRec). t.value) value) rs))) ≡ (b || list_any (declares_value value) (values_of rs))
    go true rest = refl
    go false rest = rest

type_by_values : (symbols : Symbols) (value : ℕ) → is_declared_type symbols value ≡ declared_by (values_of symbols.types.records) value
type_by_values symbols value = ap (λ (b : Bool). nat_lt value (2 ^ 32) && b) (found_by symbols.types.records value)

abbrev pub entry_rule : NameTransRec → StoredRule
entry_rule entry = name_rule entry.name entry.source entry.target entry.class entry.default

-- the rule of a source of a datum
abbrev pub source_rule : NameGroupRec → ℕ → ℕ → StoredRule
source_rule group default source = name_rule group.name source group.target group.class default

abbrev pub datum_rules : List TypeRec → NameGroupRec → NameDatumRec → List StoredRule
datum_rules types group datum = map (source_rule group datum.default) (filter (declared_by types) (map (λ bit. bit + 1) (bits_of datum.sources)))

abbrev pub group_rules : List TypeRec → NameGroupRec → List StoredRule
group_rules types group = flat_map (datum_rules types group) group.datums

abbrev pub names_of : List TypeRec → List NameTransRec → List NameGroupRec → List StoredRule
names_of types entries groups = map entry_rule entries ++ flat_map (group_rules types) groups

bare_sources : (group : NameGroupRec) (default : ℕ) (sources : List ℕ) → map bare_rule (map (λ source. name_rule group.name source group.target group.class default) sources) ≡ map (source_rule group default) sources
bare_sources group default [] = refl
bare_sources group default (s ∷ ss) = ap (λ (rs : List StoredRule). source_rule group default s ∷ rs) (bare_sources group default ss)

datum_by_values : (symbols : Symbols) (group : NameGroupRec) (datum : NameDatumRec) → map bare_rule (rules_of_datum symbols group datum) ≡ datum_rules (values_of symbols.types.records) group datum
datum_by_values symbols group datum =
    bare_sources group datum.default (filter (is_declared_type symbols) (map (λ (bit : ℕ). bit + 1) (bits_of datum.sources)))
    ∙ ap (map (source_rule group datum.default)) (same_filter (is_declared_type symbols) (declared_by (values_of symbols.types.records)) (type_by_values symbols) (map (λ (bit : ℕ). bit + 1) (bits_of datum.sources)))

groups_by_values : (symbols : Symbols) (groups : List (Placed NameGroupRec)) → map bare_rule (flat_map (rules_of_group symbols) groups) ≡ flat_map (group_rules (values_of symbols.types.records)) (values_of groups)
groups_by_values symbols [] = refl
groups_by_values symbols (g ∷ gs) =
    bare_append (rules_of_group symbols g) (flat_map (rules_of_group symbols) gs)
    ∙ rw (bare_flat (rules_of_datum symbols g.value) (datum_rules (values_of symbols.types.records) g.value) (datum_by_values symbols g.value) g.value.datums, groups_by_values symbols gs) refl

names_by_values : (symbols : Symbols) (trans : NameTrans) → map bare_rule (name_rules symbols trans) ≡ names_of (values_of symbols.types.records) (entries_of trans) (groups_of trans)
names_by_values symbols (Entries entries) = by_values name_trans_rule (λ r. refl) entries ∙ sym (append-nil (map entry_rule (values_of entries)))
names_by_values symbols (Groups groups) = groups_by_values symbols groups

-- ---- all of them

-- the rules of a tree, but for file-name transitions those that stand before them and behind them
abbrev pub with_names_of : Tree → List StoredRule → List StoredRule
with_names_of tree names =
    map (rule_of_value (av_rule None)) tree.avtab
    ++ (node_rules tree.condlist
    ++ (map (rule_of_value role_trans_rule) tree.roletrans
    ++ (map (rule_of_value role_allow_rule) tree.roleallow
    ++ (names
    ++ (map (rule_of_value range_trans_rule) tree.rangetrans
    ++ [])))))

unfoldable pub tree_rules : Tree → List StoredRule
tree_rules tree = with_names_of tree (names_of tree.types tree.nametrans tree.namegroup)

six_parts : (a b c d e f : List StoredRule) → map bare_rule (a ++ (b ++ (c ++ (d ++ (e ++ (f ++ [])))))) ≡ map bare_rule a ++ (map bare_rule b ++ (map bare_rule c ++ (map bare_rule d ++ (map bare_rule e ++ (map bare_rule f ++ [])))))
six_parts a b c d e f =
    bare_append a _ ∙ ap (λ (rs : List StoredRule). map bare_rule a ++ rs)
    (bare_append b _ ∙ ap (λ (rs : List StoredRule). map bare_rule b ++ rs)
    (bare_append c _ ∙ ap (λ (rs : List StoredRule). map bare_rule c ++ rs)
    (bare_append d _ ∙ ap (λ (rs : List StoredRule). map bare_rule d ++ rs)
    (bare_append e _ ∙ ap (λ (rs : List StoredRule). map bare_rule e ++ rs) (bare_append f [])))))

pub rules_of_tree : (policy : Parts) → bare_rules policy ≡ tree_rules (tree_of policy)
unfolding tree_of tree_rules
rules_of_tree policy =
    let rules = policy.rules in
    six_parts (map (av_rule None) rules.table) (rules_of_nodes rules.conditionals) (map role_trans_rule rules.role_trans) (map role_allow_rule rules.role_allows) (name_rules policy.symbols rules.name_trans) (map range_trans_rule policy.labels.range_trans)
    ∙ rw (
      by_values (av_rule None) (λ r. refl) rules.table,
      nodes_by_values rules.conditionals,
      by_values role_trans_rule (λ r. refl) rules.role_trans,
      by_values role_allow_rule (λ r. refl) rules.role_allows,
      names_by_values policy.symbols rules.name_trans,
      by_values range_trans_rule (λ r. refl) policy.labels.range_trans,
    ) refl
