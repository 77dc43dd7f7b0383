-- What finds a stored rule by its number: how many rules stand in each section, under each conditional node, and in each node of the
-- sources of groups of file-name transitions. It serves the code alone.
use Rattle.std.specs.Prelude.{◌≡◌, ℕ, Bool, true, false, List, [], ◌∷◌, ◌++◌, length, map}
use Rattle.std.specs.List.{filter, flat_map, range_with_len, enumerate_from}
use Rattle.pol_cursor.specs.References.{Placed}
use Rattle.pol_bitmap.specs.declared.node.Node.{Node}
use Rattle.pol_bitmap.specs.Nodes.{node_bits}
use Rattle.pol_symbols.specs.declared.Symbols.{Symbols}
use Rattle.pol_conditionals.specs.declared.CondNodeRec.{CondNodeRec}
use Rattle.pol_trans.specs.declared.NameDatumRec.{NameDatumRec}
use Rattle.pol_trans.specs.declared.NameGroupRec.{NameGroupRec}
use Rattle.pol_trans.specs.NameGroupRecord.{name_data_of}
use Rattle.pol_trans.specs.declared.NameTrans.{NameTrans}
use Rattle.pol_trans.specs.declared.NameTrans.TheVariants.{Entries, Groups}
use Rattle.pol_file.specs.declared.Parts.{Parts}
use Rattle.pol_read.specs.declared.name_index.NodePlace.{NodePlace}
use Rattle.pol_read.specs.declared.name_index.NameIndex.{NameIndex}
use Rattle.pol_read.specs.declared.rule_index.RuleIndex.{RuleIndex}
use Rattle.pol_read.specs.StoredRules.{StoredRule, name_rule, declared_values, rules_of_node, rule_sections}

-- the lengths of the lists that a function gives
abbrev pub lengths_of : {X A : Type 0} → (X → List A) → List X → List ℕ
lengths_of f xs = map (λ x. length (f x)) xs

abbrev pub node_lengths : List (Placed CondNodeRec) → List ℕ
node_lengths nodes = lengths_of (rules_of_node nodes) (range_with_len 0 (length nodes))

abbrev pub section_lengths : Parts → List ℕ
section_lengths policy = lengths_of (λ rules. rules) (rule_sections policy)

-- ---- nodes of the sources of data, in groups of file-name transitions

-- a node, with its number among those of its datum, and the datum's group with its number, both from 0 on
pub record SourceNode : Type 0 where
  pub group : ℕ × Placed NameGroupRec
  pub datum : Placed NameDatumRec
  pub node : ℕ × Node

-- those of a datum
abbrev pub nodes_of_datum : ℕ × Placed NameGroupRec → Placed NameDatumRec → List SourceNode
nodes_of_datum group datum = map (λ node. record { group = group; datum = datum; node = node }) (enumerate_from 0 datum.value.sources)

abbrev pub nodes_of_group : ℕ × Placed NameGroupRec → List SourceNode
nodes_of_group group = flat_map (nodes_of_datum group) (name_data_of group.1)

-- the rules of a datum whose sources some bits stand for
abbrev pub rules_of_bits : Symbols → NameGroupRec → NameDatumRec → List ℕ → List StoredRule
rules_of_bits symbols group datum bits = map (λ source. name_rule group.name source group.target group.class datum.default) (declared_values symbols bits)

-- those of a node
abbrev pub rules_at : Symbols → SourceNode → List StoredRule
rules_at symbols at = rules_of_bits symbols at.group.1.value at.datum.value (node_bits at.node.1)

-- there is one
abbrev pub has_items : {A : Type 0} → List A → Bool
has_items [] = false
has_items (x ∷ xs) = true

-- the nodes that have rules
abbrev pub with_rules : Symbols → List SourceNode → List SourceNode
with_rules symbols nodes = filter (λ at. has_items (rules_at symbols at)) nodes

-- those of all groups
abbrev pub rule_nodes : Symbols → List (Placed NameGroupRec) → List SourceNode
rule_nodes symbols groups = with_rules symbols (flat_map nodes_of_group (enumerate_from 0 groups))

-- where one stands
abbrev pub place_of : SourceNode → NodePlace
place_of at = record { group = at.group.0; datum = at.datum.place; node = at.node.0 }

-- how many rules each has, and where it stands
pub record HasNodes (symbols : Symbols) (nodes : List SourceNode) (index : NameIndex) : Type 0 where
  pub lengths : index.lengths ≡ lengths_of (rules_at symbols) nodes
  pub places : index.places.items ≡ map place_of nodes

-- the same of nodes that come behind those that are there
pub record Gains (symbols : Symbols) (old new : NameIndex) (nodes : List SourceNode) : Type 0 where
  pub lengths : new.lengths ≡ old.lengths ++ lengths_of (rules_at symbols) nodes
  pub places : new.places.items ≡ old.places.items ++ map place_of nodes

abbrev pub IsNameIndexOf : Symbols → NameTrans → NameIndex → Type 0
IsNameIndexOf symbols (Entries entries) index = Unit {0}
IsNameIndexOf symbols (Groups groups) index = HasNodes symbols (rule_nodes symbols groups) index

-- ---- the whole

pub record IsIndexOf (policy : Parts) (index : RuleIndex) : Type 0 where
  pub nodes : index.nodes ≡ node_lengths policy.rules.conditionals
  pub names : IsNameIndexOf policy.symbols policy.rules.name_trans index.names
  pub sections : index.sections ≡ section_lengths policy
