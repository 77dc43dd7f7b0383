-- Nodes of the sources of groups of file-name transitions, by which rules are found.
use Rattle.std.proofs.Common.{◌≡◌, ℕ, zero, suc, ◌+◌, ◌<◌, ◌≤◌, Option, Some, None, List, [], ◌∷◌, ◌++◌, length, take, drop, map, get_or, slice_get, sum, refl, sym, ap, subst, ◌∙◌, append_assoc, arith}
use Rattle.std.specs.Prelude.{option_map, if◌then◌else◌}
use Rattle.std.specs.List.{flat_map, filter, enumerate_from}
use Rattle.std.proofs.lemmas.List.{length-map, length-append, map-append, drop_more}
use Rattle.std.proofs.lemmas.List.Elements.{filter-append}
use Rattle.std.proofs.lemmas.List.Folds.{flat_map-map}
use Rattle.std.proofs.lemmas.List.Sums.{sum_by-cons, sum_by-append}
use Rattle.std.proofs.lemmas.Grind.{flat_map-append}
use Rattle.std.proofs.lemmas.Option.{same_Some, slice_get_within, get_or_from_slice_get}
use Rattle.pol_cursor.specs.References.{Placed, values_of}
use Rattle.pol_cursor.specs.FileNames.{name_in}
use Rattle.pol_cursor.specs.Parts.{num}
use Rattle.pol_cursor.specs.NestedRecords.{nested_in, HasNested, placed_from}
use Rattle.pol_cursor.proofs.Facts.{length_part}
use Rattle.pol_cursor.proofs.Lists.{placed_in}
use Rattle.pol_cursor.proofs.PlacedNested.{values_placed}
use Rattle.pol_bitmap.specs.declared.node.Node.{Node}
use Rattle.pol_bitmap.specs.Nodes.{node_bits, bits_of}
use Rattle.pol_symbols.specs.declared.Symbols.{Symbols}
use Rattle.pol_trans.specs.declared.NameDatumRec.{NameDatumRec}
use Rattle.pol_trans.specs.declared.NameGroupRec.{NameGroupRec}
use Rattle.pol_trans.specs.NameGroupRecord.{name_data_of, name_datum_length, name_datum_in, name_datum_end, name_group_in, name_data_place, name_data_count, HasNameDatum, HasNameGroup}
use Rattle.pol_trans.proofs.NameData.{data_placed}
use Rattle.pol_read.specs.declared.name_index.NodePlace.{NodePlace}
use Rattle.pol_read.specs.declared.name_index.NameIndex.{NameIndex}
use Rattle.pol_read.specs.StoredRules.{StoredRule, is_declared_type, declared_values, name_rule, rules_of_datum, rules_of_group}
use Rattle.pol_read.specs.Inner.RuleNumbers.{lengths_of, SourceNode, nodes_of_datum, nodes_of_group, rules_of_bits, rules_at, has_items, with_rules, rule_nodes, place_of, Gains}
use Rattle.pol_read.proofs.RuleSums.{get_map, total_is, found_by, found_length}
use Rattle.pol_read.proofs.ListItems.{Among, There, of_filter, of_map, of_flat_map, of_enumerated, there_is, kept}

-- ---- the rules of the nodes are all

module _ (symbols : Symbols) where
  bits_both : (group : NameGroupRec) (datum : NameDatumRec) (bits others : List ℕ) → rules_of_bits symbols group datum (bits ++ others) ≡ rules_of_bits symbols group datum bits ++ rules_of_bits symbols group datum others
  bits_both group datum bits others =
      let rule : ℕ → StoredRule = λ source. name_rule group.name source group.target group.class datum.default in
      ap (λ (values : List ℕ). map rule (filter (is_declared_type symbols) values)) (map-append (λ bit. bit + 1) bits others)
      ∙ ap (map rule) (filter-append (is_declared_type symbols) (map (λ bit. bit + 1) bits) (map (λ bit. bit + 1) others))
      ∙ map-append rule (declared_values symbols bits) (declared_values symbols others)

  sources_are : (group : NameGroupRec) (datum : NameDatumRec) (i : ℕ) (nodes : List Node) → flat_map (λ (node : ℕ × Node). rules_of_bits symbols group datum (node_bits node.1)) (enumerate_from i nodes) ≡ rules_of_bits symbols group datum (bits_of nodes)
  sources_are group datum i [] = refl
  sources_are group datum i (node ∷ nodes) =
      ap (λ (rules : List StoredRule). rules_of_bits symbols group datum (node_bits node) ++ rules) (sources_are group datum (i + 1) nodes)
      ∙ sym (bits_both group datum (node_bits node) (bits_of nodes))

  datum_are : (group : ℕ × Placed NameGroupRec) (datum : Placed NameDatumRec) → flat_map (rules_at symbols) (nodes_of_datum group datum) ≡ rules_of_datum symbols group.1.value datum.value
  datum_are group datum =
      flat_map-map (rules_at symbols) (λ (node : ℕ × Node). record { group = group; datum = datum; node = node }) (enumerate_from 0 datum.value.sources)
      ∙ sources_are group.1.value datum.value 0 datum.value.sources

  data_are : (group : ℕ × Placed NameGroupRec) (datums : List (Placed NameDatumRec)) → flat_map (rules_at symbols) (flat_map (nodes_of_datum group) datums) ≡ flat_map (rules_of_datum symbols group.1.value) (values_of datums)
  data_are group [] = refl
  data_are group (datum ∷ datums) =
      let others = flat_map (nodes_of_datum group) datums in
      flat_map-append (rules_at symbols) (nodes_of_datum group datum) others
      ∙ ap (λ (rules : List StoredRule). rules ++ flat_map (rules_at symbols) others) (datum_are group datum)
      ∙ ap (λ (rules : List StoredRule). rules_of_datum symbols group.1.value datum.value ++ rules) (data_are group datums)

  group_are : (group : ℕ × Placed NameGroupRec) → flat_map (rules_at symbols) (nodes_of_group group) ≡ rules_of_group symbols group.1
  group_are group =
      data_are group (name_data_of group.1)
      ∙ ap (flat_map (rules_of_datum symbols group.1.value)) (values_placed name_datum_length (group.1.place + 16 + length group.1.value.name) group.1.value.datums)

  groups_are : (i : ℕ) (groups : List (Placed NameGroupRec)) → flat_map (rules_at symbols) (flat_map nodes_of_group (enumerate_from i groups)) ≡ flat_map (rules_of_group symbols) groups
  groups_are i [] = refl
  groups_are i (group ∷ groups) =
      let others = flat_map nodes_of_group (enumerate_from (i + 1) groups) in
      flat_map-append (rules_at symbols) (nodes_of_group (i, group)) others
      ∙ ap (λ (rules : List StoredRule). rules ++ flat_map (rules_at symbols) others) (group_are (i, group))
      ∙ ap (λ (rules : List StoredRule). rules_of_group symbols group ++ rules) (groups_are (i + 1) groups)

  -- the rules of some nodes are those of the ones among them that have rules
  with_are : (nodes : List SourceNode) → flat_map (rules_at symbols) (with_rules symbols nodes) ≡ flat_map (rules_at symbols) nodes
  with_are nodes = kept (rules_at symbols) nodes

  -- the rules of all groups, node by node
  pub names_are : (groups : List (Placed NameGroupRec)) → flat_map (rules_at symbols) (rule_nodes symbols groups) ≡ flat_map (rules_of_group symbols) groups
  names_are groups = with_are (flat_map nodes_of_group (enumerate_from 0 groups)) ∙ groups_are 0 groups

  total_of : (nodes : List SourceNode) (rules : List StoredRule) → flat_map (rules_at symbols) nodes ≡ rules → sum (lengths_of (rules_at symbols) (with_rules symbols nodes)) ≡ length rules
  total_of nodes rules e = total_is (rules_at symbols) (with_rules symbols nodes) ∙ ap (λ (rules : List StoredRule). length rules) (with_are nodes ∙ e)

  pub names_total : (groups : List (Placed NameGroupRec)) → sum (lengths_of (rules_at symbols) (rule_nodes symbols groups)) ≡ length (flat_map (rules_of_group symbols) groups)
  names_total groups = total_of (flat_map nodes_of_group (enumerate_from 0 groups)) (flat_map (rules_of_group symbols) groups) (groups_are 0 groups)

  pub group_total : (group : ℕ × Placed NameGroupRec) → sum (lengths_of (rules_at symbols) (with_rules symbols (nodes_of_group group))) ≡ length (rules_of_group symbols group.1)
  group_total group = total_of (nodes_of_group group) (rules_of_group symbols group.1) (group_are group)

  pub datum_total : (group : ℕ × Placed NameGroupRec) (datum : Placed NameDatumRec) → sum (lengths_of (rules_at symbols) (with_rules symbols (nodes_of_datum group datum))) ≡ length (rules_of_datum symbols group.1.value datum.value)
  datum_total group datum = total_of (nodes_of_datum group datum) (rules_of_datum symbols group.1.value datum.value) (datum_are group datum)

-- ---- the index as it grows

sum_both : (ns ms : List ℕ) → sum (ns ++ ms) ≡ sum ns + sum ms
sum_both ns ms = sum_by-append (λ (n : ℕ). n) ns ms

-- what is there, together with what is left, is what was there at first and all of some nodes
pub record Adding (symbols : Symbols) (first : List ℕ) (start : List NodePlace) (now : NameIndex) (all left : List SourceNode) : Type 0 where
  pub lengths : now.lengths ++ lengths_of (rules_at symbols) left ≡ first ++ lengths_of (rules_at symbols) all
  pub places : now.places.items ++ map place_of left ≡ start ++ map place_of all

module _ (symbols : Symbols) (first : List ℕ) (start : List NodePlace) (now : NameIndex) (all left : List SourceNode) where
  -- what is left has room
  pub adding_limit : (nodes rest : List SourceNode) (n limit : ℕ) → left ≡ nodes ++ rest → sum (lengths_of (rules_at symbols) nodes) ≡ n → sum first + sum (lengths_of (rules_at symbols) all) ≤ limit → Adding symbols first start now all left
      → sum now.lengths + n ≤ limit
  adding_limit nodes rest n limit e is le adding =
      let ns = lengths_of (rules_at symbols) in
      let whole : sum now.lengths + sum (ns left) ≡ sum first + sum (ns all) = sym (sum_both now.lengths (ns left)) ∙ ap (λ (ns : List ℕ). sum ns) adding.lengths ∙ sum_both first (ns all) in
      let parts : sum (ns left) ≡ sum (ns nodes) + sum (ns rest) = ap (λ (xs : List SourceNode). sum (ns xs)) e ∙ ap (λ (ns : List ℕ). sum ns) (map-append (λ (at : SourceNode). length (rules_at symbols at)) nodes rest) ∙ sum_both (ns nodes) (ns rest) in
      omega (arith, whole, parts, is, le)

  pub adding_more : (next : NameIndex) (nodes rest : List SourceNode) → left ≡ nodes ++ rest → Gains symbols now next nodes → Adding symbols first start now all left → Adding symbols first start next all rest
  adding_more next nodes rest e gains adding =
      let ns = lengths_of (rules_at symbols) in
      record {
        lengths =
            ap (λ (ms : List ℕ). ms ++ ns rest) gains.lengths ∙ append_assoc now.lengths (ns nodes) (ns rest)
            ∙ ap (λ (ms : List ℕ). now.lengths ++ ms) (sym (map-append (λ (at : SourceNode). length (rules_at symbols at)) nodes rest))
            ∙ ap (λ (xs : List SourceNode). now.lengths ++ ns xs) (sym e) ∙ adding.lengths;
        places =
            ap (λ (ps : List NodePlace). ps ++ map place_of rest) gains.places ∙ append_assoc now.places.items (map place_of nodes) (map place_of rest)
            ∙ ap (λ (ps : List NodePlace). now.places.items ++ ps) (sym (map-append place_of nodes rest))
            ∙ ap (λ (xs : List SourceNode). now.places.items ++ map place_of xs) (sym e) ∙ adding.places;
      }

-- ---- one more node, datum or group

-- those of a list from an item on
from_item : {A : Type 0} (xs : List A) (i : ℕ) (x : A) → slice_get xs i ≡ Some x → enumerate_from i (drop i xs) ≡ (i, x) ∷ enumerate_from (i + 1) (drop (i + 1) xs)
from_item {A} xs i x e =
    ap (λ (ys : List A). enumerate_from i ys) (drop_more xs i x (slice_get_within xs i x e))
    ∙ ap (λ (y : A). (i, y) ∷ enumerate_from (i + 1) (drop (i + 1) xs)) (get_or_from_slice_get xs i x x e)

-- the nodes that are left of a datum
abbrev pub nodes_left : ℕ × Placed NameGroupRec → Placed NameDatumRec → ℕ → List SourceNode
nodes_left group datum i = map (λ node. record { group = group; datum = datum; node = node }) (enumerate_from i (drop i datum.value.sources))

-- those of the groups that are left
abbrev pub group_nodes_left : List (Placed NameGroupRec) → ℕ → List SourceNode
group_nodes_left groups i = flat_map nodes_of_group (enumerate_from i (drop i groups))

module _ (symbols : Symbols) where
  with_both : (nodes others : List SourceNode) → with_rules symbols (nodes ++ others) ≡ with_rules symbols nodes ++ with_rules symbols others
  with_both nodes others = filter-append (λ (at : SourceNode). has_items (rules_at symbols at)) nodes others

  pub group_more : (groups : List (Placed NameGroupRec)) (i : ℕ) (group : Placed NameGroupRec) → slice_get groups i ≡ Some group
      → with_rules symbols (group_nodes_left groups i) ≡ with_rules symbols (nodes_of_group (i, group)) ++ with_rules symbols (group_nodes_left groups (i + 1))
  group_more groups i group e =
      ap (λ (gs : List (ℕ × Placed NameGroupRec)). with_rules symbols (flat_map nodes_of_group gs)) (from_item groups i group e)
      ∙ with_both (nodes_of_group (i, group)) (group_nodes_left groups (i + 1))

  pub datum_more : (group : ℕ × Placed NameGroupRec) (datum : Placed NameDatumRec) (datums : List (Placed NameDatumRec))
      → with_rules symbols (flat_map (nodes_of_datum group) (datum ∷ datums)) ≡ with_rules symbols (nodes_of_datum group datum) ++ with_rules symbols (flat_map (nodes_of_datum group) datums)
  datum_more group datum datums = with_both (nodes_of_datum group datum) (flat_map (nodes_of_datum group) datums)

  node_first : (group : ℕ × Placed NameGroupRec) (datum : Placed NameDatumRec) (i : ℕ) (node : Node) → slice_get datum.value.sources i ≡ Some node
      → with_rules symbols (nodes_left group datum i) ≡ with_rules symbols (record { group = group; datum = datum; node = (i, node) } ∷ nodes_left group datum (i + 1))
  node_first group datum i node e = ap (λ (ns : List (ℕ × Node)). with_rules symbols (map (λ node. record { group = group; datum = datum; node = node }) ns)) (from_item datum.value.sources i node e)

  node_length : (at : SourceNode) → length (rules_at symbols at) ≡ length (declared_values symbols (node_bits at.node.1))
  node_length at = simp length-map

  first_kept : (at : SourceNode) (nodes : List SourceNode) (rules : List StoredRule) → rules_at symbols at ≡ rules → 0 < length rules → with_rules symbols (at ∷ nodes) ≡ at ∷ with_rules symbols nodes
  first_kept at nodes [] e lt = absurd (omega (arith, lt))
  first_kept at nodes (rule ∷ rules) e lt = ap (λ (rules : List StoredRule). if has_items rules then at ∷ with_rules symbols nodes else with_rules symbols nodes) e

  first_left : (at : SourceNode) (nodes : List SourceNode) (rules : List StoredRule) → rules_at symbols at ≡ rules → length rules ≤ 0 → with_rules symbols (at ∷ nodes) ≡ with_rules symbols nodes
  first_left at nodes [] e le = ap (λ (rules : List StoredRule). if has_items rules then at ∷ with_rules symbols nodes else with_rules symbols nodes) e
  first_left at nodes (rule ∷ rules) e le = absurd (omega (arith, le))

  pub node_some : (group : ℕ × Placed NameGroupRec) (datum : Placed NameDatumRec) (i : ℕ) (node : Node) → slice_get datum.value.sources i ≡ Some node → 0 < length (declared_values symbols (node_bits node))
      → with_rules symbols (nodes_left group datum i) ≡ record { group = group; datum = datum; node = (i, node) } ∷ with_rules symbols (nodes_left group datum (i + 1))
  node_some group datum i node e lt =
      let at : SourceNode = record { group = group; datum = datum; node = (i, node) } in
      node_first group datum i node e ∙ first_kept at (nodes_left group datum (i + 1)) (rules_at symbols at) refl (omega (arith, lt, node_length at))

  pub node_gone : (group : ℕ × Placed NameGroupRec) (datum : Placed NameDatumRec) (i : ℕ) (node : Node) → slice_get datum.value.sources i ≡ Some node → length (declared_values symbols (node_bits node)) ≤ 0
      → with_rules symbols (nodes_left group datum i) ≡ with_rules symbols (nodes_left group datum (i + 1))
  node_gone group datum i node e le =
      let at : SourceNode = record { group = group; datum = datum; node = (i, node) } in
      node_first group datum i node e ∙ first_left at (nodes_left group datum (i + 1)) (rules_at symbols at) refl (omega (arith, le, node_length at))

  -- a node that has rules, as it is added
  pub gains_one : (now next : NameIndex) (at : SourceNode) (count place : ℕ) → count ≡ length (declared_values symbols (node_bits at.node.1)) → place ≡ at.datum.place → next.lengths ≡ now.lengths ++ count ∷ []
      → next.places.items ≡ now.places.items ++ record { group = at.group.0; datum = place; node = at.node.0 } ∷ [] → Gains symbols now next (at ∷ [])
  gains_one now next at count place is stands lengths places = record {
    lengths = lengths ∙ ap (λ (n : ℕ). now.lengths ++ n ∷ []) (is ∙ sym (node_length at));
    places = places ∙ ap (λ (p : ℕ). now.places.items ++ record { group = at.group.0; datum = p; node = at.node.0 } ∷ []) stands;
  }

  pub one_total : (at : SourceNode) → sum (lengths_of (rules_at symbols) (at ∷ [])) ≡ length (declared_values symbols (node_bits at.node.1))
  one_total at = sum_by-cons (λ (n : ℕ). n) (length (rules_at symbols at)) [] ∙ omega (arith, node_length at)

  -- as many rules as nodes, at least
  pub few_more : (now next : NameIndex) (at : SourceNode) → 0 < length (declared_values symbols (node_bits at.node.1)) → Gains symbols now next (at ∷ []) → length now.lengths ≤ sum now.lengths → length next.lengths ≤ sum next.lengths
  few_more now next at lt gains few =
      let one = lengths_of (rules_at symbols) (at ∷ []) in
      let long : length next.lengths ≡ length now.lengths + 1 = ap (λ (ns : List ℕ). length ns) gains.lengths ∙ length-append now.lengths one in
      let total : sum next.lengths ≡ sum now.lengths + sum one = ap (λ (ns : List ℕ). sum ns) gains.lengths ∙ sum_both now.lengths one in
      omega (arith, lt, few, long, total, one_total at)

-- ---- where a node stands

record Stands (groups : List (Placed NameGroupRec)) (at : SourceNode) : Type 0 where
  group : slice_get groups at.group.0 ≡ Some at.group.1
  datum : Among (name_data_of at.group.1) at.datum
  node : slice_get at.datum.value.sources at.node.0 ≡ Some at.node.1

of_datum : (group : ℕ × Placed NameGroupRec) (datum : Placed NameDatumRec) (k : ℕ) (at : SourceNode) → slice_get (nodes_of_datum group datum) k ≡ Some at
    → (at.group ≡ group) × (at.datum ≡ datum) × (slice_get datum.value.sources at.node.0 ≡ Some at.node.1)
of_datum group datum k at e =
    let made = of_map (λ (node : ℕ × Node). record { group = group; datum = datum; node = node }) (enumerate_from 0 datum.value.sources) k at e in
    subst (λ (at : SourceNode). (at.group ≡ group) × (at.datum ≡ datum) × (slice_get datum.value.sources at.node.0 ≡ Some at.node.1)) made.gives
    (refl, refl, of_enumerated datum.value.sources k made.item made.at)

module _ (symbols : Symbols) (groups : List (Placed NameGroupRec)) (k : ℕ) (at : SourceNode) (e : slice_get (rule_nodes symbols groups) k ≡ Some at) where
  stands : Stands groups at
  stands =
      let any = of_filter (λ (at : SourceNode). has_items (rules_at symbols at)) (flat_map nodes_of_group (enumerate_from 0 groups)) k at e in
      let group = of_flat_map nodes_of_group (enumerate_from 0 groups) any.index at any.at in
      let datum = of_flat_map (nodes_of_datum group.item) (name_data_of group.item.1) group.place at group.at in
      let one = of_datum group.item datum.item datum.place at datum.at in
      let own = of_enumerated groups group.index group.item group.is in
      record {
        group = subst (λ (g : ℕ × Placed NameGroupRec). slice_get groups g.0 ≡ Some g.1) (sym one.0) own;
        datum =
            subst (λ (g : ℕ × Placed NameGroupRec). Among (name_data_of g.1) at.datum) (sym one.0)
            (subst (λ (d : Placed NameDatumRec). Among (name_data_of group.item.1) d) (sym one.1) (record { index = datum.index; at = datum.is }));
        node = ap (λ (d : Placed NameDatumRec). slice_get d.value.sources at.node.0) one.1 ∙ one.2;
      }

-- ---- a datum in the buffer

record Holds {A : Type 0} (standing : List ℕ → ℕ → A) (has : List ℕ → ℕ → Type 0) (bytes : List ℕ) (item : Placed A) : Type 0 where
  there : has bytes item.place
  is : placed_in standing bytes item.place ≡ item

module _ {A : Type 0} (standing : List ℕ → ℕ → A) (has : List ℕ → ℕ → Type 0) (ends : List ℕ → ℕ → ℕ) (bytes : List ℕ) where
  run_item : (place n j : ℕ) (item : Placed A) → slice_get (nested_in standing ends bytes place n) j ≡ Some item → HasNested has ends bytes place n → Holds standing has bytes item
  unfolding nested_in HasNested
  run_item place zero j item e h = absurd cc
  run_item place (suc n) zero item e h = subst (λ (it : Placed A). Holds standing has bytes it) (same_Some _ _ e) (record { there = h.0; is = refl })
  run_item place (suc n) (suc j) item e h = run_item (ends bytes place) n j item e h.1

group_data : (bytes : List ℕ) (place : ℕ) → HasNameGroup bytes place
    → name_data_of (placed_in name_group_in bytes place) ≡ nested_in name_datum_in name_datum_end bytes (name_data_place bytes place) (name_data_count bytes place)
group_data bytes place h =
    let start : place + 16 + length (name_in bytes place) ≡ name_data_place bytes place = omega (arith, length_part bytes (place + 4) (num bytes place 4) (omega (arith, h.0))) in
    ap (λ (p : ℕ). placed_from name_datum_length p (values_of (nested_in name_datum_in name_datum_end bytes (name_data_place bytes place) (name_data_count bytes place)))) start
    ∙ sym (data_placed bytes (name_data_place bytes place) (name_data_count bytes place) h.2)

-- the node of a number, by where it stands
module _ (symbols : Symbols) (groups : List (Placed NameGroupRec)) (places : List NodePlace) (are : places ≡ map place_of (rule_nodes symbols groups)) (k : ℕ) (within : k < length places) (default : NodePlace) where
  there : There (rule_nodes symbols groups) k
  there =
      let long : length (map place_of (rule_nodes symbols groups)) ≡ length (rule_nodes symbols groups) = simp length-map in
      there_is (rule_nodes symbols groups) k (omega (arith, within, long, ap (λ (ps : List NodePlace). length ps) are))

  place_is : get_or places k default ≡ place_of there.item
  place_is = get_or_from_slice_get places k (place_of there.item) default (ap (λ (ps : List NodePlace). slice_get ps k) are ∙ get_map place_of (rule_nodes symbols groups) k there.item there.at)

  its : Stands groups there.item
  its = stands symbols groups k there.item there.at

  group_at : slice_get groups (get_or places k default).group ≡ Some there.item.group.1
  group_at = ap (λ (p : NodePlace). slice_get groups p.group) place_is ∙ its.group

  pub group_within : (get_or places k default).group < length groups
  group_within = slice_get_within groups (get_or places k default).group there.item.group.1 group_at

  pub group_found : (group : Placed NameGroupRec) → slice_get groups (get_or places k default).group ≡ Some group → option_map (λ (at : SourceNode). at.group.1) (slice_get (rule_nodes symbols groups) k) ≡ Some group
  group_found group e = ap (option_map (λ (at : SourceNode). at.group.1)) there.at ∙ sym group_at ∙ e

  module _ (bytes : List ℕ) (place : ℕ) (has : HasNameGroup bytes place) (same : slice_get groups (get_or places k default).group ≡ Some (placed_in name_group_in bytes place)) where
    holds : Holds name_datum_in HasNameDatum bytes there.item.datum
    holds =
        let group : there.item.group.1 ≡ placed_in name_group_in bytes place = same_Some _ _ (sym group_at ∙ same) in
        let run : name_data_of there.item.group.1 ≡ nested_in name_datum_in name_datum_end bytes (name_data_place bytes place) (name_data_count bytes place) = ap name_data_of group ∙ group_data bytes place has in
        run_item name_datum_in HasNameDatum name_datum_end bytes (name_data_place bytes place) (name_data_count bytes place) its.datum.index there.item.datum
        (ap (λ (datums : List (Placed NameDatumRec)). slice_get datums its.datum.index) (sym run) ∙ its.datum.at) has.2

    pub datum_stands : HasNameDatum bytes (get_or places k default).datum
    datum_stands = subst (λ (p : NodePlace). HasNameDatum bytes p.datum) (sym place_is) holds.there

    datum_is : there.item.datum ≡ placed_in name_datum_in bytes (get_or places k default).datum
    datum_is = sym holds.is ∙ ap (λ (p : NodePlace). placed_in name_datum_in bytes p.datum) (sym place_is)

    pub datum_found : option_map (λ (at : SourceNode). at.datum) (slice_get (rule_nodes symbols groups) k) ≡ Some (placed_in name_datum_in bytes (get_or places k default).datum)
    datum_found = ap (option_map (λ (at : SourceNode). at.datum)) there.at ∙ ap (λ (x : Placed NameDatumRec). Some x) datum_is

    node_there : slice_get (name_datum_in bytes (get_or places k default).datum).sources (get_or places k default).node ≡ Some there.item.node.1
    node_there =
        ap (λ (d : Placed NameDatumRec). slice_get d.value.sources (get_or places k default).node) (sym datum_is)
        ∙ ap (λ (p : NodePlace). slice_get there.item.datum.value.sources p.node) place_is ∙ its.node

    pub node_within : (get_or places k default).node < length (name_datum_in bytes (get_or places k default).datum).sources
    node_within = slice_get_within _ _ _ node_there

    pub node_found : (node : Node) → slice_get (name_datum_in bytes (get_or places k default).datum).sources (get_or places k default).node ≡ Some node → option_map (λ (at : SourceNode). at.node.1) (slice_get (rule_nodes symbols groups) k) ≡ Some node
    node_found node e = ap (option_map (λ (at : SourceNode). at.node.1)) there.at ∙ sym node_there ∙ e

-- ---- the rule of a node that a search through the lengths found

module _ (symbols : Symbols) (groups : List (Placed NameGroupRec)) (lengths : List ℕ) (are : lengths ≡ lengths_of (rules_at symbols) (rule_nodes symbols groups)) (k rest : ℕ) (lt : rest < get_or lengths k 0)
    (group : Placed NameGroupRec) (datum : Placed NameDatumRec) (node : Node)
    (group_at : option_map (λ at. at.group.1) (slice_get (rule_nodes symbols groups) k) ≡ Some group)
    (datum_at : option_map (λ at. at.datum) (slice_get (rule_nodes symbols groups) k) ≡ Some datum)
    (node_at : option_map (λ at. at.node.1) (slice_get (rule_nodes symbols groups) k) ≡ Some node) where
  record One : Type 0 where
    one : SourceNode
    at : slice_get (rule_nodes symbols groups) k ≡ Some one
    group_same : one.group.1 ≡ group
    datum_same : one.datum ≡ datum
    node_same : one.node.1 ≡ node

  one_of : (o : Option SourceNode) → slice_get (rule_nodes symbols groups) k ≡ o → One
  one_of None e =
      let none : None ≡ Some group = sym (ap (option_map (λ (at : SourceNode). at.group.1)) e) ∙ group_at in
      absurd cc
  one_of (Some one) e = record {
    one = one;
    at = e;
    group_same = same_Some _ _ (sym (ap (option_map (λ (at : SourceNode). at.group.1)) e) ∙ group_at);
    datum_same = same_Some _ _ (sym (ap (option_map (λ (at : SourceNode). at.datum)) e) ∙ datum_at);
    node_same = same_Some _ _ (sym (ap (option_map (λ (at : SourceNode). at.node.1)) e) ∙ node_at);
  }

  found : One
  found = one_of (slice_get (rule_nodes symbols groups) k) refl

  rules_are : rules_at symbols found.one ≡ rules_of_bits symbols group.value datum.value (node_bits node)
  rules_are =
      ap (λ (g : Placed NameGroupRec). rules_of_bits symbols g.value found.one.datum.value (node_bits found.one.node.1)) found.group_same
      ∙ ap (λ (d : Placed NameDatumRec). rules_of_bits symbols group.value d.value (node_bits found.one.node.1)) found.datum_same
      ∙ ap (λ (n : Node). rules_of_bits symbols group.value datum.value (node_bits n)) found.node_same

  pub node_item : rest < length (rules_of_bits symbols group.value datum.value (node_bits node))
  node_item =
      omega (arith, lt, ap (λ (ns : List ℕ). get_or ns k 0) are, found_length (rules_at symbols) (rule_nodes symbols groups) k found.one found.at, ap (λ (rules : List StoredRule). length rules) rules_are)

  pub node_rule_found : (n : ℕ) → sum (take k lengths) + rest ≡ n → slice_get (flat_map (rules_of_group symbols) groups) n ≡ slice_get (rules_of_bits symbols group.value datum.value (node_bits node)) rest
  node_rule_found n place =
      ap (λ (rules : List StoredRule). slice_get rules n) (sym (names_are symbols groups))
      ∙ found_by (rules_at symbols) (rule_nodes symbols groups) lengths k rest n found.one are found.at lt place
      ∙ ap (λ (rules : List StoredRule). slice_get rules rest) rules_are
