-- A policy of at most 64 MiB has at most 400,000,000 rules: its bytes have no room for more.
use Rattle.std.proofs.Common.{◌≡◌, ℕ, suc, ◌+◌, ◌*◌, ◌≤◌, Bool, true, false, Option, Some, None, List, [], ◌∷◌, ◌++◌, length, map, slice_get, Ok, refl, ap, subst, ◌∙◌, arith}
use Rattle.pol_fields.specs.declared.limits.TheConstants.{MAX_POLICY_BYTES}
use Rattle.std.specs.Prelude.{if◌then◌else◌}
use Rattle.std.specs.List.{flat_map, range_with_len}
use Rattle.std.proofs.lemmas.List.{length-map, length-append, append_assoc}
use Rattle.std.proofs.lemmas.List.Sums.{length-filter, count_by-le-length}
use Rattle.pol_fields.specs.declared.field.Field.{Field}
use Rattle.pol_fields.specs.declared.fields.TheConstants.{CONDNODE_NTRUE, CONDNODE_NFALSE, NAMETRANS_LEN, NAMETRANS_NAME, NAMEGROUP_LEN, NAMEGROUP_NAME, GENFS_COUNT, RANGETRANS_COUNT, END_END}
use Rattle.pol_cursor.specs.Outcome.{Got, Reader, ◌>>=◌, done}
use Rattle.pol_cursor.specs.Parts.{end_at, counted, records_at}
use Rattle.pol_cursor.specs.References.{Placed, placed}
use Rattle.pol_cursor.specs.NestedRecords.{placed_from}
use Rattle.pol_cursor.proofs.Laws.{and_then_got}
use Rattle.pol_bitmap.specs.Nodes.{bits_of}
use Rattle.pol_mls.specs.RangeRecord.{range_at}
use Rattle.pol_expr.specs.ConditionRecord.{item_at, values_after_item, items_at, condition_at}
use Rattle.pol_symbols.specs.PolicySymbols.{symbols_at}
use Rattle.pol_symbols.specs.declared.Symbols.{Symbols}
use Rattle.pol_avtab.specs.declared.AvKey.{AvKey}
use Rattle.pol_avtab.specs.declared.AvRec.{AvRec}
use Rattle.pol_conditionals.specs.declared.CondNodeRec.{CondNodeRec}
use Rattle.pol_avtab.specs.AvRecord.{is_extended, extended_at, data_at, part_at, av_at}
use Rattle.pol_avtab.specs.AvTables.{rule_at, after_rule, no_rules, placed_rules_at, table_at as rule_table_at}
use Rattle.pol_conditionals.specs.CondNodeList.{conditionals_at}
use Rattle.pol_conditionals.specs.CondNodeRecord.{condnode_at, rule_length, rules_of_branch as access_vectors_of, true_place, false_place}
use Rattle.pol_trans.specs.declared.NameDatumRec.{NameDatumRec}
use Rattle.pol_trans.specs.declared.NameGroupRec.{NameGroupRec}
use Rattle.pol_trans.specs.declared.NameTrans.TheVariants.{Entries, Groups}
use Rattle.pol_trans.specs.RoleTransRecord.{role_trans_at}
use Rattle.pol_trans.specs.RoleAllowRecord.{role_allow_at}
use Rattle.pol_trans.specs.RangeTransRecord.{range_trans_at}
use Rattle.pol_trans.specs.NameTransRecord.{name_trans_at}
use Rattle.pol_trans.specs.NameGroupRecord.{name_datum_at, name_group_at}
use Rattle.pol_trans.specs.NameTransitions.{has_groups, entries_at, groups_at, name_transitions_at}
use Rattle.pol_contexts.specs.ContextTables.{contexts_at}
use Rattle.pol_genfs.specs.GenfsRecord.{genfs_at}
use Rattle.pol_file.specs.declared.Parts.{Parts}
use Rattle.pol_file.specs.declared.RuleLists.{RuleLists}
use Rattle.pol_file.specs.TypeRows.{type_rows_at}
use Rattle.pol_file.specs.PolicyParts.{front_at, rule_lists_at, label_lists_at, policy_at}
use Rattle.pol_file.specs.Acceptance.{accept}
use Rattle.pol_file.proofs.Acceptances.{accepted_was_read}
use Rattle.pol_read.specs.StoredRules.{is_declared_type, declared_sources, rules_of_node, rules_of_nodes, rules_of_datum, rules_of_group, name_rule, name_rules, name_trans_rule, stored_rules}
use Rattle.pol_read.proofs.RuleSums.{node_length, section_sizes}
use Rattle.pol_read.proofs.RuleRooms.{HasRoom, room-done, room-then, room-less, room-number, room-number_if, room-string, room-placed, room-optional, total, total_less, total_items, total_same, room-list_of, room-records_after, room-counted, room-bitmap, room-bits, room-name}

-- ---- access vectors

room-extended : HasRoom extended_at 0 (λ part. 0)
unfolding extended_at
room-extended =
    room-then (room-number_if _ 1 0 _ (omega arith)) λ xkind.
    room-then (room-number _ 1 0 (omega arith)) λ driver.
    room-then (room-string _ 32) λ bits.
    room-done _ _ _ (omega arith)

room-data : HasRoom data_at 0 (λ part. 0)
unfolding data_at
room-data =
    room-then (room-number _ 4 0 (omega arith)) λ mask.
    room-done _ _ _ (omega arith)

room-part : (extended : Bool) → HasRoom (part_at extended) 0 (λ part. 0)
unfolding part_at
room-part true = room-extended
room-part false = room-data

room-av : (version : ℕ) (earlier : Option (List AvKey)) → HasRoom (av_at version earlier) 0 (λ av. 3)
unfolding av_at
room-av version earlier =
    room-then (room-number _ 2 3 (omega arith)) λ source.
    room-then (room-number _ 2 0 (omega arith)) λ target.
    room-then (room-number _ 2 0 (omega arith)) λ class.
    room-then (room-number_if _ 2 0 _ (omega arith)) λ specified.
    room-then (room-part (is_extended specified)) λ part.
    room-done _ _ _ (omega arith)

room-table : (version : ℕ) → HasRoom (rule_table_at version) 0 (λ rules. 3 * length rules)
unfolding rule_table_at placed_rules_at
room-table version =
    room-then (room-number _ 4 0 (omega arith)) λ n.
    room-less (room-records_after rule_at after_rule (λ av. 3) (λ context. room-av context.version (Some context.keys)) n (no_rules version)) (λ rules. rw (total_same 3 rules) (omega arith))

-- ---- conditional nodes

room-item : (left values : ℕ) → HasRoom (item_at left values) 0 (λ item. 0)
unfolding item_at
room-item left values =
    room-then (room-number_if _ 4 0 _ (omega arith)) λ kind.
    room-then (room-number _ 4 0 (omega arith)) λ boolean.
    room-done _ _ _ (omega arith)

room-items : (count : ℕ) → HasRoom (items_at count) 0 (λ items. 0)
unfolding items_at
room-items count = room-less (room-list_of item_at values_after_item (λ item. 0) room-item count 0) (λ items. omega arith)

room-condition : HasRoom condition_at 0 (λ condition. 0)
unfolding condition_at
room-condition =
    room-then (room-number _ 4 0 (omega arith)) λ state.
    room-then (room-number_if _ 4 0 _ (omega arith)) λ count.
    room-then (room-items count) λ items.
    room-done _ _ _ (omega arith)

-- three a rule
abbrev node_room : CondNodeRec → ℕ
node_room node = 3 * length node.true_rules + 3 * length node.false_rules

room-rules : (version : ℕ) (count : Field) → HasRoom (counted count (records_at (av_at version None))) 0 (λ rules. 3 * length rules)
room-rules version count = room-less (room-counted count (λ av. 3) (room-av version None)) (λ rules. rw (total_same 3 rules) (omega arith))

room-condnode : (version : ℕ) → HasRoom (condnode_at version) 0 node_room
unfolding condnode_at
room-condnode version =
    room-then room-condition λ condition.
    room-then (room-rules version CONDNODE_NTRUE) λ true_rules.
    room-then (room-rules version CONDNODE_NFALSE) λ false_rules.
    room-done _ node_room _ (omega arith)

room-conditionals : (version : ℕ) → HasRoom (conditionals_at version) 0 (total (λ node. node_room node.value))
unfolding conditionals_at
room-conditionals version = room-counted _ (λ node. node_room node.value) (room-placed (room-condnode version))

-- so many rules stand under the nodes

placed_length : (place : ℕ) (avs : List AvRec) → length (placed_from rule_length place avs) ≡ length avs
unfolding placed_from
placed_length place [] = refl
placed_length place (av ∷ avs) = ap suc (placed_length (place + rule_length av) avs)

module _ (nodes : List (Placed CondNodeRec)) where
  rules_at_node : (i : ℕ) (node : Placed CondNodeRec) → slice_get nodes i ≡ Some node → 3 * length (rules_of_node nodes i) ≡ node_room node.value
  rules_at_node i node e =
      let yes : length (access_vectors_of nodes i true) ≡ length node.value.true_rules = rw e (placed_length (true_place node) node.value.true_rules) in
      let no : length (access_vectors_of nodes i false) ≡ length node.value.false_rules = rw e (placed_length (false_place node) node.value.false_rules) in
      omega (arith, node_length nodes i, yes, no)

  -- from a node on
  from_node : (before rest : List (Placed CondNodeRec)) → nodes ≡ before ++ rest → 3 * length (flat_map (rules_of_node nodes) (range_with_len (length before) (length rest))) ≡ total (λ node. node_room node.value) rest
  unfolding total
  from_node before [] e = refl
  from_node before (node ∷ rest) e =
      let i = length before in
      let here : slice_get nodes i ≡ Some node = rw e (behind before) in
      let one = rules_at_node i node here in
      let longer : length (before ++ node ∷ []) ≡ i + 1 = length-append before (node ∷ []) in
      let others : 3 * length (flat_map (rules_of_node nodes) (range_with_len (i + 1) (length rest))) ≡ total (λ node. node_room node.value) rest =
      subst (λ (k : ℕ). 3 * length (flat_map (rules_of_node nodes) (range_with_len k (length rest))) ≡ total (λ node. node_room node.value) rest) longer (from_node (before ++ node ∷ []) rest (e ∙ simp append_assoc)) in
      let both = length-append (rules_of_node nodes i) (flat_map (rules_of_node nodes) (range_with_len (i + 1) (length rest))) in
      omega (arith, one, others, both)
    where
      behind : (before : List (Placed CondNodeRec)) → slice_get (before ++ node ∷ rest) (length before) ≡ Some node
      behind [] = refl
      behind (b ∷ bs) = behind bs

  pub rules_under_nodes : 3 * length (rules_of_nodes nodes) ≡ total (λ node. node_room node.value) nodes
  rules_under_nodes = from_node [] nodes refl

-- ---- transitions

room-role_trans : HasRoom role_trans_at 0 (λ trans. 3)
unfolding role_trans_at
room-role_trans =
    room-then (room-number _ 4 3 (omega arith)) λ role.
    room-then (room-number _ 4 0 (omega arith)) λ type_value.
    room-then (room-number _ 4 0 (omega arith)) λ newrole.
    room-then (room-number _ 4 0 (omega arith)) λ class.
    room-done _ _ _ (omega arith)

room-role_allow : HasRoom role_allow_at 0 (λ allow. 3)
unfolding role_allow_at
room-role_allow =
    room-then (room-number _ 4 3 (omega arith)) λ role.
    room-then (room-number _ 4 0 (omega arith)) λ newrole.
    room-done _ _ _ (omega arith)

room-name_trans : HasRoom name_trans_at 0 (λ trans. 3)
unfolding name_trans_at
room-name_trans =
    room-then (room-name NAMETRANS_LEN NAMETRANS_NAME) λ name.
    room-then (room-number _ 4 3 (omega arith)) λ source.
    room-then (room-number _ 4 0 (omega arith)) λ target.
    room-then (room-number _ 4 0 (omega arith)) λ class.
    room-then (room-number _ 4 0 (omega arith)) λ default.
    room-done _ _ _ (omega arith)

-- three a source
abbrev datum_room : NameDatumRec → ℕ
datum_room datum = 3 * length (bits_of datum.sources)

abbrev group_room : NameGroupRec → ℕ
group_room group = total datum_room group.datums

room-datum : HasRoom name_datum_at 0 datum_room
unfolding name_datum_at
room-datum =
    room-then (room-bitmap None) λ sources.
    room-then (room-number _ 4 0 (omega arith)) λ default.
    room-done _ datum_room _ (omega arith)

room-group : HasRoom name_group_at 0 group_room
unfolding name_group_at
room-group =
    room-then (room-name NAMEGROUP_LEN NAMEGROUP_NAME) λ name.
    room-then (room-number _ 4 0 (omega arith)) λ target.
    room-then (room-number _ 4 0 (omega arith)) λ class.
    room-then (room-counted _ datum_room room-datum) λ datums.
    room-done _ group_room _ (omega arith)

mapped : {A B : Type 0} (f : A → B) (xs : List A) → length (map f xs) ≡ length xs
mapped f xs = simp length-map

module _ (symbols : Symbols) where
  few_sources : (datum : NameDatumRec) → length (declared_sources symbols datum) ≤ length (bits_of datum.sources)
  few_sources datum =
      let values = map (λ (bit : ℕ). bit + 1) (bits_of datum.sources) in
      let kept = length-filter (is_declared_type symbols) values in
      let below = count_by-le-length (is_declared_type symbols) values in
      omega (arith, kept, below, mapped (λ (bit : ℕ). bit + 1) (bits_of datum.sources))

  few_in_datum : (group : NameGroupRec) (datum : NameDatumRec) → 3 * length (rules_of_datum symbols group datum) ≤ datum_room datum
  few_in_datum group datum = omega (arith, few_sources datum, mapped (λ (source : ℕ). name_rule group.name source group.target group.class datum.default) (declared_sources symbols datum))

  few_in_group : (group : Placed NameGroupRec) → 3 * length (rules_of_group symbols group) ≤ group_room group.value
  few_in_group group = rw (total_items (rules_of_datum symbols group.value) group.value.datums) (total_less _ datum_room group.value.datums (few_in_datum group.value))

  room-entries : HasRoom entries_at 0 (λ trans. 3 * length (name_rules symbols trans))
  room-entries =
      room-then (room-counted _ (λ trans. 3) (room-placed room-name_trans)) λ entries.
      room-done _ (λ trans. 3 * length (name_rules symbols trans)) (Entries entries) (omega (arith, total_same 3 entries, mapped name_trans_rule entries))

  room-groups : HasRoom groups_at 0 (λ trans. 3 * length (name_rules symbols trans))
  room-groups =
      room-then (room-counted _ (λ group. group_room group.value) (room-placed room-group)) λ groups.
      room-done _ (λ trans. 3 * length (name_rules symbols trans)) (Groups groups)
      (omega (arith, total_items (rules_of_group symbols) groups, total_less (λ group. 3 * length (rules_of_group symbols group)) (λ group. group_room group.value) groups few_in_group))

  room-name_transitions : (version : ℕ) → HasRoom (name_transitions_at version) 0 (λ trans. 3 * length (name_rules symbols trans))
  room-name_transitions version = either (has_groups version)
    where
      either : (b : Bool) → HasRoom (if b then groups_at else entries_at) 0 (λ trans. 3 * length (name_rules symbols trans))
      either true = room-groups
      either false = room-entries

  -- ---- all of them but the range transitions

  abbrev lists_room : RuleLists → ℕ
  lists_room rules =
      3 * length rules.table + (3 * length (rules_of_nodes rules.conditionals) + (3 * length rules.role_trans + (3 * length rules.role_allows + 3 * length (name_rules symbols rules.name_trans))))

  room-rule_lists : (version : ℕ) → HasRoom (rule_lists_at version) 0 lists_room
  unfolding rule_lists_at
  room-rule_lists version =
      room-then (room-table version) λ table.
      room-then (room-conditionals version) λ conditionals.
      room-then (room-counted _ (λ trans. 3) (room-placed room-role_trans)) λ role_trans.
      room-then (room-counted _ (λ allow. 3) (room-placed room-role_allow)) λ role_allows.
      room-then (room-name_transitions version) λ name_trans.
      room-done _ lists_room _ (omega (arith, rules_under_nodes conditionals, total_same 3 role_trans, total_same 3 role_allows))

-- ---- range transitions

room-range : HasRoom range_at 0 (λ range. 0)
unfolding range_at
room-range =
    room-then (room-number_if _ 4 0 _ (omega arith)) λ n.
    room-then (room-number _ 4 0 (omega arith)) λ low.
    room-then (room-optional _ (room-number _ 4 0 (omega arith))) λ high.
    room-then (room-bits None) λ low_categories.
    room-then (room-optional _ (room-bits None)) λ high_categories.
    room-done _ _ _ (omega arith)

-- a range transition takes 12 bytes before its range
room-range_trans : HasRoom range_trans_at 0 (λ trans. 192)
unfolding range_trans_at
room-range_trans =
    room-then (room-number _ 4 64 (omega arith)) λ source.
    room-then (room-number _ 4 64 (omega arith)) λ target.
    room-then (room-number _ 4 64 (omega arith)) λ class.
    room-then room-range λ range.
    room-done _ _ _ (omega arith)

-- ---- the whole file

-- what is true of each value that is read of so many bytes
record Keeps {A : Type 0} (size : ℕ) (r : Reader A) (P : A → Type 0) : Type 0 where
  each : (bytes : List ℕ) (place : ℕ) (x : A) (next : ℕ) → length bytes ≡ size → r bytes place ≡ Got x next → P x

keeps-then : {A B : Type 0} {size : ℕ} {r : Reader A} {f : A → Reader B} {P : A → Type 0} {Q : B → Type 0} → Keeps size r P → ((x : A) → P x → Keeps size (f x) Q) → Keeps size (r >>= f) Q
keeps-then {A} {B} {size} {r} {f} h k = record {
  each = λ bytes place y next long e.
      let g = and_then_got (r bytes place) (λ x next. f x bytes next) y next e in
      (k g.0 (h.each bytes place g.0 g.1 long g.2)).each bytes g.1 y next long g.3;
}

keeps-any : {A : Type 0} {size : ℕ} (r : Reader A) → Keeps size r (λ x. Unit {0})
keeps-any r = record { each = λ bytes place x next long e. tt }

keeps-done : {A : Type 0} {size : ℕ} (P : A → Type 0) (x : A) → P x → Keeps size (done x) P
keeps-done P x h = record { each = λ bytes place y next long e. subst P (got_value x y place next e) h }
  where
    got_value : {A : Type 0} (x y : A) (n m : ℕ) → Got x n ≡ Got y m → x ≡ y
    got_value x y n m e = cc

-- what bytes have room for is no more than that of all bytes
keeps-room : {A : Type 0} {size : ℕ} {r : Reader A} {takes : A → ℕ} → HasRoom r 0 takes → Keeps size r (λ x. takes x ≤ 16 * size)
keeps-room h = record {
  each = λ bytes place x next long e.
      let room = h.each bytes place x next e in
      omega (arith, long, room.0, room.1, room.2);
}

-- so many rules at most
record AreFew (size : ℕ) (policy : Parts) : Type 0 where
  lists : lists_room policy.symbols policy.rules ≤ 16 * size
  ranges : 192 * length policy.labels.range_trans ≤ 16 * size

labels-keep : (size version types : ℕ) → Keeps size (label_lists_at version types) (λ labels. 192 * length labels.range_trans ≤ 16 * size)
unfolding label_lists_at
labels-keep size version types =
    keeps-then (keeps-any (contexts_at version)) λ contexts known.
    keeps-then (keeps-any (counted GENFS_COUNT (records_at (placed genfs_at)))) λ genfs known.
    keeps-then (keeps-room (room-counted RANGETRANS_COUNT (λ trans. 192) (room-placed room-range_trans))) λ range_trans few.
    keeps-then (keeps-any (type_rows_at types)) λ type_map known.
    keeps-done _ _ (rw (← total_same 192 range_trans) few)

policy-keeps : (size : ℕ) → Keeps size policy_at (AreFew size)
unfolding policy_at
policy-keeps size =
    keeps-then (keeps-any front_at) λ front known.
    keeps-then (keeps-any (symbols_at front.header.version)) λ symbols known.
    keeps-then (keeps-room (room-rule_lists symbols front.header.version)) λ rules few.
    keeps-then (labels-keep size front.header.version symbols.types.nprim) λ labels few_ranges.
    keeps-then (keeps-any (end_at END_END)) λ ended known.
    keeps-done (AreFew size) _ (record { lists = few; ranges = few_ranges })

pub accepted_has_few_rules : (bytes : List ℕ) (policy : Parts) → length bytes ≤ MAX_POLICY_BYTES → accept bytes ≡ Ok policy → length (stored_rules policy) ≤ 400000000
accepted_has_few_rules bytes policy long e =
    let was = accepted_was_read bytes policy e in
    let few = (policy-keeps (length bytes)).each bytes 0 policy was.next refl was.read in
    omega (arith, long, few.lists, few.ranges, section_sizes policy)
