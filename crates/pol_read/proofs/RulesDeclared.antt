-- In a policy whose references are declared, what each stored rule names is declared.
use Rattle.std.proofs.Common.{◌≡◌, ℕ, zero, suc, ◌+◌, ◌<◌, ◌^◌, Bool, true, false, Option, Some, None, List, [], ◌∷◌, ◌++◌, length, map, get_or, slice_get, Ok, All, refl, ap, subst, arith}
use Rattle.std.specs.Prelude.{◌==◌, ◌&&◌, is_some, option_map, nat_lt, if◌then◌else◌}
use Rattle.std.specs.List.{flat_map, filter, range_with_len}
use Rattle.std.proofs.lemmas.List.Elements.{All-nil, All-cons, All-same, All-append, All-map}
use Rattle.std.proofs.lemmas.List.Concat.{flat_map-cons}
use Rattle.std.proofs.lemmas.List.FromFn.{length-range_with_len, get_or-range_with_len}
use Rattle.std.proofs.lemmas.Option.{none-some, same_Some, slice_get_within, get_or_from_slice_get}
use Rattle.pol_fields.specs.declared.Fault.{Fault}
use Rattle.pol_fields.specs.declared.TableKind.TheVariants.{Types, Classes}
use Rattle.pol_fields.specs.declared.fields.TheConstants.{AV_SOURCE, AV_TARGET, AV_CLASS, AV_DATA, NAMEGROUP_TARGET, NAMEGROUP_CLASS}
use Rattle.pol_cursor.specs.References.{Placed, Reference, Named, dangling_of}
use Rattle.pol_bitmap.specs.Nodes.{bits_of}
use Rattle.pol_symbols.specs.PolicySymbols.{name_in}
use Rattle.pol_expr.specs.ConditionRecord.{condition_references}
use Rattle.pol_avtab.specs.declared.AvRec.{AvRec}
use Rattle.pol_avtab.specs.declared.AvPart.{AvPart}
use Rattle.pol_avtab.specs.declared.AvPart.TheVariants.{Data, Extended}
use Rattle.pol_conditionals.specs.declared.CondNodeRec.{CondNodeRec}
use Rattle.pol_avtab.specs.AvKeys.{kind_of}
use Rattle.pol_avtab.specs.XPerms.{shown_mask}
use Rattle.pol_avtab.specs.AvRecord.{is_default, part_references, av_references}
use Rattle.pol_conditionals.specs.CondNodeRecord.{rule_length, node_condition, true_place, false_place, branch_rules, condnode_references, rules_of_branch as access_vectors_of}
use Rattle.pol_cursor.specs.NestedRecords.{placed_from}
use Rattle.pol_trans.specs.declared.RoleTransRec.{RoleTransRec}
use Rattle.pol_trans.specs.declared.RoleAllowRec.{RoleAllowRec}
use Rattle.pol_trans.specs.declared.NameTransRec.{NameTransRec}
use Rattle.pol_trans.specs.declared.NameDatumRec.{NameDatumRec}
use Rattle.pol_trans.specs.declared.NameGroupRec.{NameGroupRec}
use Rattle.pol_trans.specs.declared.RangeTransRec.{RangeTransRec}
use Rattle.pol_trans.specs.declared.NameTrans.{NameTrans}
use Rattle.pol_trans.specs.declared.NameTrans.TheVariants.{Entries, Groups}
use Rattle.pol_trans.specs.RoleTransRecord.{role_trans_references}
use Rattle.pol_trans.specs.RoleAllowRecord.{role_allow_references}
use Rattle.pol_trans.specs.NameTransRecord.{name_trans_references}
use Rattle.pol_trans.specs.NameGroupRecord.{name_datum_length, name_datum_reference, name_data_of, name_group_references}
use Rattle.pol_trans.specs.RangeTransRecord.{range_trans_references}
use Rattle.pol_genfs.specs.GenfsRecord.{genfs_references}
use Rattle.pol_file.specs.declared.Parts.{Parts}
use Rattle.pol_cursor.specs.References.{references_in}
use Rattle.pol_file.specs.PolicyReferences.{symbol_references, name_transition_references, rule_references, context_references, label_references}
use Rattle.pol_file.specs.Acceptance.{undeclared, accept}
use Rattle.pol_file.proofs.Acceptances.{accepted_was_read}
use Rattle.pol_read.specs.declared.rule.RuleKind.{RuleKind}
use Rattle.pol_read.specs.declared.rule.RuleKind.TheVariants.{Allow, Auditallow, Dontaudit, AllowXperm, AuditallowXperm, DontauditXperm, TypeTransition, TypeChange, TypeMember}
use Rattle.pol_read.specs.declared.rule.RulePart.TheVariants as parts
use Rattle.pol_read.specs.declared.rule.Condition.{Condition}
use Rattle.pol_read.specs.declared.rule.RuleEnds.{RuleEnds}
use Rattle.pol_read.specs.StoredRules.{StoredRule, ends_of, rule_kind, rule_part, av_rule, rules_of_branch, rules_of_node, rules_of_nodes, role_trans_rule, role_allow_rule, range_trans_rule, name_rule, name_trans_rule, is_declared_type, declared_sources, rules_of_datum, rules_of_group, name_rules, stored_rules}
use Rattle.pol_read.specs.RuleKinds.{source_table, target_table, default_table}
use Rattle.pol_read.specs.DeclaredRules.{IsDeclaredIn, ClassIsDeclared, DefaultIsDeclared, StandsUnder, IsDeclaredRule, AreDeclaredEnds}
use Rattle.pol_read.proofs.RuleParts.{HasRightPart, HaveRightParts, HaveParts, parts_read}

-- ---- what is true of all items

All-flat_map : {A B : Type 0} (P : B → Type 0) (f : A → List B) (xs : List A) → All (λ x. All P (f x)) xs → All P (flat_map f xs)
All-flat_map P f [] h = All-nil P
All-flat_map P f (x ∷ xs) h = All-same P _ _ (flat_map-cons f x xs) (All-append P (f x) (flat_map f xs) (h 0 x (omega arith)) (All-flat_map P f xs (λ k d lt. h (suc k) d (omega (arith, lt)))))

All-at : {A : Type 0} (P : A → Type 0) (xs : List A) (i : ℕ) (x : A) → All P xs → slice_get xs i ≡ Some x → P x
All-at P xs i x all e = subst P (get_or_from_slice_get xs i x x e) (all i x (slice_get_within xs i x e))

there_is : {A : Type 0} (xs : List A) (i : ℕ) → i < length xs → (x : A) × (slice_get xs i ≡ Some x)
there_is [] i lt = absurd (omega (arith, lt))
there_is (x ∷ xs) zero lt = (x, refl)
there_is (x ∷ xs) (suc i) lt = there_is xs i (omega (arith, lt))

-- ---- references that are all declared

module _ (named : Named) where
  head : (b : Bool) (x : Option Fault) (f : Fault) → (if b then x else Some f) ≡ None → (b ≡ true) × (x ≡ None)
  head true x f e = (refl, e)
  head false x f e = absurd cc

  -- the first one and the others
  first : (r : Reference) (rs : List Reference) → dangling_of named (r ∷ rs) ≡ None → (is_some (named r.table r.value) ≡ true) × (dangling_of named rs ≡ None)
  first r rs e = head (is_some (named r.table r.value)) (dangling_of named rs) _ e

  apart : (rs others : List Reference) → dangling_of named (rs ++ others) ≡ None → (dangling_of named rs ≡ None) × (dangling_of named others ≡ None)
  apart [] others e = (refl, e)
  apart (r ∷ rs) others e =
      let h = first r (rs ++ others) e in
      let t = apart rs others h.1 in
      (rw h.0 t.0, t.1)

  of_records : {A : Type 0} (references : A → List Reference) (xs : List A) → dangling_of named (flat_map references xs) ≡ None → All (λ x. dangling_of named (references x) ≡ None) xs
  of_records {A} references [] e = All-nil (λ (x : A). dangling_of named (references x) ≡ None)
  of_records {A} references (x ∷ xs) e =
      let both = apart (references x) (flat_map references xs) (rw (flat_map-cons references x xs) at e) in
      All-cons (λ (x : A). dangling_of named (references x) ≡ None) x xs both.0 (of_records references xs both.1)

  -- each of them, one by one
  abbrev AreNamed : List Reference → Type 0
  AreNamed [] = Unit {0}
  AreNamed (r ∷ rs) = (is_some (named r.table r.value) ≡ true) × AreNamed rs

  each_named : (rs : List Reference) → dangling_of named rs ≡ None → AreNamed rs
  each_named [] e = tt
  each_named (r ∷ rs) e = let h = first r rs e in (h.0, each_named rs h.1)

-- ---- the kinds of access vectors

choose : (P : RuleKind → Type 0) (b : Bool) (x y : RuleKind) → P x → P y → P (if b then x else y)
choose P true x y p q = p
choose P false x y p q = q

of_kinds : (P : RuleKind → Type 0) → P Allow → P Auditallow → P Dontaudit → P TypeTransition → P TypeMember → P TypeChange → P AllowXperm → P AuditallowXperm → P DontauditXperm → (k : ℕ) → P (rule_kind k)
of_kinds P a b c d e f g h i k =
    choose P (k == 0x1) _ _ a
    (choose P (k == 0x2) _ _ b
    (choose P (k == 0x4) _ _ c
    (choose P (k == 0x10) _ _ d
    (choose P (k == 0x20) _ _ e
    (choose P (k == 0x40) _ _ f
    (choose P (k == 0x100) _ _ g
    (choose P (k == 0x200) _ _ h i)))))))

-- their ends are types
pub source_of : (k : ℕ) → source_table (rule_kind k) ≡ Types
source_of k = of_kinds (λ kind. source_table kind ≡ Types) refl refl refl refl refl refl refl refl refl k

pub target_of : (k : ℕ) → target_table (rule_kind k) ≡ Types
target_of k = of_kinds (λ kind. target_table kind ≡ Types) refl refl refl refl refl refl refl refl refl k

default_of : (k : ℕ) → default_table (rule_kind k) ≡ Types
default_of k = of_kinds (λ kind. default_table kind ≡ Types) refl refl refl refl refl refl refl refl refl k

module _ (policy : Parts) where
  abbrev named : Named
  named = name_in policy.symbols

  abbrev Declared : StoredRule → Type 0
  Declared = IsDeclaredRule policy

  class_of : (k class : ℕ) → IsDeclaredIn policy.symbols Classes class → ClassIsDeclared policy.symbols (rule_kind k) class
  class_of k class h = of_kinds (λ kind. ClassIsDeclared policy.symbols kind class) h h h h h h h h h k

  -- ---- access vectors

  plain_default : (k place mask shown : ℕ) (b : Bool) → dangling_of named (if b then record { place = place; field = AV_DATA; table = Types; value = mask } ∷ [] else []) ≡ None
      → DefaultIsDeclared policy.symbols (rule_kind k) (if b then parts.Default mask else parts.Perms shown)
  plain_default k place mask shown true e = rw (default_of k) (first named (record { place = place; field = AV_DATA; table = Types; value = mask }) [] e).0
  plain_default k place mask shown false e = tt

  default_is : (k place specified : ℕ) (part : AvPart) → dangling_of named (part_references place (is_default specified) part) ≡ None → DefaultIsDeclared policy.symbols (rule_kind k) (rule_part specified part)
  default_is k place specified (Data mask) e = plain_default k place mask (shown_mask specified mask) (is_default specified) e
  default_is k place specified (Extended xkind driver bits) e = tt

  av_declared : (condition : Option Condition) (av : Placed AvRec) → StandsUnder policy.rules.conditionals condition → dangling_of named (av_references av) ≡ None → HasRightPart av.value → Declared (av_rule condition av)
  av_declared condition av under e right =
      let source : Reference = record { place = av.place; field = AV_SOURCE; table = Types; value = av.value.source } in
      let target : Reference = record { place = av.place + 2; field = AV_TARGET; table = Types; value = av.value.target } in
      let class : Reference = record { place = av.place + 4; field = AV_CLASS; table = Classes; value = av.value.class } in
      let default = part_references (av.place + 8) (is_default av.value.specified) av.value.part in
      let one = first named source (target ∷ class ∷ default) e in
      let two = first named target (class ∷ default) one.1 in
      let three = first named class default two.1 in
      let k = kind_of av.value.specified in
      record {
        source = rw (source_of k) one.0;
        target = rw (target_of k) two.0;
        class = class_of k av.value.class three.0;
        part = right;
        default = default_is k (av.place + 8) av.value.specified av.value.part three.1;
        condition = under;
      }

  avs_declared : (condition : Option Condition) (avs : List (Placed AvRec)) → StandsUnder policy.rules.conditionals condition → dangling_of named (flat_map av_references avs) ≡ None → All (λ av. HasRightPart av.value) avs
      → All Declared (map (av_rule condition) avs)
  avs_declared condition avs under e right =
      let are = of_records named av_references avs e in
      All-map Declared (av_rule condition) avs (λ i d lt. av_declared condition (get_or avs i d) under (are i d lt) (right i d lt))

  -- ---- conditional nodes

  placed_right : (place : ℕ) (avs : List AvRec) → All HasRightPart avs → All (λ av. HasRightPart av.value) (placed_from rule_length place avs)
  unfolding placed_from
  placed_right place [] h = All-nil (λ (av : Placed AvRec). HasRightPart av.value)
  placed_right place (av ∷ avs) h = All-cons (λ (av : Placed AvRec). HasRightPart av.value) (record { place = place; value = av }) (placed_from rule_length (place + rule_length av) avs) (h 0 av (omega arith)) (placed_right (place + rule_length av) avs (λ k d lt. h (suc k) d (omega (arith, lt))))

  abbrev nodes : List (Placed CondNodeRec)
  nodes = policy.rules.conditionals

  branch_declared : (i : ℕ) (node : Placed CondNodeRec) (branch : Bool) → slice_get nodes i ≡ Some node → dangling_of named (flat_map av_references (branch_rules node branch)) ≡ None → All (λ av. HasRightPart av.value) (branch_rules node branch)
      → All Declared (rules_of_branch nodes i branch)
  branch_declared i node branch e declared right =
      let same : access_vectors_of nodes i branch ≡ branch_rules node branch = rw e refl in
      let condition : Option Condition = Some (record { node = i; branch = branch }) in
      All-same Declared _ _ (ap (λ (avs : List (Placed AvRec)). map (av_rule condition) avs) same) (avs_declared condition (branch_rules node branch) (slice_get_within nodes i node e) declared right)

  node_declared : (i : ℕ) (node : Placed CondNodeRec) → slice_get nodes i ≡ Some node → dangling_of named (condnode_references node) ≡ None → HaveRightParts node.value → All Declared (rules_of_node nodes i)
  node_declared i node e declared right =
      let when_true = flat_map av_references (branch_rules node true) in
      let when_false = flat_map av_references (branch_rules node false) in
      let own = apart named (condition_references (node_condition node) ++ when_true) when_false declared in
      let one = apart named (condition_references (node_condition node)) when_true own.0 in
      All-append Declared _ _ (branch_declared i node true e one.1 (placed_right (true_place node) node.value.true_rules right.0))
      (branch_declared i node false e own.1 (placed_right (false_place node) node.value.false_rules right.1))

  nodes_declared : dangling_of named (references_in condnode_references nodes) ≡ None → All (λ node. HaveRightParts node.value) nodes → All Declared (rules_of_nodes nodes)
  nodes_declared declared right =
      let are = of_records named condnode_references nodes declared in
      All-flat_map Declared (rules_of_node nodes) (range_with_len 0 (length nodes)) λ k d lt.
      let within : k < length nodes = omega (arith, lt, length-range_with_len 0 (length nodes)) in
      let is : get_or (range_with_len 0 (length nodes)) k d ≡ k = omega (arith, get_or-range_with_len 0 (length nodes) k d within) in
      let there = there_is nodes k within in
      rw is
      (node_declared k there.0 there.1 (All-at (λ (node : Placed CondNodeRec). dangling_of named (condnode_references node) ≡ None) nodes k there.0 are there.1) (All-at (λ (node : Placed CondNodeRec). HaveRightParts node.value) nodes k there.0 right there.1))

  -- ---- transitions and role allows

  role_trans_declared : (trans : Placed RoleTransRec) → dangling_of named (role_trans_references trans) ≡ None → Declared (role_trans_rule trans)
  role_trans_declared trans e =
      let are = each_named named (role_trans_references trans) e in
      record { source = are.0; target = are.1.0; class = are.1.1.1.0; part = refl; default = are.1.1.0; condition = tt }

  role_allow_declared : (allow : Placed RoleAllowRec) → dangling_of named (role_allow_references allow) ≡ None → Declared (role_allow_rule allow)
  role_allow_declared allow e =
      let are = each_named named (role_allow_references allow) e in
      record { source = are.0; target = are.1.0; class = refl; part = refl; default = tt; condition = tt }

  range_trans_declared : (trans : Placed RangeTransRec) → dangling_of named (range_trans_references trans) ≡ None → Declared (range_trans_rule trans)
  range_trans_declared trans e =
      let are = each_named named (range_trans_references trans) e in
      record { source = are.0; target = are.1.0; class = are.1.1.0; part = refl; default = tt; condition = tt }

  name_trans_declared : (trans : Placed NameTransRec) → dangling_of named (name_trans_references trans) ≡ None → Declared (name_trans_rule trans)
  name_trans_declared trans e =
      let are = each_named named (name_trans_references trans) e in
      record { source = are.0; target = are.1.0; class = are.1.1.0; part = refl; default = are.1.1.1.0; condition = tt }

  -- the defaults of the data of a group
  data_declared : (place : ℕ) (datums : List NameDatumRec) → dangling_of named (map name_datum_reference (placed_from name_datum_length place datums)) ≡ None → All (λ datum. IsDeclaredIn policy.symbols Types datum.default) datums
  unfolding placed_from
  data_declared place [] e = All-nil (λ (datum : NameDatumRec). IsDeclaredIn policy.symbols Types datum.default)
  data_declared place (datum ∷ datums) e =
      let after = place + name_datum_length datum in
      let default = first named (name_datum_reference (record { place = place; value = datum })) (map name_datum_reference (placed_from name_datum_length after datums)) e in
      All-cons (λ (datum : NameDatumRec). IsDeclaredIn policy.symbols Types datum.default) datum datums default.0 (data_declared after datums default.1)

  -- the sources that are rules
  sources_declared : (values : List ℕ) → All (λ value. IsDeclaredIn policy.symbols Types value) (filter (is_declared_type policy.symbols) values)
  sources_declared [] = All-nil (λ (value : ℕ). IsDeclaredIn policy.symbols Types value)
  sources_declared (value ∷ values) = keep (sources_declared values) (is_declared_type policy.symbols value) refl
    where
      right_of : (a b : Bool) → (a && b) ≡ true → b ≡ true
      right_of true b e = e
      right_of false b e = absurd cc

      keep : All (λ value. IsDeclaredIn policy.symbols Types value) (filter (is_declared_type policy.symbols) values) → (b : Bool) → is_declared_type policy.symbols value ≡ b
          → All (λ value. IsDeclaredIn policy.symbols Types value) (if b then value ∷ filter (is_declared_type policy.symbols) values else filter (is_declared_type policy.symbols) values)
      keep others true is = All-cons (λ (value : ℕ). IsDeclaredIn policy.symbols Types value) value (filter (is_declared_type policy.symbols) values) (right_of (nat_lt value (2 ^ 32)) (is_some (name_in policy.symbols Types value)) is) others
      keep others false is = others

  group_declared : (group : Placed NameGroupRec) → dangling_of named (name_group_references group) ≡ None → All Declared (rules_of_group policy.symbols group)
  group_declared group e =
      let target : Reference = record { place = group.place + 4 + length group.value.name; field = NAMEGROUP_TARGET; table = Types; value = group.value.target } in
      let class : Reference = record { place = group.place + 8 + length group.value.name; field = NAMEGROUP_CLASS; table = Classes; value = group.value.class } in
      let defaults_of = map name_datum_reference (name_data_of group) in
      let one = first named target (class ∷ defaults_of) e in
      let two = first named class defaults_of one.1 in
      let defaults = data_declared (group.place + 16 + length group.value.name) group.value.datums two.1 in
      All-flat_map Declared (rules_of_datum policy.symbols group.value) group.value.datums λ k d lt.
      let datum = get_or group.value.datums k d in
      All-map Declared (λ source. name_rule group.value.name source group.value.target group.value.class datum.default) (declared_sources policy.symbols datum) λ i s within.
      record { source = sources_declared (map (λ (bit : ℕ). bit + 1) (bits_of datum.sources)) i s within; target = one.0; class = two.0; part = refl; default = defaults k d lt; condition = tt }

  name_rules_declared : (trans : NameTrans) → dangling_of named (name_transition_references trans) ≡ None → All Declared (name_rules policy.symbols trans)
  name_rules_declared (Entries entries) e =
      let are = of_records named name_trans_references entries e in
      All-map Declared name_trans_rule entries (λ i d lt. name_trans_declared (get_or entries i d) (are i d lt))
  name_rules_declared (Groups groups) e =
      let are = of_records named name_group_references groups e in
      All-flat_map Declared (rules_of_group policy.symbols) groups (λ i d lt. group_declared (get_or groups i d) (are i d lt))

  -- ---- all rules

  rules_declared : undeclared policy ≡ None → HaveParts policy.rules → All Declared (stored_rules policy)
  rules_declared none right =
      let rules = policy.rules in
      let labels = policy.labels in
      let vectors = references_in av_references rules.table in
      let under_nodes = references_in condnode_references nodes in
      let of_role_trans = references_in role_trans_references rules.role_trans in
      let of_role_allows = references_in role_allow_references rules.role_allows in
      let of_names = name_transition_references rules.name_trans in
      let of_genfs = references_in genfs_references labels.genfs in
      let of_ranges = references_in range_trans_references labels.range_trans in
      let all = apart named (symbol_references policy.symbols ++ rule_references rules) (label_references labels) none in
      let both = apart named (symbol_references policy.symbols) (rule_references rules) all.0 in
      let names = apart named (vectors ++ under_nodes ++ of_role_trans ++ of_role_allows) of_names both.1 in
      let role_allows = apart named (vectors ++ under_nodes ++ of_role_trans) of_role_allows names.0 in
      let role_trans = apart named (vectors ++ under_nodes) of_role_trans role_allows.0 in
      let conditionals = apart named vectors under_nodes role_trans.0 in
      let ranges = apart named (context_references labels.contexts ++ of_genfs) of_ranges all.1 in
      let role_trans_are = of_records named role_trans_references rules.role_trans role_trans.1 in
      let role_allows_are = of_records named role_allow_references rules.role_allows role_allows.1 in
      let ranges_are = of_records named range_trans_references labels.range_trans ranges.1 in
      All-append Declared _ _ (avs_declared None rules.table tt conditionals.0 right.table)
      (All-append Declared _ _ (nodes_declared conditionals.1 right.conditionals)
      (All-append Declared _ _ (All-map Declared role_trans_rule rules.role_trans (λ i d lt. role_trans_declared (get_or rules.role_trans i d) (role_trans_are i d lt)))
      (All-append Declared _ _ (All-map Declared role_allow_rule rules.role_allows (λ i d lt. role_allow_declared (get_or rules.role_allows i d) (role_allows_are i d lt)))
      (All-append Declared _ _ (name_rules_declared rules.name_trans names.1)
      (All-append Declared _ _ (All-map Declared range_trans_rule labels.range_trans (λ i d lt. range_trans_declared (get_or labels.range_trans i d) (ranges_are i d lt)))
      (All-nil Declared))))))

-- the rule of a number
pub rule_is_declared : (bytes : List ℕ) (policy : Parts) (n : ℕ) (rule : StoredRule) → accept bytes ≡ Ok policy → slice_get (stored_rules policy) n ≡ Some rule → IsDeclaredRule policy rule
rule_is_declared bytes policy n rule accepted e =
    let was = accepted_was_read bytes policy accepted in
    All-at (IsDeclaredRule policy) (stored_rules policy) n rule (rules_declared policy was.declared (parts_read bytes policy was.next was.read)) e

-- the ends of the rule of a number
with_ends : (o : Option StoredRule) (ends : RuleEnds) → option_map ends_of o ≡ Some ends → (rule : StoredRule) × (o ≡ Some rule) × (ends_of rule ≡ ends)
with_ends None ends e = absurd (none-some ends e)
with_ends (Some rule) ends e = (rule, refl, same_Some (ends_of rule) ends e)

-- they are those of a rule that is there
pub rule_with_ends : (policy : Parts) (n : ℕ) (ends : RuleEnds) → option_map ends_of (slice_get (stored_rules policy) n) ≡ Some ends → (rule : StoredRule) × (slice_get (stored_rules policy) n ≡ Some rule) × (ends_of rule ≡ ends)
rule_with_ends policy n ends e = with_ends (slice_get (stored_rules policy) n) ends e

pub ends_are_declared : (bytes : List ℕ) (policy : Parts) (n : ℕ) (ends : RuleEnds) → accept bytes ≡ Ok policy → option_map ends_of (slice_get (stored_rules policy) n) ≡ Some ends → AreDeclaredEnds policy ends
ends_are_declared bytes policy n ends accepted e =
    let found = rule_with_ends policy n ends e in
    let declared = rule_is_declared bytes policy n found.0 accepted found.1 in
    subst (λ (these : RuleEnds). AreDeclaredEnds policy these) found.2 (record { source = declared.source; target = declared.target; class = declared.class })
