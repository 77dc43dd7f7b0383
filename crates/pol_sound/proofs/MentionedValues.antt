-- What records refer to does not depend on where they stand.
use Rattle.std.proofs.Common.{◌≡◌, ℕ, ◌+◌, Bool, true, false, Option, Some, None, List, [], ◌∷◌, ◌++◌, refl, sym, ap, subst, ◌∙◌, if◌then◌else◌}
use Rattle.std.specs.Prelude.{◌==◌, is_some, map, nat_le}
use Rattle.std.specs.List.{flat_map, AllByRecursion}
use Rattle.pol_fields.specs.declared.TableKind.{TableKind}
use Rattle.pol_cursor.specs.References.{Placed, values_of, Reference, Named, references_in}
use Rattle.pol_cursor.specs.NestedRecords.{placed_from}
use Rattle.pol_cursor.proofs.PlacedNested.{values_placed}
use Rattle.pol_mls.specs.declared.LevelRec.{LevelRec}
use Rattle.pol_mls.specs.RangeRecord.{high_references, range_references}
use Rattle.pol_mls.specs.ContextRecord.{context_references}
use Rattle.pol_datums.specs.RoleRecord.{role_references}
use Rattle.pol_datums.specs.TypeRecord.{is_primary_type, type_references}
use Rattle.pol_datums.specs.SensitivityRecord.{sensitivity_references}
use Rattle.pol_datums.specs.CategoryRecord.{category_references}
use Rattle.pol_datums.specs.Flags.{is_primary_flag}
use Rattle.pol_symbols.specs.UserRecord.{range_place, user_references}
use Rattle.pol_expr.specs.declared.ConditionItem.{ConditionItem}
use Rattle.pol_expr.specs.declared.codes.TheConstants.{COND_BOOL}
use Rattle.pol_expr.specs.ConditionRecord.{item_reference, item_references}
use Rattle.pol_avtab.specs.declared.AvPart.{AvPart}
use Rattle.pol_avtab.specs.declared.AvPart.TheVariants.{Data, Extended}
use Rattle.pol_avtab.specs.AvRecord.{is_default, part_references, av_references}
use Rattle.pol_conditionals.specs.CondNodeRecord.{rule_length, true_place, false_place, condnode_references}
use Rattle.pol_trans.specs.RoleTransRecord.{role_trans_references}
use Rattle.pol_trans.specs.RoleAllowRecord.{role_allow_references}
use Rattle.pol_trans.specs.RangeTransRecord.{range_trans_references}
use Rattle.pol_contexts.specs.SidRecord.{sid_references}
use Rattle.pol_contexts.specs.NamedRecord.{named_references}
use Rattle.pol_contexts.specs.PortRecord.{port_references}
use Rattle.pol_contexts.specs.AddressRecord.{address_references}
use Rattle.pol_contexts.specs.FsUseRecord.{fsuse_references}
use Rattle.pol_contexts.specs.IbPkeyRecord.{ibpkey_references}
use Rattle.pol_contexts.specs.IbEndPortRecord.{ibendport_references}
use Rattle.pol_genfs.specs.GenfsRecord.{path_length, path_references, genfs_references, class_place}
use Rattle.pol_moved.proofs.NamedValues.{AreNamed}
use Rattle.pol_moved.proofs.ListFacts.{all-so}

-- ---- the values that references mention

-- a table and a value of it
pub record Mentioned : Type 0 where
  pub table : TableKind
  pub value : ℕ

abbrev pub mention : Reference → Mentioned
mention r = record { table = r.table; value = r.value }

abbrev pub mentions : List Reference → List Mentioned
mentions references = map mention references

-- references mention equal tables and values, wherever they stand
pub record SameMentions (a b : List Reference) : Type 0 where
  pub same : mentions a ≡ mentions b

-- so it is with what a record refers to wherever it stands
abbrev pub IsPlaceless : {A : Type 0} → (Placed A → List Reference) → Type 0
IsPlaceless {A} references = (p q : ℕ) (x : A) → SameMentions (references (record { place = p; value = x })) (references (record { place = q; value = x }))

mentions-append : (a b : List Reference) → mentions (a ++ b) ≡ mentions a ++ mentions b
mentions-append [] b = refl
mentions-append (r ∷ rs) b = ap (λ (ms : List Mentioned). mention r ∷ ms) (mentions-append rs b)

alike : {a : List Reference} → SameMentions a a
alike = record { same = refl }

both : {a b c d : List Reference} → SameMentions a c → SameMentions b d → SameMentions (a ++ b) (c ++ d)
both {a} {b} {c} {d} e f = record { same = rw (mentions-append a b, mentions-append c d, e.same, f.same) refl }

first : {r s : Reference} {rs ss : List Reference} → mention r ≡ mention s → SameMentions rs ss → SameMentions (r ∷ rs) (s ∷ ss)
first e f = record { same = rw (e, f.same) refl }

one-if : (b : Bool) (r s : Reference) → mention r ≡ mention s → SameMentions (if b then r ∷ [] else []) (if b then s ∷ [] else [])
one-if true r s e = first e alike
one-if false r s e = alike

one-unless : (b : Bool) (r s : Reference) → mention r ≡ mention s → SameMentions (if b then [] else r ∷ []) (if b then [] else s ∷ [])
one-unless true r s e = alike
one-unless false r s e = first e alike

-- the records of a list
pub mentions-in : {A : Type 0} (references : Placed A → List Reference) → IsPlaceless references → (rs ss : List (Placed A)) → values_of rs ≡ values_of ss → SameMentions (references_in references rs) (references_in references ss)
mentions-in references placeless [] [] e = alike
mentions-in references placeless [] (s ∷ ss) e = absurd cc
mentions-in references placeless (r ∷ rs) [] e = absurd cc
mentions-in {A} references placeless (r ∷ rs) (s ∷ ss) e =
    let same = heads r.value s.value (values_of rs) (values_of ss) e in
    let moved : SameMentions (references r) (references s) = subst (λ (x : A). SameMentions (references r) (references (record { place = s.place; value = x }))) same (placeless r.place s.place r.value) in
    both moved (mentions-in references placeless rs ss (tails r.value s.value (values_of rs) (values_of ss) e))
  where
    heads : {A : Type 0} (x y : A) (xs ys : List A) → x ∷ xs ≡ y ∷ ys → x ≡ y
    heads x y xs ys e = cc

    tails : {A : Type 0} (x y : A) (xs ys : List A) → x ∷ xs ≡ y ∷ ys → xs ≡ ys
    tails x y xs ys e = cc

-- records one behind the other, from any place on
mentions-from : {A : Type 0} (length_of : A → ℕ) (references : Placed A → List Reference) → IsPlaceless references → (p q : ℕ) (xs : List A)
    → SameMentions (flat_map references (placed_from length_of p xs)) (flat_map references (placed_from length_of q xs))
mentions-from length_of references placeless p q xs = mentions-in references placeless (placed_from length_of p xs) (placed_from length_of q xs) (values_placed length_of p xs ∙ sym (values_placed length_of q xs))

-- ---- symbols

pub role-placeless : IsPlaceless role_references
role-placeless p q role = one-if (nat_le 1 role.bounds) _ _ refl

pub type-placeless : IsPlaceless type_references
type-placeless p q t = both (one-unless (is_primary_type t.properties) _ _ refl) (one-if (nat_le 1 t.bounds) _ _ refl)

pub sensitivity-placeless : IsPlaceless sensitivity_references
sensitivity-placeless p q level = one-unless (is_primary_flag level.isalias) _ _ refl

pub category-placeless : IsPlaceless category_references
category-placeless p q category = one-unless (is_primary_flag category.isalias) _ _ refl

high-placeless : (p q : ℕ) (high : Option LevelRec) → SameMentions (high_references p high) (high_references q high)
high-placeless p q None = alike
high-placeless p q (Some level) = first refl alike

range-placeless : IsPlaceless range_references
range-placeless p q range = first refl (high-placeless (p + 8) (q + 8) range.high)

pub user-placeless : IsPlaceless user_references
user-placeless p q user =
    let u : Placed _ = record { place = p; value = user } in
    let v : Placed _ = record { place = q; value = user } in
    both (one-if (nat_le 1 user.bounds) _ _ refl) (both (range-placeless (range_place u) (range_place v) user.range) (first refl alike))

context-placeless : IsPlaceless context_references
context-placeless p q context = first refl (first refl (first refl (range-placeless (p + 12) (q + 12) context.range)))

-- ---- rules

part-placeless : (p q : ℕ) (default : Bool) (part : AvPart) → SameMentions (part_references p default part) (part_references q default part)
part-placeless p q default (Data mask) = one-if default _ _ refl
part-placeless p q default (Extended xkind driver bits) = alike

pub av-placeless : IsPlaceless av_references
av-placeless p q av = first refl (first refl (first refl (part-placeless (p + 8) (q + 8) (is_default av.specified) av.part)))

items-placeless : (p q : ℕ) (items : List ConditionItem) → SameMentions (item_references p items) (item_references q items)
unfolding item_references item_reference
items-placeless p q [] = alike
items-placeless p q (item ∷ items) = both (one-if (item.kind == COND_BOOL) _ _ refl) (items-placeless (p + 8) (q + 8) items)

pub condnode-placeless : IsPlaceless condnode_references
condnode-placeless p q node =
    let u : Placed _ = record { place = p; value = node } in
    let v : Placed _ = record { place = q; value = node } in
    both (both (items-placeless (p + 8) (q + 8) node.condition.items) (mentions-from rule_length av_references av-placeless (true_place u) (true_place v) node.true_rules))
    (mentions-from rule_length av_references av-placeless (false_place u) (false_place v) node.false_rules)

pub role_trans-placeless : IsPlaceless role_trans_references
role_trans-placeless p q trans = first refl (first refl (first refl (first refl alike)))

pub role_allow-placeless : IsPlaceless role_allow_references
role_allow-placeless p q allow = first refl (first refl alike)

pub range_trans-placeless : IsPlaceless range_trans_references
range_trans-placeless p q trans = first refl (first refl (first refl (range-placeless (p + 12) (q + 12) trans.range)))

-- ---- contexts

pub sid-placeless : IsPlaceless sid_references
sid-placeless p q entry = context-placeless _ _ entry.context

pub named-placeless : IsPlaceless named_references
named-placeless p q entry = both (context-placeless _ _ entry.context) (context-placeless _ _ entry.second_context)

pub port-placeless : IsPlaceless port_references
port-placeless p q entry = context-placeless _ _ entry.context

pub address-placeless : (width : ℕ) → IsPlaceless (address_references width)
address-placeless width p q entry = context-placeless _ _ entry.context

pub fsuse-placeless : IsPlaceless fsuse_references
fsuse-placeless p q entry = context-placeless _ _ entry.context

pub ibpkey-placeless : IsPlaceless ibpkey_references
ibpkey-placeless p q entry = context-placeless _ _ entry.context

pub ibendport-placeless : IsPlaceless ibendport_references
ibendport-placeless p q entry = context-placeless _ _ entry.context

path-placeless : IsPlaceless path_references
path-placeless p q entry =
    let u : Placed _ = record { place = p; value = entry } in
    let v : Placed _ = record { place = q; value = entry } in
    both (one-unless (entry.class == 0) _ _ refl) (context-placeless (class_place u + 4) (class_place v + 4) entry.context)

pub genfs-placeless : IsPlaceless genfs_references
genfs-placeless p q entry = mentions-from path_length path_references path-placeless _ _ entry.paths

-- ---- values that have names

abbrev IsNamedIn : Named → Mentioned → Type 0
IsNamedIn named m = is_some (named m.table m.value) ≡ true

mentions-named : (named : Named) (rs : List Reference) → AllByRecursion (λ r. is_some (named r.table r.value) ≡ true) rs → AllByRecursion (IsNamedIn named) (mentions rs)
mentions-named named [] h = tt
mentions-named named (r ∷ rs) h = (h.0, mentions-named named rs h.1)

named-mentions : (named : Named) (rs : List Reference) → AllByRecursion (IsNamedIn named) (mentions rs) → AllByRecursion (λ r. is_some (named r.table r.value) ≡ true) rs
named-mentions named [] h = tt
named-mentions named (r ∷ rs) h = (h.0, named-mentions named rs h.1)

-- Where the same values have names, the same records refer to such ones.
pub named-kept : {A : Type 0} (a b : Named) → ((table : TableKind) (value : ℕ) → is_some (a table value) ≡ is_some (b table value)) → (references : Placed A → List Reference) → IsPlaceless references → (rs ss : List (Placed A)) → values_of rs ≡ values_of ss
    → AreNamed a (references_in references rs) → AreNamed b (references_in references ss)
named-kept a b same references placeless rs ss e h =
    let by_mentions = subst (λ (ms : List Mentioned). AllByRecursion (IsNamedIn a) ms) (mentions-in references placeless rs ss e).same (mentions-named a (references_in references rs) h.each) in
    record { each = named-mentions b (references_in references ss) (all-so (mentions (references_in references ss)) (λ m h. sym (same m.table m.value) ∙ h) by_mentions) }
