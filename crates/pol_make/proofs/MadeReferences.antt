-- Each reference of a policy that is made is declared.
use Rattle.std.proofs.Common.{inl, inr, ◌≡◌, ℕ, zero, suc, ◌+◌, ◌-◌, ◌≤◌, true, None, [], ◌∷◌, refl, sym, ap, subst, arith}
use Rattle.std.specs.Prelude.{codes, is_some, map}
use Rattle.std.specs.List.{range_with_len, AllByRecursion}
use Rattle.std.proofs.lemmas.Bool.{cases_lt, eq-eqb, or_left, or_right}
use Rattle.std.proofs.lemmas.List.Folds.{list_any-append}
use Rattle.pol_fields.specs.declared.TableKind.TheVariants.{Classes, Roles, Types, Users, Levels}
use Rattle.pol_cursor.specs.References.{values_of}
use Rattle.pol_datums.specs.declared.TypeRec.{TypeRec}
use Rattle.pol_datums.specs.declared.CategoryRec.{CategoryRec}
use Rattle.pol_datums.specs.RoleRecord.{role_references}
use Rattle.pol_datums.specs.TypeRecord.{is_primary_type, type_references}
use Rattle.pol_datums.specs.SensitivityRecord.{sensitivity_references}
use Rattle.pol_datums.specs.CategoryRecord.{category_references}
use Rattle.pol_datums.specs.Flags.{is_primary_flag}
use Rattle.pol_symbols.specs.declared.Symbols.{Symbols}
use Rattle.pol_symbols.specs.declared.UserRec.{UserRec}
use Rattle.pol_symbols.specs.UserRecord.{user_references}
use Rattle.pol_symbols.specs.PolicySymbols.{name_in}
use Rattle.pol_avtab.specs.declared.AvRec.{AvRec}
use Rattle.pol_avtab.specs.AvRecord.{av_references}
use Rattle.pol_contexts.specs.declared.SidRec.{SidRec}
use Rattle.pol_conditionals.specs.CondNodeRecord.{condnode_references}
use Rattle.pol_trans.specs.RoleTransRecord.{role_trans_references}
use Rattle.pol_trans.specs.RoleAllowRecord.{role_allow_references}
use Rattle.pol_trans.specs.NameTransRecord.{name_trans_references}
use Rattle.pol_trans.specs.NameGroupRecord.{name_group_references}
use Rattle.pol_trans.specs.RangeTransRecord.{range_trans_references}
use Rattle.pol_contexts.specs.declared.Contexts.{Contexts}
use Rattle.pol_contexts.specs.SidRecord.{sid_references}
use Rattle.pol_contexts.specs.NamedRecord.{named_references}
use Rattle.pol_contexts.specs.PortRecord.{port_references}
use Rattle.pol_contexts.specs.AddressRecord.{address_references}
use Rattle.pol_contexts.specs.FsUseRecord.{fsuse_references}
use Rattle.pol_contexts.specs.IbPkeyRecord.{ibpkey_references}
use Rattle.pol_contexts.specs.IbEndPortRecord.{ibendport_references}
use Rattle.pol_genfs.specs.GenfsRecord.{genfs_references}
use Rattle.pol_symtab.specs.SymbolTables.{BareTable, Table, bare}
use Rattle.pol_trans.specs.declared.NameTrans.{NameTrans}
use Rattle.pol_trans.specs.declared.NameTrans.TheVariants.{Entries, Groups}
use Rattle.pol_file.specs.declared.RuleLists.{RuleLists}
use Rattle.pol_file.specs.declared.LabelLists.{LabelLists}
use Rattle.pol_file.specs.declared.Parts.{Parts}
use Rattle.pol_file.specs.PolicyReferences.{symbol_references, name_transition_references, rule_references, context_references, label_references, policy_references}
use Rattle.pol_file.specs.Acceptance.{undeclared}
use Rattle.pol_write.proofs.FoundParts.{HasSymbols, HasNames, HasRules, HasContexts, HasLabels}
use Rattle.pol_make.specs.MadeSymbols.{attribute_count, whole_range, bare_level, made_type, made_attribute, made_classes, made_roles, made_types, made_users, made_levels, made_category, categories_of}
use Rattle.pol_make.specs.MadeRules.{allow, made_rules, made_sids}
use Rattle.set_nodes.specs.SetNodes.{set_of}
use Rattle.pol_make.specs.Made.{made}
use Rattle.pol_make.proofs.GrantedRules.{IsMadeRule, rules-made}
use Rattle.pol_make.proofs.GrantedSids.{kernel_sid}
use Rattle.pol_moved.proofs.ListFacts.{all-append, all-map, all-range}
use Rattle.pol_moved.proofs.NamedValues.{AreNamed, none-dangling, nothing-named, named-first, ◌⊕◌, each-named, none-named, declares_in, declared-named, any-range}

-- ---- what is declared

types-declared : (n value : ℕ) → 1 ≤ value → value ≤ n + attribute_count n → declares_in (λ t. is_primary_type t.properties) (λ t. t.value) value (made_types n) ≡ true
unfolding made_types made_type made_attribute
types-declared n value first last = rw (list_any-append _ (map made_type (range_with_len 1 n)) (map (made_attribute n) (range_with_len 1 (attribute_count n)))) (elim (cases_lt n value) [
  | inl above ↦
      let same : n + (value - n) ≡ value = omega (arith, above) in
      or_right _ _ (any-range _ (made_attribute n) 1 (attribute_count n) (value - n) (omega (arith, above)) (omega (arith, last, above)) (eq-eqb _ _ same))
  | inr below ↦ or_left _ _ (any-range _ made_type 1 n value first (omega (arith, below)) (eq-eqb value value refl))
])

classes-declared : (value : ℕ) → 1 ≤ value → value ≤ 3 → declares_in (λ class. true) (λ class. class.value) value made_classes ≡ true
unfolding made_classes
classes-declared zero first last = absurd (omega (arith, first))
classes-declared (suc zero) first last = refl
classes-declared (suc (suc zero)) first last = refl
classes-declared (suc (suc (suc zero))) first last = refl
classes-declared (suc (suc (suc (suc value)))) first last = absurd (omega (arith, last))

-- the values that a policy that is made refers to have names
record Declares (n : ℕ) (symbols : Symbols) : Type 0 where
  types : (value : ℕ) → 1 ≤ value → value ≤ n + attribute_count n → is_some (name_in symbols Types value) ≡ true
  classes : (value : ℕ) → 1 ≤ value → value ≤ 3 → is_some (name_in symbols Classes value) ≡ true
  role : is_some (name_in symbols Roles 2) ≡ true
  user : is_some (name_in symbols Users 1) ≡ true
  level : is_some (name_in symbols Levels 1) ≡ true

records-are : {A : Type 0} (table : Table A) (other : BareTable A) → bare table ≡ other → values_of table.records ≡ other.records
records-are {A} table other e = ap (λ (t : BareTable A). t.records) e

symbols-declare : (n : ℕ) (symbols : Symbols) → HasSymbols (made n) symbols → Declares n symbols
unfolding made made_roles made_users made_levels
symbols-declare n symbols has = record {
  types = λ value first last. declared-named (λ t. t.name) (λ t. is_primary_type t.properties) (λ t. t.value) value symbols.types.records (made_types n) (records-are symbols.types _ has.types) (types-declared n value first last);
  classes = λ value first last. declared-named (λ class. class.name) (λ class. true) (λ class. class.value) value symbols.classes.records made_classes (records-are symbols.classes _ has.classes) (classes-declared value first last);
  role = declared-named (λ role. role.name) (λ role. true) (λ role. role.value) 2 symbols.roles.records (made_roles n) (records-are symbols.roles _ has.roles) refl;
  user = declared-named (λ user. user.name) (λ user. true) (λ user. user.value) 1 symbols.users.records made_users (records-are symbols.users _ has.users) refl;
  level = declared-named (λ level. level.name) (λ level. is_primary_flag level.isalias) (λ level. level.sens) 1 symbols.levels.records made_levels (records-are symbols.levels _ has.levels) refl;
}

-- ---- what is referred to

-- a primary type without bounds
abbrev IsPlainType : TypeRec → Type 0
IsPlainType t = (is_primary_type t.properties ≡ true) × (t.bounds ≡ 0)

types-plain : (n : ℕ) → AllByRecursion IsPlainType (made_types n)
unfolding made_types made_type made_attribute
types-plain n =
    all-append IsPlainType (map made_type (range_with_len 1 n)) (map (made_attribute n) (range_with_len 1 (attribute_count n)))
    (all-map IsPlainType made_type (range_with_len 1 n) (all-range (λ number. IsPlainType (made_type number)) 1 n (λ number above below. (refl, refl))))
    (all-map IsPlainType (made_attribute n) (range_with_len 1 (attribute_count n)) (all-range (λ number. IsPlainType (made_attribute n number)) 1 (attribute_count n) (λ number above below. (refl, refl))))

-- a primary category
abbrev IsPrimary : CategoryRec → Type 0
IsPrimary category = category.isalias ≡ 0

categories-plain : (count : ℕ) → AllByRecursion IsPrimary (categories_of count)
unfolding categories_of made_category
categories-plain count = all-map IsPrimary made_category (range_with_len 0 count) (all-range (λ number. IsPrimary (made_category number)) 0 count (λ number above below. refl))

-- the only user
abbrev only_user : UserRec
only_user = record { value = 1; bounds = 0; name = codes "system_u"; roles = set_of (1 ∷ []); range = whole_range; level = bare_level }

-- its sensitivities
user-named : (symbols : Symbols) → is_some (name_in symbols Levels 1) ≡ true → (place : ℕ) (user : UserRec) → user ≡ only_user → AreNamed (name_in symbols) (user_references (record { place = place; value = user }))
user-named symbols level place user is =
    rw is (named-first level (named-first level (named-first level nothing-named)))

symbols-named : (n : ℕ) (symbols : Symbols) → HasSymbols (made n) symbols → Declares n symbols → AreNamed (name_in symbols) (symbol_references symbols)
unfolding made made_roles made_users made_levels
symbols-named n symbols has declares =
    let named = name_in symbols in
    each-named named role_references (λ role. role.bounds ≡ 0) (λ place role none. rw none nothing-named) symbols.roles.records (made_roles n) (records-are symbols.roles _ has.roles) (refl, (refl, tt))
    ⊕ each-named named type_references IsPlainType (λ place t plain. rw (plain.0, plain.1) nothing-named) symbols.types.records (made_types n) (records-are symbols.types _ has.types) (types-plain n)
    ⊕ each-named named user_references (λ user. user ≡ only_user) (λ place user is. user-named symbols declares.level place user is) symbols.users.records made_users (records-are symbols.users _ has.users) (refl, tt)
    ⊕ each-named named sensitivity_references (λ level. level.isalias ≡ 0) (λ place level none. rw none nothing-named) symbols.levels.records made_levels (records-are symbols.levels _ has.levels) (refl, tt)
    ⊕ each-named named category_references IsPrimary (λ place category none. rw none nothing-named) symbols.categories.records (categories_of 1024) (records-are symbols.categories _ has.categories) (categories-plain 1024)

rule-named : (n : ℕ) (symbols : Symbols) → Declares n symbols → (place : ℕ) (av : AvRec) → IsMadeRule n av → AreNamed (name_in symbols) (av_references (record { place = place; value = av }))
rule-named n symbols declares place av made =
    let references : (v : AvRec) → av ≡ v → AreNamed (name_in symbols) (av_references (record { place = place; value = v })) → AreNamed (name_in symbols) (av_references (record { place = place; value = av })) =
    λ v is h. subst (λ (v : AvRec). AreNamed (name_in symbols) (av_references (record { place = place; value = v }))) (sym is) h in
    references (allow av.source av.target av.class made.permissions) made.is
    (named-first (declares.types av.source made.source.0 made.source.1)
    (named-first (declares.types av.target made.target.0 (omega (arith, made.target.1)))
    (named-first (declares.classes av.class made.class.0 made.class.1)
    nothing-named)))

names-named : (n : ℕ) (symbols : Symbols) (trans : NameTrans) → HasNames (made n) trans → AreNamed (name_in symbols) (name_transition_references trans)
unfolding made
names-named n symbols (Entries entries) has = none-named _ name_trans_references entries has.entries
names-named n symbols (Groups groups) has = none-named _ name_group_references groups has.groups

rules-named : (n : ℕ) → 20 ≤ n → (symbols : Symbols) (rules : RuleLists) → HasRules (made n) rules → Declares n symbols → AreNamed (name_in symbols) (rule_references rules)
unfolding made
rules-named n many symbols rules has declares =
    let named = name_in symbols in
    each-named named av_references (IsMadeRule n) (rule-named n symbols declares) rules.table (made_rules n) has.avtab (rules-made n many)
    ⊕ none-named named condnode_references rules.conditionals has.condlist
    ⊕ none-named named role_trans_references rules.role_trans has.roletrans
    ⊕ none-named named role_allow_references rules.role_allows has.roleallow
    ⊕ names-named n symbols rules.name_trans has.names

-- what the initial SID refers to
sid-named : (n : ℕ) → 20 ≤ n → (symbols : Symbols) → Declares n symbols → (place : ℕ) (entry : SidRec) → entry ≡ kernel_sid → AreNamed (name_in symbols) (sid_references (record { place = place; value = entry }))
sid-named n many symbols declares place entry is =
    rw is (named-first declares.user (named-first declares.role (named-first (declares.types 1 (omega arith) (omega (arith, many))) (named-first declares.level nothing-named))))

contexts-named : (n : ℕ) → 20 ≤ n → (symbols : Symbols) (contexts : Contexts) → HasContexts (made n) contexts → Declares n symbols → AreNamed (name_in symbols) (context_references contexts)
unfolding made made_sids
contexts-named n many symbols contexts has declares =
    let named = name_in symbols in
    each-named named sid_references (λ entry. entry ≡ kernel_sid) (sid-named n many symbols declares) contexts.sid made_sids has.sid (refl, tt)
    ⊕ none-named named named_references contexts.fs has.fs
    ⊕ none-named named port_references contexts.port has.port
    ⊕ none-named named named_references contexts.netif has.netif
    ⊕ none-named named (address_references 4) contexts.node has.node
    ⊕ none-named named fsuse_references contexts.fsuse has.fsuse
    ⊕ none-named named (address_references 16) contexts.node6 has.node6
    ⊕ none-named named ibpkey_references contexts.ibpkey has.ibpkey
    ⊕ none-named named ibendport_references contexts.ibendport has.ibendport

labels-named : (n : ℕ) → 20 ≤ n → (symbols : Symbols) (labels : LabelLists) → HasLabels (made n) labels → Declares n symbols → AreNamed (name_in symbols) (label_references labels)
unfolding made
labels-named n many symbols labels has declares =
    contexts-named n many symbols labels.contexts has.contexts declares
    ⊕ none-named (name_in symbols) genfs_references labels.genfs has.genfs
    ⊕ none-named (name_in symbols) range_trans_references labels.range_trans has.rangetrans

-- ---- all of them

pub all-declared : (n : ℕ) → 20 ≤ n → (policy : Parts) → HasSymbols (made n) policy.symbols → HasRules (made n) policy.rules → HasLabels (made n) policy.labels → undeclared policy ≡ None
all-declared n many policy symbols rules labels =
    let declares = symbols-declare n policy.symbols symbols in
    none-dangling (name_in policy.symbols) (policy_references policy)
    (symbols-named n policy.symbols symbols declares ⊕ rules-named n many policy.symbols policy.rules rules declares ⊕ labels-named n many policy.symbols policy.labels labels declares)
