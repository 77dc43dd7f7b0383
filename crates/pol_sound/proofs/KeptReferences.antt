-- The references of a policy that is accepted are declared at another version.
use Rattle.std.proofs.Common.{inl, inr, ◌≡◌, ℕ, ◌+◌, ◌<◌, ◌^◌, Bool, true, false, ◌&&◌, ◌||◌, Option, Some, None, List, [], ◌∷◌, ◌++◌, length, refl, sym, ap, subst, ◌∙◌, arith}
use Rattle.std.specs.Prelude.{map, is_some, option_map, nat_eq}
use Rattle.std.specs.List.{AllByRecursion, Contains, find, list_any, flat_map}
use Rattle.std.proofs.lemmas.Bool.{cases_Bool, or_cases, or_left, or_right, and_parts, and_from, eqb-true, eq-eqb}
use Rattle.std.proofs.lemmas.List.Elements.{All-from_recursion, All-contains, Contains-append_cases}
use Rattle.pol_fields.specs.declared.TableKind.{TableKind}
use Rattle.pol_fields.specs.declared.TableKind.TheVariants.{Commons, Classes, Roles, Types, Users, Booleans, Levels, Categories}
use Rattle.pol_cursor.specs.References.{Placed, values_of, Reference, Named, references_in}
use Rattle.pol_cursor.proofs.PlacedNested.{values_placed}
use Rattle.pol_bitmap.specs.Nodes.{bits_of}
use Rattle.pol_bitmap.proofs.Elements.{contains_nothing, contains_one}
use Rattle.pol_symtab.specs.SymbolTables.{Table, BareTable, bare, declares, primary_name}
use Rattle.set_nodes.proofs.RisingValues.{values_bits}
use Rattle.pol_datums.specs.declared.TypeRec.{TypeRec}
use Rattle.pol_datums.specs.Flags.{is_primary_flag}
use Rattle.pol_datums.specs.SymbolReferences.{alias_reference}
use Rattle.pol_datums.specs.RoleRecord.{role_references}
use Rattle.pol_datums.specs.TypeRecord.{is_primary_type, type_references}
use Rattle.pol_datums.specs.SensitivityRecord.{sensitivity_references}
use Rattle.pol_datums.specs.CategoryRecord.{category_references}
use Rattle.pol_classes.specs.declared.ClassRec.{ClassRec}
use Rattle.pol_symbols.specs.declared.Symbols.{Symbols}
use Rattle.pol_symbols.specs.UserRecord.{user_references}
use Rattle.pol_symbols.specs.PolicySymbols.{name_in}
use Rattle.pol_trans.specs.declared.NameTransRec.{NameTransRec}
use Rattle.pol_trans.specs.declared.NameDatumRec.{NameDatumRec}
use Rattle.pol_trans.specs.declared.NameGroupRec.{NameGroupRec}
use Rattle.pol_trans.specs.declared.NameTrans.{NameTrans}
use Rattle.pol_trans.specs.declared.NameTrans.TheVariants.{Entries, Groups}
use Rattle.pol_trans.specs.NameTransRecord.{name_trans_references}
use Rattle.pol_trans.specs.NameGroupRecord.{name_datum_length, name_datum_reference, name_data_of, name_group_references}
use Rattle.pol_convert.specs.Grouped.{CommonPart, grouped}
use Rattle.pol_convert.specs.Ungrouped.{ungrouped}
use Rattle.pol_file.specs.PolicyReferences.{symbol_references, name_transition_references}
use Rattle.pol_tree.specs.declared.Tree.{Tree}
use Rattle.pol_write.proofs.FoundParts.{HasSymbols, HasNames}
use Rattle.pol_versions.specs.Conversion.{class_at, values_of_types}
use Rattle.pol_moved.proofs.ListFacts.{all-append_first, all-append_second, all-so, all-map, all-members}
use Rattle.pol_moved.proofs.NamedValues.{AreNamed, nothing-named, named-first, ◌⊕◌, each-named, declares_in}
use Rattle.pol_sound.proofs.MovedTree.{moved_tree}
use Rattle.pol_sound.proofs.MentionedValues.{named-kept, role-placeless, type-placeless, user-placeless, sensitivity-placeless, category-placeless}
use Rattle.pol_sound.proofs.NameForms.{all-grouped, all-ungrouped}

-- ---- which values have names

found-any : {A : Type 0} (is_primary : A → Bool) (value_of : A → ℕ) (value : ℕ) (rs : List (Placed A)) → is_some (find (declares is_primary value_of value) rs) ≡ declares_in is_primary value_of value (values_of rs)
found-any is_primary value_of value [] = refl
found-any is_primary value_of value (r ∷ rs) = elim (cases_Bool (declares is_primary value_of value r)) [
  | inl here ↦ rw here refl
  | inr later ↦ rw later (found-any is_primary value_of value rs)
]

some-mapped : {A B : Type 0} (f : A → B) (o : Option A) → is_some (option_map f o) ≡ is_some o
some-mapped f (Some x) = refl
some-mapped f None = refl

-- A value has a name where a record declares it.
named-declared : {A : Type 0} (name_of : A → List ℕ) (is_primary : A → Bool) (value_of : A → ℕ) (value : ℕ) (rs : List (Placed A)) → is_some (primary_name name_of is_primary value_of rs value) ≡ declares_in is_primary value_of value (values_of rs)
unfolding primary_name
named-declared {A} name_of is_primary value_of value rs = some-mapped (λ (r : Placed A). name_of r.value) (find (declares is_primary value_of value) rs) ∙ found-any is_primary value_of value rs

named-same : {A : Type 0} (name_of : A → List ℕ) (is_primary : A → Bool) (value_of : A → ℕ) (value : ℕ) (rs ss : List (Placed A)) → values_of rs ≡ values_of ss → is_some (primary_name name_of is_primary value_of rs value) ≡ is_some (primary_name name_of is_primary value_of ss value)
named-same {A} name_of is_primary value_of value rs ss e =
    named-declared name_of is_primary value_of value rs ∙ ap (λ (xs : List A). declares_in is_primary value_of value xs) e ∙ sym (named-declared name_of is_primary value_of value ss)

-- a class keeps its value
classes-declare : (version value : ℕ) (xs : List ClassRec) → declares_in (λ class. true) (λ class. class.value) value (map (class_at version) xs) ≡ declares_in (λ class. true) (λ class. class.value) value xs
classes-declare version value [] = refl
classes-declare version value (x ∷ xs) = ap (λ (b : Bool). nat_eq x.value value || b) (classes-declare version value xs)

records-are : {A : Type 0} (table : Table A) (other : BareTable A) → bare table ≡ other → values_of table.records ≡ other.records
records-are {A} table other e = ap (λ (t : BareTable A). t.records) e

-- symbols of a tree, and of it at another version
pub record AreKept (tree : Tree) (version : ℕ) (entries : List NameTransRec) (groups : List NameGroupRec) (was is : Symbols) : Type 0 where
  pub old : HasSymbols tree was
  pub new : HasSymbols (moved_tree version tree entries groups) is

module _ (tree : Tree) (version : ℕ) (entries : List NameTransRec) (groups : List NameGroupRec) (a b : Symbols) (kept : AreKept tree version entries groups a b) where
  roles-same : values_of a.roles.records ≡ values_of b.roles.records
  roles-same = records-are a.roles _ kept.old.roles ∙ sym (records-are b.roles _ kept.new.roles)

  types-same : values_of a.types.records ≡ values_of b.types.records
  types-same = records-are a.types _ kept.old.types ∙ sym (records-are b.types _ kept.new.types)

  users-same : values_of a.users.records ≡ values_of b.users.records
  users-same = records-are a.users _ kept.old.users ∙ sym (records-are b.users _ kept.new.users)

  levels-same : values_of a.levels.records ≡ values_of b.levels.records
  levels-same = records-are a.levels _ kept.old.levels ∙ sym (records-are b.levels _ kept.new.levels)

  categories-same : values_of a.categories.records ≡ values_of b.categories.records
  categories-same = records-are a.categories _ kept.old.categories ∙ sym (records-are b.categories _ kept.new.categories)

  pub same-named : (table : TableKind) (value : ℕ) → is_some (name_in a table value) ≡ is_some (name_in b table value)
  same-named Commons value = named-same (λ common. common.name) (λ common. true) (λ common. common.value) value a.commons.records b.commons.records (records-are a.commons _ kept.old.commons ∙ sym (records-are b.commons _ kept.new.commons))
  same-named Classes value =
      let declared : List ClassRec → Bool = λ xs. declares_in (λ class. true) (λ class. class.value) value xs in
      named-declared (λ class. class.name) (λ class. true) (λ class. class.value) value a.classes.records
      ∙ ap declared (records-are a.classes _ kept.old.classes)
      ∙ sym (classes-declare version value tree.classes)
      ∙ sym (ap declared (records-are b.classes _ kept.new.classes))
      ∙ sym (named-declared (λ class. class.name) (λ class. true) (λ class. class.value) value b.classes.records)
  same-named Roles value = named-same (λ role. role.name) (λ role. true) (λ role. role.value) value a.roles.records b.roles.records roles-same
  same-named Types value = named-same (λ t. t.name) (λ t. is_primary_type t.properties) (λ t. t.value) value a.types.records b.types.records types-same
  same-named Users value = named-same (λ user. user.name) (λ user. true) (λ user. user.value) value a.users.records b.users.records users-same
  same-named Booleans value = named-same (λ boolean. boolean.name) (λ boolean. true) (λ boolean. boolean.value) value a.booleans.records b.booleans.records (records-are a.booleans _ kept.old.booleans ∙ sym (records-are b.booleans _ kept.new.booleans))
  same-named Levels value = named-same (λ level. level.name) (λ level. is_primary_flag level.isalias) (λ level. level.sens) value a.levels.records b.levels.records levels-same
  same-named Categories value = named-same (λ category. category.name) (λ category. is_primary_flag category.isalias) (λ category. category.value) value a.categories.records b.categories.records categories-same

-- ---- the symbol tables

-- references of which each is named, in two parts
pub front-named : (named : Named) (xs ys : List Reference) → AreNamed named (xs ++ ys) → AreNamed named xs
front-named named xs ys h = record { each = all-append_first (λ r. is_some (named r.table r.value) ≡ true) xs ys h.each }

pub back-named : (named : Named) (xs ys : List Reference) → AreNamed named (xs ++ ys) → AreNamed named ys
back-named named xs ys h = record { each = all-append_second (λ r. is_some (named r.table r.value) ≡ true) xs ys h.each }

-- the references of the five tables that have some are named
pub record SymbolsNamed (named : Named) (symbols : Symbols) : Type 0 where
  pub roles : AreNamed named (references_in role_references symbols.roles.records)
  pub types : AreNamed named (references_in type_references symbols.types.records)
  pub users : AreNamed named (references_in user_references symbols.users.records)
  pub levels : AreNamed named (references_in sensitivity_references symbols.levels.records)
  pub categories : AreNamed named (references_in category_references symbols.categories.records)

pub symbols-split : (named : Named) (symbols : Symbols) → AreNamed named (symbol_references symbols) → SymbolsNamed named symbols
symbols-split named symbols h =
    let roles = references_in role_references symbols.roles.records in
    let types = references_in type_references symbols.types.records in
    let users = references_in user_references symbols.users.records in
    let levels = references_in sensitivity_references symbols.levels.records in
    let categories = references_in category_references symbols.categories.records in
    let four = front-named named (roles ++ types ++ users ++ levels) categories h in
    let three = front-named named (roles ++ types ++ users) levels four in
    let two = front-named named (roles ++ types) users three in
    record {
      roles = front-named named roles types two;
      types = back-named named roles types two;
      users = back-named named (roles ++ types) users three;
      levels = back-named named (roles ++ types ++ users) levels four;
      categories = back-named named (roles ++ types ++ users ++ levels) categories h;
    }

module _ (tree : Tree) (version : ℕ) (entries : List NameTransRec) (groups : List NameGroupRec) (a b : Symbols) (kept : AreKept tree version entries groups a b) where
  pub symbols-named : SymbolsNamed (name_in a) a → AreNamed (name_in b) (symbol_references b)
  symbols-named h =
      let same = same-named tree version entries groups a b kept in
      named-kept (name_in a) (name_in b) same role_references role-placeless a.roles.records b.roles.records (roles-same tree version entries groups a b kept) h.roles
      ⊕ named-kept (name_in a) (name_in b) same type_references type-placeless a.types.records b.types.records (types-same tree version entries groups a b kept) h.types
      ⊕ named-kept (name_in a) (name_in b) same user_references user-placeless a.users.records b.users.records (users-same tree version entries groups a b kept) h.users
      ⊕ named-kept (name_in a) (name_in b) same sensitivity_references sensitivity-placeless a.levels.records b.levels.records (levels-same tree version entries groups a b kept) h.levels
      ⊕ named-kept (name_in a) (name_in b) same category_references category-placeless a.categories.records b.categories.records (categories-same tree version entries groups a b kept) h.categories

-- ---- the types

-- a value that a record declares is one of those of the records
declared-below : (limit value : ℕ) (xs : List TypeRec) → AllByRecursion (λ t. t.value < limit) xs → declares_in (λ t. is_primary_type t.properties) (λ t. t.value) value xs ≡ true → value < limit
declared-below limit value [] small e = absurd cc
declared-below limit value (t ∷ ts) small e = elim (or_cases (is_primary_type t.properties && nat_eq t.value value) _ e) [
  | inl here ↦
      let same = eqb-true t.value value (and_parts (is_primary_type t.properties) _ here).1 in
      omega (arith, same, small.0)
  | inr later ↦ declared-below limit value ts small.1 later
]

pub named-below : (limit : ℕ) (symbols : Symbols) → AllByRecursion (λ t. t.value < limit) (values_of symbols.types.records) → (value : ℕ) → is_some (name_in symbols Types value) ≡ true → value < limit
named-below limit symbols small value named =
    declared-below limit value (values_of symbols.types.records) small (sym (named-declared (λ t. t.name) (λ t. is_primary_type t.properties) (λ t. t.value) value symbols.types.records) ∙ named)

-- a test that a member passes
any-member : {A : Type 0} (test : A → Bool) (xs : List A) (x : A) → Contains xs x → test x ≡ true → list_any test xs ≡ true
any-member test [] x there e = absurd (contains_nothing x there)
any-member test (y ∷ ys) x there e = elim (Contains-append_cases (y ∷ []) ys x there) [
  | inl here ↦ or_left (test y) (list_any test ys) (rw (contains_one x y here) e)
  | inr later ↦ or_right (test y) (list_any test ys) (any-member test ys x later e)
]

-- what the references of each record say of it
each-from : {A : Type 0} (named : Named) (references : Placed A → List Reference) (P : A → Type 0) → ((place : ℕ) (x : A) → AreNamed named (references (record { place = place; value = x })) → P x) → (records : List (Placed A))
    → AreNamed named (references_in references records) → AllByRecursion P (values_of records)
each-from named references P each [] h = tt
each-from named references P each (r ∷ rs) h =
    (each r.place r.value (front-named named (references r) (flat_map references rs) h), each-from named references P each rs (back-named named (references r) (flat_map references rs) h))

-- the value of a type has a name
abbrev pub NamedType : Named → TypeRec → Type 0
NamedType named t = is_some (named Types t.value) ≡ true

alias-named : (named : Named) (is_primary : Bool) (r : Reference) → AreNamed named (alias_reference is_primary r) → is_primary ≡ false → is_some (named r.table r.value) ≡ true
alias-named named true r h e = absurd cc
alias-named named false r h e = h.each.0

pub types-named : (symbols : Symbols) → SymbolsNamed (name_in symbols) symbols → AllByRecursion (NamedType (name_in symbols)) (values_of symbols.types.records)
types-named symbols h =
    let named = name_in symbols in
    let types = values_of symbols.types.records in
    let aliases = each-from named type_references (λ t. is_primary_type t.properties ≡ false → NamedType named t)
    (λ place t h. alias-named named (is_primary_type t.properties) _ (front-named named (alias_reference (is_primary_type t.properties) _) _ h)) symbols.types.records h.types
    in
    all-members (NamedType named) types λ t there. elim (cases_Bool (is_primary_type t.properties)) [
      | inl primary ↦
          let declared = any-member (λ u. is_primary_type u.properties && nat_eq u.value t.value) types t there (and_from _ _ primary (eq-eqb t.value t.value refl)) in
          named-declared (λ t. t.name) (λ t. is_primary_type t.properties) (λ t. t.value) t.value symbols.types.records ∙ declared
      | inr alias ↦ All-contains (λ (t : TypeRec). is_primary_type t.properties ≡ false → NamedType named t) types t (All-from_recursion _ types aliases) there alias
    ]

-- what is so of the values of types is so of each bit of their set
pub all-values : (P : ℕ → Type 0) (types : List TypeRec) → AllByRecursion (λ t. t.value < 65536) types → AllByRecursion (λ t. P t.value) types → AllByRecursion P (bits_of (values_of_types types))
all-values P types small each =
    let values = map (λ t. t.value) types in
    let fit = All-from_recursion (λ (value : ℕ). value < 2 ^ 32) values (all-map (λ value. value < 2 ^ 32) (λ t. t.value) types (all-so types (λ t less. omega (arith, less)) small)) in
    let all = All-from_recursion P values (all-map P (λ t. t.value) types each) in
    all-members P (bits_of (values_of_types types)) λ bit there. All-contains P values bit all ((values_bits values bit fit).0 there)

-- ---- the file-name transitions

pub record NamedEntry (named : Named) (entry : NameTransRec) : Type 0 where
  pub source : is_some (named Types entry.source) ≡ true
  pub target : is_some (named Types entry.target) ≡ true
  pub class : is_some (named Classes entry.class) ≡ true
  pub default : is_some (named Types entry.default) ≡ true

abbrev NamedDatum : Named → NameDatumRec → Type 0
NamedDatum named datum = is_some (named Types datum.default) ≡ true

pub record NamedGroup (named : Named) (group : NameGroupRec) : Type 0 where
  pub target : is_some (named Types group.target) ≡ true
  pub class : is_some (named Classes group.class) ≡ true
  pub datums : AllByRecursion (NamedDatum named) group.datums

data-from : (named : Named) (rs : List (Placed NameDatumRec)) → AllByRecursion (λ r. is_some (named r.table r.value) ≡ true) (map name_datum_reference rs) → AllByRecursion (NamedDatum named) (values_of rs)
data-from named [] h = tt
data-from named (r ∷ rs) h = (h.0, data-from named rs h.1)

data-to : (named : Named) (rs : List (Placed NameDatumRec)) → AllByRecursion (NamedDatum named) (values_of rs) → AllByRecursion (λ r. is_some (named r.table r.value) ≡ true) (map name_datum_reference rs)
data-to named [] h = tt
data-to named (r ∷ rs) h = (h.0, data-to named rs h.1)

module _ (named : Named) where
  entry-from : (place : ℕ) (entry : NameTransRec) → AreNamed named (name_trans_references (record { place = place; value = entry })) → NamedEntry named entry
  entry-from place entry h = record { source = h.each.0; target = h.each.1.0; class = h.each.1.1.0; default = h.each.1.1.1.0 }

  entry-to : (place : ℕ) (entry : NameTransRec) → NamedEntry named entry → AreNamed named (name_trans_references (record { place = place; value = entry }))
  entry-to place entry h = named-first h.source (named-first h.target (named-first h.class (named-first h.default nothing-named)))

  group-from : (place : ℕ) (group : NameGroupRec) → AreNamed named (name_group_references (record { place = place; value = group })) → NamedGroup named group
  group-from place group h =
      let placed_data = name_data_of (record { place = place; value = group }) in
      record { target = h.each.0; class = h.each.1.0; datums = rw (values_placed name_datum_length (place + 16 + length group.name) group.datums) at (data-from named placed_data h.each.1.1) }

  group-to : (place : ℕ) (group : NameGroupRec) → NamedGroup named group → AreNamed named (name_group_references (record { place = place; value = group }))
  group-to place group h =
      let placed_data = name_data_of (record { place = place; value = group }) in
      let each : AllByRecursion (NamedDatum named) (values_of placed_data) = rw (values_placed name_datum_length (place + 16 + length group.name) group.datums) h.datums in
      named-first h.target (named-first h.class (record { each = data-to named placed_data each }))

  -- the references of those that were read say so of each
  pub names-from : (tree : Tree) (trans : NameTrans) → HasNames tree trans → AreNamed named (name_transition_references trans) → AllByRecursion (NamedEntry named) tree.nametrans × AllByRecursion (NamedGroup named) tree.namegroup
  names-from tree (Entries entries) has h =
      (subst (λ (xs : List NameTransRec). AllByRecursion (NamedEntry named) xs) has.entries (each-from named name_trans_references (NamedEntry named) entry-from entries h), subst (λ (xs : List NameGroupRec). AllByRecursion (NamedGroup named) xs) has.groups tt)
  names-from tree (Groups groups) has h =
      (subst (λ (xs : List NameTransRec). AllByRecursion (NamedEntry named) xs) has.entries tt, subst (λ (xs : List NameGroupRec). AllByRecursion (NamedGroup named) xs) has.groups (each-from named name_group_references (NamedGroup named) group-from groups h))

  pub names-to : (tree : Tree) (trans : NameTrans) → HasNames tree trans → AllByRecursion (NamedEntry named) tree.nametrans → AllByRecursion (NamedGroup named) tree.namegroup → AreNamed named (name_transition_references trans)
  names-to tree (Entries entries) has each each_group = each-named named name_trans_references (NamedEntry named) entry-to entries tree.nametrans has.entries each
  names-to tree (Groups groups) has each each_group = each-named named name_group_references (NamedGroup named) group-to groups tree.namegroup has.groups each_group

  -- ---- in the other form

  record NamedPart (part : CommonPart) : Type 0 where
    target : is_some (named Types part.target) ≡ true
    class : is_some (named Classes part.class) ≡ true

  pub grouped-named : (entries : List NameTransRec) → AllByRecursion (NamedEntry named) entries → AllByRecursion (NamedGroup named) (grouped entries)
  grouped-named entries each =
      let made = all-grouped (NamedEntry named) NamedPart (λ default. is_some (named Types default) ≡ true) (NamedDatum named) (λ entry h. record { target = h.target; class = h.class }) (λ entry h. h.default) (λ default members h all. h) entries each in
      all-so (grouped entries) (λ group h. record { target = h.part.target; class = h.part.class; datums = h.datums }) made

  pub ungrouped-named : (types : List TypeRec) (groups : List NameGroupRec) → AllByRecursion (λ t. t.value < 65536) types → AllByRecursion (NamedType named) types → AllByRecursion (NamedGroup named) groups
      → AllByRecursion (NamedEntry named) (ungrouped (values_of_types types) groups)
  ungrouped-named types groups small declared each =
      all-ungrouped (λ source. is_some (named Types source) ≡ true) (NamedEntry named) (values_of_types types) groups (all-values (λ source. is_some (named Types source) ≡ true) types small declared)
      (all-so groups (λ group h. all-so group.datums (λ datum default source s. record { source = s; target = h.target; class = h.class; default = default }) h.datums) each)
