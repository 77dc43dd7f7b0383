-- A policy that is sound is sound at each version that can hold it.
use Rattle.std.proofs.Common.{◌≡◌, ℕ, ◌+◌, ◌<◌, ◌≤◌, Bool, true, false, Option, Some, None, Ok, List, [], ◌++◌, length, refl, sym, ap, subst, ◌∙◌, append_assoc, arith}
use Rattle.std.specs.Prelude.{is_some, not, slice_index}
use Rattle.std.specs.List.{AllByRecursion, flat_map}
use Rattle.std.proofs.lemmas.Bool.{le-leb, cases_lt, lt-ltb}
use Rattle.std.proofs.lemmas.List.{append-nil}
use Rattle.std.proofs.lemmas.List.Elements.{recursion_from_All}
use Rattle.pol_fields.specs.declared.limits.TheConstants.{MAX_POLICY_BYTES}
use Rattle.pol_fields.specs.declared.fields.TheConstants.{NAMETRANS_COUNT, NAMEGROUP_COUNT, END_END}
use Rattle.pol_fields.specs.declared.TableKind.TheVariants.{Types}
use Rattle.pol_fields.specs.declared.Field.{Field}
use Rattle.pol_cursor.specs.Outcome.{Got}
use Rattle.pol_datums.specs.declared.TypeRec.{TypeRec}
use Rattle.pol_symtab.specs.SymbolTables.{BareTable}
use Rattle.pol_symbols.specs.PolicySymbols.{name_in, symbols_at}
use Rattle.pol_trans.specs.NameTransitions.{has_groups, name_transitions_at}
use Rattle.pol_trans.specs.declared.NameTransRec.{NameTransRec}
use Rattle.pol_trans.specs.declared.NameGroupRec.{NameGroupRec}
use Rattle.pol_trans.specs.NameTransRecord.{spell_name_trans}
use Rattle.pol_file.specs.declared.Parts.{Parts}
use Rattle.pol_file.specs.declared.HeaderRec.{HeaderRec}
use Rattle.pol_file.specs.PolicyParts.{policy_at, rule_lists_at, label_lists_at}
use Rattle.pol_file.specs.Acceptance.{undeclared, accept}
use Rattle.pol_file.proofs.Acceptances.{accepted_was_read, accepted_has_type_values}
use Rattle.pol_tree.specs.declared.Tree.{Tree}
use Rattle.pol_tree.specs.PolicyTree.{tree_of}
use Rattle.pol_tree.specs.TreeRanges.{TreeFits}
use Rattle.pol_tree.specs.TreeSpelling.{spell_front, spell_symbols, spell_rules, spell_labels, spell}
use Rattle.pol_tree.specs.TreeShape.{shape}
use Rattle.pol_write.specs.declared.errors.Unsound.{Unsound}
use Rattle.pol_write.specs.Soundness.{unsound_bytes, unless_shapeless, unsound, IsSound}
use Rattle.pol_write.proofs.FoundTree.{sound_is_accepted, list-empty}
use Rattle.pol_write.proofs.SoundTree.{accepted_tree_is_sound}
use Rattle.pol_write.proofs.FoundParts.{HasSymbols, HasNames, HasRules, HasLabels, HasNoInfiniband}
use Rattle.pol_versions.specs.Conversion.{cannot, converted, too_long, unless_lost, tree_at, with_names}
use Rattle.pol_versions.specs.Losses.{lost_part}
use Rattle.pol_moved.proofs.Granted.{Grants, grants-so, GrantsLast, grants-to_last, grants-end, grants-last-as}
use Rattle.pol_moved.proofs.Stood.{Stood}
use Rattle.pol_sound.proofs.MovedTree.{moved_tree}
use Rattle.pol_sound.specs.Versions.{IsVersion}
use Rattle.pol_sound.proofs.KeptFront.{front-kept}
use Rattle.pol_sound.proofs.KeptSymbols.{symbols-kept}
use Rattle.pol_sound.proofs.KeptRules.{rules-there, rules-kept}
use Rattle.pol_sound.proofs.KeptLabels.{labels-kept}
use Rattle.pol_sound.proofs.KeptDeclared.{HasParts, PartsNamed, parts-named, declared-kept}
use Rattle.pol_sound.proofs.KeptFits.{tree-fits}
use Rattle.pol_sound.proofs.KeptShape.{ShapedParts, shaped-parts, list-shaped, tree-shaped}
use Rattle.pol_sound.proofs.Room.{HasRoom, has-room}
use Rattle.pol_sound.proofs.KeptNames.{WereNames, AreNames, names-kept, new_entries, new_groups}
use Rattle.std.proofs.Common.{inl, inr}
use Rattle.std.proofs.lemmas.List.{length-append}
use Rattle.pol_cursor.specs.Parts.{spell_counted}
use Rattle.pol_cursor.specs.References.{Placed}
use Rattle.pol_cursor.specs.Spelling.{bytes_of, AreBytes}
use Rattle.pol_avtab.specs.AvRecord.{spell_av}
use Rattle.pol_conditionals.specs.CondNodeRecord.{spell_condnode}
use Rattle.pol_trans.specs.RoleTransRecord.{spell_role_trans}
use Rattle.pol_trans.specs.RoleAllowRecord.{spell_role_allow}
use Rattle.pol_tree.specs.TreeSpelling.{spell_name_transitions}
use Rattle.pol_file.specs.TypeValues.{IsTypeValue}
use Rattle.pol_unheld.specs.declared.Unheld.{Unheld}
use Rattle.pol_moved.proofs.GrantedPolicy.{granted-accepted}
use Rattle.pol_moved.proofs.ListFacts.{all-so, all-map}
use Rattle.pol_moved.proofs.Stood.{finds-got}
use Rattle.pol_sound.proofs.KeptReferences.{NamedType, types-named, named-below, names-from}
use Rattle.pol_sound.proofs.StoodTrees.{own-parts, StoodTree, has-lists, parts_text, policy-there, stood-tree}

-- ---- the tree at the version

entries-within : (tree : Tree) → has_groups tree.version ≡ false → length (flat_map spell_name_trans tree.nametrans) ≤ length (spell tree)
unfolding spell spell_rules
entries-within tree e =
    let names : spell_name_transitions tree ≡ spell_counted spell_name_trans tree.nametrans = rw e refl in
    let entries = flat_map spell_name_trans tree.nametrans in
    let before = spell_counted spell_av tree.avtab ++ spell_counted spell_condnode tree.condlist ++ spell_counted spell_role_trans tree.roletrans ++ spell_counted spell_role_allow tree.roleallow in
    let rules = before ++ spell_name_transitions tree in
    omega (
      arith,
      length-append (bytes_of 4 (length tree.nametrans)) entries,
      ap (λ (text : List ℕ). length text) names,
      length-append before (spell_name_transitions tree),
      length-append (spell_front tree ++ spell_symbols tree) rules,
      length-append (spell_front tree ++ spell_symbols tree ++ rules) (spell_labels tree),
    )

-- the tree that conversion makes
abbrev new_tree : Tree → ℕ → Tree
new_tree tree version =
    moved_tree version tree (new_entries (has_groups tree.version) (has_groups version) tree.types tree.nametrans tree.namegroup) (new_groups (has_groups tree.version) (has_groups version) tree.nametrans tree.namegroup)

named-so : (was is : Bool) (tree : Tree) (version : ℕ) → with_names was is (tree_at version tree) ≡ moved_tree version tree (new_entries was is tree.types tree.nametrans tree.namegroup) (new_groups was is tree.nametrans tree.namegroup)
named-so true false tree version = refl
named-so false true tree version = refl
named-so true true tree version = refl
named-so false false tree version = refl

converted-is : (tree : Tree) (version : ℕ) → converted tree version ≡ new_tree tree version
unfolding converted
converted-is tree version = named-so (has_groups tree.version) (has_groups version) tree version

-- ---- it can be held

not-lost : (part others : Option Unheld) → unless_lost part others ≡ None → (part ≡ None) × (others ≡ None)
not-lost (Some part) others e = absurd cc
not-lost None others e = (refl, e)

short-enough : (tree : Tree) → too_long tree ≡ None → length (spell tree) ≤ MAX_POLICY_BYTES
unfolding too_long
short-enough tree e = elim (cases_lt MAX_POLICY_BYTES (length (spell tree))) [
  | inl long ↦ absurd (let wrong = rw (lt-ltb MAX_POLICY_BYTES (length (spell tree)) long) at e in cc)
  | inr few ↦ few
]

-- ---- what a sound tree says

shapeless : (wrong : Option Field) (others : Option Unsound) → unless_shapeless wrong others ≡ None → wrong ≡ None
shapeless None others e = refl
shapeless (Some field) others e = absurd cc

record Source (tree : Tree) : Type 0 where
  shaped : ShapedParts tree
  policy : Parts
  has : HasParts tree policy
  named : PartsNamed policy
  stood : StoodTree tree
  small : AllByRecursion (λ t. t.value < 65536) tree.types
  declared : AllByRecursion (NamedType (name_in policy.symbols)) tree.types
  below : (value : ℕ) → is_some (name_in policy.symbols Types value) ≡ true → value < 65536

source : (tree : Tree) → IsSound tree → Source tree
unfolding unsound spell
source tree sound =
    let shaped = shaped-parts tree (shapeless (shape tree) (unsound_bytes (spell tree)) sound.accepted) in
    let lists = has-lists tree shaped in
    let accepted = sound_is_accepted tree sound in
    let policy = accepted.0 in
    let has : HasParts tree policy = subst (λ (t : Tree). HasParts t policy) accepted.2 (own-parts policy) in
    let was = accepted_was_read (spell tree) policy accepted.1 in
    let text = parts_text tree sound.fits lists in
    let same : spell tree ≡ text = simp append_assoc in
    let read : policy_at ([] ++ (text ++ [])) 0 ≡ Got policy was.next = rw (append-nil, ← same) was.read in
    let ends = finds-got (λ (policy : Parts). Unit {0}) (0 + length text) (policy_at ([] ++ (text ++ [])) 0) policy was.next ((policy-there tree sound.fits lists).finds [] []) read in
    let stood : Stood policy_at policy text = record { before = []; after = []; got = read ∙ ap (λ (n : ℕ). Got policy n) ends.1 } in
    let named = parts-named policy was.declared in
    let types = ap (λ (t : BareTable TypeRec). t.records) has.symbols.types in
    let values = accepted_has_type_values (spell tree) policy accepted.1 in
    let within = recursion_from_All (λ (t : Placed TypeRec). IsTypeValue policy.symbols t.value.value) policy.symbols.types.records values.within in
    let small = all-map (λ t. t.value < 65536) (λ (t : Placed TypeRec). t.value) policy.symbols.types.records (all-so policy.symbols.types.records (λ t h. omega (arith, h.1, values.few)) within) in
    record {
      shaped = shaped;
      policy = policy;
      has = has;
      named = named;
      stood = stood-tree tree sound.fits lists policy stood;
      small = subst (λ (ts : List TypeRec). AllByRecursion (λ t. t.value < 65536) ts) types small;
      declared = subst (λ (ts : List TypeRec). AllByRecursion (NamedType (name_in policy.symbols)) ts) types (types-named policy.symbols named.symbols);
      below = named-below 65536 policy.symbols small;
    }

-- ---- it is read

is-true : (b : Bool) → not b ≡ false → b ≡ true
is-true true e = refl
is-true false e = absurd cc

module _ (tree : Tree) (version : ℕ) (entries : List NameTransRec) (groups : List NameGroupRec) (fits : TreeFits tree) (is : IsVersion version) (from : Source tree) (room : HasRoom tree version)
    (names : AreNames (name_in from.policy.symbols) (has_groups version) entries groups) where
  abbrev new : Tree
  new = moved_tree version tree entries groups

  names-granted : Grants (name_transitions_at version) (HasNames new) (spell_name_transitions new)
  names-granted = grants-so names.granted λ trans h. record { entries = h.entries; groups = h.groups }

  policy-granted : GrantsLast policy_at (λ policy. undeclared policy ≡ None) (spell new)
  unfolding policy_at spell
  policy-granted =
      let lists = has-lists tree from.shaped in
      let stood = from.stood in
      let none_new : HasNoInfiniband new = record { ibpkey = room.ibpkey; ibendport = room.ibendport } in
      let rules_there = rules-there tree fits stood.rules stood.rules_stood in
      grants-last-as
      (grants-to_last _ (front-kept tree version entries groups fits is stood.front stood.front_stood) λ front has_front.
      let same : version ≡ front.header.version = sym (ap (λ (header : HeaderRec). header.version) has_front.header) in
      grants-to_last _ (subst (λ (v : ℕ). Grants (symbols_at v) (HasSymbols new) (spell_symbols new)) same (symbols-kept tree version entries groups fits stood.symbols stood.symbols_stood)) λ symbols has_symbols.
      grants-to_last _ (subst (λ (v : ℕ). Grants (rule_lists_at v) (HasRules new) (spell_rules new)) same (rules-kept tree version entries groups fits room.rules rules_there names-granted)) λ rules has_rules.
      let types : slice_index tree.nprims 3 ≡ symbols.types.nprim = sym (ap (λ (t : BareTable TypeRec). t.nprim) has_symbols.types) in
      let labels_there = subst (λ (n : ℕ). Stood (label_lists_at tree.version n) stood.labels (spell_labels tree)) types stood.labels_stood in
      let granted = labels-kept tree version entries groups fits lists.infiniband none_new symbols.types.nprim (lists.rows ∙ types) stood.labels labels_there in
      grants-to_last _ (subst (λ (v : ℕ). Grants (label_lists_at v symbols.types.nprim) (HasLabels new) (spell_labels new)) same granted) λ labels has_labels.
      let policy : Parts = record { front = front; symbols = symbols; rules = rules; labels = labels } in
      grants-end END_END policy
      (declared-kept tree version entries groups from.policy policy from.has (record { symbols = has_symbols; rules = has_rules; labels = has_labels }) from.named names.good.entries_named names.good.groups_named))
      (simp (append_assoc, append-nil))

  new-sound : length (spell new) ≤ MAX_POLICY_BYTES → IsSound new
  unfolding unsound
  new-sound few =
      let fits_new = tree-fits tree version entries groups is.most fits names.good.entries_fit names.good.groups_fit in
      let entries_shaped = list-shaped (not (has_groups version)) entries NAMETRANS_COUNT (λ absent. names.form.entries (is-true (has_groups version) absent)) in
      let groups_shaped = list-shaped (has_groups version) groups NAMEGROUP_COUNT names.form.groups in
      record {
        fits = fits_new;
        accepted = rw (tree-shaped tree version entries groups fits_new from.shaped entries_shaped groups_shaped room.ibpkey room.ibendport, le-leb (length (spell new)) MAX_POLICY_BYTES few) (granted-accepted (spell new) policy-granted);
      }

-- ---- it is sound

-- the file-name transitions that were read
were-names : (tree : Tree) (fits : TreeFits tree) (from : Source tree) → WereNames (name_in from.policy.symbols) (has_groups tree.version) tree.nametrans tree.namegroup
were-names tree fits from =
    let there = rules-there tree fits from.stood.rules from.stood.rules_stood in
    let named = names-from (name_in from.policy.symbols) tree from.policy.rules.name_trans from.has.rules.names from.named.names in
    record {
      form = record {
        entries = λ grouped. list-empty (not (has_groups tree.version)) tree.nametrans NAMETRANS_COUNT from.shaped.nametrans (ap not grouped);
        groups = λ single. list-empty (has_groups tree.version) tree.namegroup NAMEGROUP_COUNT from.shaped.namegroup single;
      };
      good = record { entries_fit = fits.nametrans; groups_fit = fits.namegroup; entries_named = named.0; groups_named = named.1 };
      trans = there.names;
      stood = there.names_stood;
    }

pub converted_is_sound : (tree : Tree) (version : ℕ) → IsSound tree → IsVersion version → cannot tree version ≡ None → IsSound (converted tree version)
converted_is_sound tree version sound is holds =
    let fits = sound.fits in
    let from = source tree sound in
    let held = not-lost (lost_part tree version) (too_long (converted tree version)) holds in
    let room = has-room tree version fits held.0 in
    let same = converted-is tree version in
    let few : length (spell (new_tree tree version)) ≤ MAX_POLICY_BYTES = subst (λ (t : Tree). length (spell t) ≤ MAX_POLICY_BYTES) same (short-enough (converted tree version) held.1) in
    let names = names-kept (name_in from.policy.symbols) from.below tree.types from.small from.declared (has_groups tree.version) (has_groups version) tree.nametrans tree.namegroup (were-names tree fits from)
    (λ single. omega (arith, few, entries-within (new_tree tree version) single))
    in
    let new_sound = new-sound tree version (new_tree tree version).nametrans (new_tree tree version).namegroup fits is from room names few in
    subst (λ (t : Tree). IsSound t) (sym same) new_sound

-- The converted tree of a file that is accepted is sound, and its bytes are accepted.
pub converted_is_accepted : (bytes : List ℕ) (old : Parts) (version : ℕ) → AreBytes bytes → length bytes ≤ MAX_POLICY_BYTES → accept bytes ≡ Ok old → IsVersion version → cannot (tree_of old) version ≡ None
    → (new : Parts) × (accept (spell (converted (tree_of old) version)) ≡ Ok new) × (tree_of new ≡ converted (tree_of old) version)
converted_is_accepted bytes old version are few accepted is holds =
    sound_is_accepted (converted (tree_of old) version) (converted_is_sound (tree_of old) version (accepted_tree_is_sound bytes old are few accepted) is holds)
