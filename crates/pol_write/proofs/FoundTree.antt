-- The bytes of a sound tree are accepted as a policy of that tree.
use Rattle.std.proofs.Common.{◌≡◌, ℕ, ◌+◌, ◌==◌, Bool, true, false, cond, not, Option, Some, None, Result, Ok, Err, List, [], ◌∷◌, ◌++◌, length, refl, sym, ap, subst, ◌∙◌, append_assoc, if◌then◌else◌, arith}
use Rattle.pol_fields.specs.declared.limits.TheConstants.{MAX_POLICY_BYTES}
use Rattle.std.specs.Prelude.{nat_le, slice_index}
use Rattle.std.proofs.lemmas.List.{append-nil}
use Rattle.std.proofs.lemmas.Bool.{eqb-true}
use Rattle.pol_fields.specs.declared.Fault.{Fault}
use Rattle.pol_fields.specs.declared.Field.{Field}
use Rattle.pol_fields.specs.declared.field.Field.{Field}
use Rattle.pol_fields.specs.declared.fields.TheConstants.{BITMAP_UNIT, NAMETRANS_COUNT, NAMEGROUP_COUNT, IBPKEY_COUNT, IBENDPORT_COUNT, END_END}
use Rattle.pol_cursor.specs.Outcome.{Outcome, Got, Bad}
use Rattle.pol_cursor.specs.Parts.{end_at}
use Rattle.pol_cursor.specs.References.{values_of}
use Rattle.pol_file.specs.declared.HeaderRec.{HeaderRec}
use Rattle.pol_symtab.specs.SymbolTables.{Table, BareTable, bare}
use Rattle.pol_symbols.specs.PolicySymbols.{symbols_at}
use Rattle.pol_trans.specs.NameTransitions.{has_groups}
use Rattle.pol_contexts.specs.ContextTables.{has_infiniband}
use Rattle.pol_symbols.specs.declared.Symbols.{Symbols}
use Rattle.pol_file.specs.declared.Parts.{Parts}
use Rattle.pol_file.specs.PolicyParts.{rule_lists_at, label_lists_at, policy_at}
use Rattle.pol_file.specs.Acceptance.{accept}
use Rattle.pol_file.proofs.Acceptances.{accepted_was_read}
use Rattle.pol_tree.specs.OptionalParts.{wrong_if, shape_of_list}
use Rattle.pol_tree.specs.declared.Tree.{Tree}
use Rattle.pol_tree.specs.PolicyTree.{nprims_of, tree_of}
use Rattle.pol_tree.specs.TreeSpelling.{spell_symbols, spell_rules, spell_labels, spell}
use Rattle.pol_tree.specs.TreeShape.{shape_of_rules, shape_of_contexts, shape_of_labels, shape}
use Rattle.pol_tree.specs.TreeRanges.{TreeFits}
use Rattle.pol_tree.proofs.Wrongs.{none_each}
use Rattle.pol_write.specs.declared.errors.Unsound.{Unsound}
use Rattle.pol_write.specs.declared.errors.Unsound.TheVariants.{TooLong}
use Rattle.pol_write.specs.Soundness.{refusal_of, unsound_bytes, unless_shapeless, unsound, IsSound}
use Rattle.pol_write.proofs.Findings.{Finds, FindsAgain, finds-part, finds-done, finds-as}
use Rattle.pol_write.proofs.FoundParts.{HasFront, HasSymbols, HasRules, HasLabels, HasOneForm, HasNoInfiniband, front-found, symbols-found, rules-found, labels-found}

-- ---- no part is wrong

pub list-empty : {A : Type 0} (there : Bool) (xs : List A) (d : Field) → shape_of_list there xs d ≡ None → there ≡ false → xs ≡ []
list-empty there [] d e absent = refl
list-empty true (x ∷ xs) d e absent = absurd (let wrong : true ≡ false = absent in cc)
list-empty false (x ∷ xs) d e absent = absurd (let right : wrong_if true d ≡ None = e in cc)

same-count : (m n : ℕ) (d : Field) → wrong_if (not (m == n)) d ≡ None → m ≡ n
same-count m n d e = right (m == n) refl
  where
    right : (b : Bool) → (m == n) ≡ b → m ≡ n
    right true is = eqb-true m n is
    right false is = absurd (let wrong : wrong_if (not (m == n)) d ≡ Some d = rw is refl in cc)

-- what the shape of a tree says of its lists
pub record HasShape (tree : Tree) : Type 0 where
  pub form : HasOneForm (has_groups tree.version) tree
  pub infiniband : HasNoInfiniband tree
  pub rows : length tree.typemap ≡ slice_index tree.nprims 3

pub one-form : (grouped : Bool) (tree : Tree) → shape_of_list (not grouped) tree.nametrans NAMETRANS_COUNT ≡ None → shape_of_list grouped tree.namegroup NAMEGROUP_COUNT ≡ None → HasOneForm grouped tree
one-form true tree entries groups = list-empty false tree.nametrans NAMETRANS_COUNT entries refl
one-form false tree entries groups = list-empty false tree.namegroup NAMEGROUP_COUNT groups refl

has-shape : (tree : Tree) → shape tree ≡ None → HasShape tree
unfolding shape shape_of_rules shape_of_labels shape_of_contexts
has-shape tree e =
    let behind_symbols = (none_each _ _ e).1 in
    let rules = (none_each _ _ behind_symbols).0 in
    let labels = (none_each _ _ (none_each _ _ behind_symbols).1).0 in
    let trans = (none_each _ _ (none_each _ _ rules).1).1 in
    let contexts = (none_each _ _ labels).0 in
    let node6 = (none_each _ _ (none_each _ _ (none_each _ _ (none_each _ _ (none_each _ _ (none_each _ _ (none_each _ _ contexts).1).1).1).1).1).1).1 in
    let ibendport = (none_each _ _ (none_each _ _ node6).1).1 in
    let typemap = (none_each _ _ (none_each _ _ (none_each _ _ labels).1).1).1 in
    record {
      form = one-form (has_groups tree.version) tree (none_each _ _ trans).0 (none_each _ _ (none_each _ _ trans).1).0;
      infiniband = record {
        ibpkey = list-empty (has_infiniband tree.version) tree.ibpkey IBPKEY_COUNT (none_each _ _ node6).0;
        ibendport = list-empty (has_infiniband tree.version) tree.ibendport IBENDPORT_COUNT (none_each _ _ ibendport).0;
      };
      rows = same-count (length tree.typemap) (slice_index tree.nprims 3) BITMAP_UNIT (none_each _ _ typemap).0;
    }

-- ---- the tree of what is read

eight-numbers : (xs : List ℕ) → length xs ≡ 8
    → slice_index xs 0 ∷ slice_index xs 1 ∷ slice_index xs 2 ∷ slice_index xs 3 ∷ slice_index xs 4 ∷ slice_index xs 5 ∷ slice_index xs 6 ∷ slice_index xs 7 ∷ [] ≡ xs
eight-numbers [] long = absurd (omega (arith, long))
eight-numbers (a ∷ []) long = absurd (omega (arith, long))
eight-numbers (a ∷ b ∷ []) long = absurd (omega (arith, long))
eight-numbers (a ∷ b ∷ c ∷ []) long = absurd (omega (arith, long))
eight-numbers (a ∷ b ∷ c ∷ d ∷ []) long = absurd (omega (arith, long))
eight-numbers (a ∷ b ∷ c ∷ d ∷ e ∷ []) long = absurd (omega (arith, long))
eight-numbers (a ∷ b ∷ c ∷ d ∷ e ∷ f ∷ []) long = absurd (omega (arith, long))
eight-numbers (a ∷ b ∷ c ∷ d ∷ e ∷ f ∷ g ∷ []) long = absurd (omega (arith, long))
eight-numbers (a ∷ b ∷ c ∷ d ∷ e ∷ f ∷ g ∷ h ∷ []) long = refl
eight-numbers (a ∷ b ∷ c ∷ d ∷ e ∷ f ∷ g ∷ h ∷ i ∷ xs) long = absurd (omega (arith, long))

table-prims : {A : Type 0} (table : Table A) (other : BareTable A) → bare table ≡ other → table.nprim ≡ other.nprim
table-prims {A} table other e = ap (λ (t : BareTable A). t.nprim) e

table-records : {A : Type 0} (table : Table A) (other : BareTable A) → bare table ≡ other → values_of table.records ≡ other.records
table-records {A} table other e = ap (λ (t : BareTable A). t.records) e

numbers-same : (tree : Tree) (symbols : Symbols) → length tree.nprims ≡ 8 → HasSymbols tree symbols → nprims_of symbols ≡ tree.nprims
numbers-same tree symbols long has =
    rw (table-prims symbols.commons _ has.commons, table-prims symbols.classes _ has.classes, table-prims symbols.roles _ has.roles, table-prims symbols.types _ has.types)
    (rw (table-prims symbols.users _ has.users, table-prims symbols.booleans _ has.booleans, table-prims symbols.levels _ has.levels, table-prims symbols.categories _ has.categories) (eight-numbers tree.nprims long))

tree-same : (tree : Tree) (policy : Parts) → length tree.nprims ≡ 8 → HasFront tree policy.front → HasSymbols tree policy.symbols → HasRules tree policy.rules → HasLabels tree policy.labels → tree_of policy ≡ tree
unfolding tree_of
tree-same tree policy long front symbols rules labels =
    let contexts = labels.contexts in
    rw (front.header, front.capabilities, front.permissive, numbers-same tree policy.symbols long symbols)
    (rw (table-records policy.symbols.commons _ symbols.commons, table-records policy.symbols.classes _ symbols.classes, table-records policy.symbols.roles _ symbols.roles, table-records policy.symbols.types _ symbols.types)
    (rw (table-records policy.symbols.users _ symbols.users, table-records policy.symbols.booleans _ symbols.booleans, table-records policy.symbols.levels _ symbols.levels, table-records policy.symbols.categories _ symbols.categories)
    (rw (rules.avtab, rules.condlist, rules.roletrans, rules.roleallow, rules.names.entries, rules.names.groups)
    (rw (contexts.sid, contexts.fs, contexts.port, contexts.netif, contexts.node, contexts.fsuse, contexts.node6, contexts.ibpkey, contexts.ibendport)
    (rw (labels.genfs, labels.rangetrans, labels.typemap) refl)))))

-- ---- the end

ends-either : (b : Bool) (f : Fault) (n m : ℕ) → n ≡ m → Finds (λ (u : Unit {0}). Unit {0}) m (cond b (Bad f) (Got tt n))
ends-either true f n m e = tt
ends-either false f n m e = (tt, e)

pub end-found : (d : Field) → FindsAgain (end_at d) (λ ended. Unit {0}) []
unfolding end_at
end-found d = record { finds = λ before after. ends-either _ _ (length before) (length before + 0) (omega arith) }

-- ---- the whole tree

tree-found : (tree : Tree) → TreeFits tree → shape tree ≡ None → FindsAgain policy_at (λ policy. tree_of policy ≡ tree) (spell tree)
unfolding policy_at spell
tree-found tree fits shapely =
    let has = has-shape tree shapely in
    let long = fits.nprims in
    finds-as
    (finds-part _ (front-found tree fits) λ front has_front.
    let same : tree.version ≡ front.header.version = ap (λ (header : HeaderRec). header.version) (sym has_front.header) in
    finds-part _ (subst (λ (version : ℕ). FindsAgain (symbols_at version) (HasSymbols tree) (spell_symbols tree)) same (symbols-found tree fits)) λ symbols has_symbols.
    finds-part _ (subst (λ (version : ℕ). FindsAgain (rule_lists_at version) (HasRules tree) (spell_rules tree)) same (rules-found tree fits has.form)) λ rules has_rules.
    let rows : length tree.typemap ≡ symbols.types.nprim = has.rows ∙ sym (table-prims symbols.types _ has_symbols.types) in
    finds-part _ (subst (λ (version : ℕ). FindsAgain (label_lists_at version symbols.types.nprim) (HasLabels tree) (spell_labels tree)) same (labels-found tree symbols.types.nprim fits has.infiniband rows)) λ labels has_labels.
    finds-part _ (end-found END_END) λ ended is_ended.
    finds-done _ (tree-same tree (record { front = front; symbols = symbols; rules = rules; labels = labels }) long has_front has_symbols has_rules has_labels))
    (simp (append_assoc, append-nil))

-- ---- acceptance

not-shapeless : (wrong : Option Field) (others : Option Unsound) → unless_shapeless wrong others ≡ None → (wrong ≡ None) × (others ≡ None)
not-shapeless None others e = (refl, e)
not-shapeless (Some field) others e = absurd cc

not-refused : (result : Result Parts Fault) → refusal_of result ≡ None → (policy : Parts) × (result ≡ Ok policy)
not-refused (Ok policy) e = (policy, refl)
not-refused (Err fault) e = absurd cc

bytes-accepted : (few : Bool) (result : Result Parts Fault) → (if few then refusal_of result else Some TooLong) ≡ None → (policy : Parts) × (result ≡ Ok policy)
bytes-accepted true result e = not-refused result e
bytes-accepted false result e = absurd cc

found-there : {A : Type 0} (Q : A → Type 0) (n : ℕ) (o : Outcome A) (x : A) (next : ℕ) → Finds Q n o → o ≡ Got x next → Q x
found-there {A} Q n o x next h e = (subst (λ (o : Outcome A). Finds Q n o) e h).0

pub sound_is_accepted : (tree : Tree) → IsSound tree → (policy : Parts) × (accept (spell tree) ≡ Ok policy) × (tree_of policy ≡ tree)
unfolding unsound
sound_is_accepted tree sound =
    let none = not-shapeless (shape tree) (unsound_bytes (spell tree)) sound.accepted in
    let accepted = bytes-accepted (nat_le (length (spell tree)) MAX_POLICY_BYTES) (accept (spell tree)) none.1 in
    let was = accepted_was_read (spell tree) accepted.0 accepted.1 in
    let found = (tree-found tree sound.fits none.0).finds [] [] in
    let whole : policy_at (spell tree ++ []) 0 ≡ Got accepted.0 was.next = rw append-nil was.read in
    (accepted.0, accepted.1, found-there (λ policy. tree_of policy ≡ tree) (0 + length (spell tree)) (policy_at (spell tree ++ []) 0) accepted.0 was.next found whole)
