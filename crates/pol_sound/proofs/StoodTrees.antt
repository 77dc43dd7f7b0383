-- Where the parts of a sound tree stand in its bytes.
use Rattle.std.proofs.Common.{◌≡◌, ℕ, ◌+◌, List, [], ◌++◌, length, refl, sym, ap, subst, ◌∙◌}
use Rattle.std.specs.Prelude.{slice_index}
use Rattle.std.proofs.lemmas.List.{append-nil}
use Rattle.pol_fields.specs.declared.fields.TheConstants.{IBPKEY_COUNT, IBENDPORT_COUNT, BITMAP_UNIT, END_END}
use Rattle.pol_datums.specs.declared.TypeRec.{TypeRec}
use Rattle.pol_symtab.specs.SymbolTables.{BareTable}
use Rattle.pol_symbols.specs.declared.Symbols.{Symbols}
use Rattle.pol_symbols.specs.PolicySymbols.{symbols_at}
use Rattle.pol_trans.specs.NameTransitions.{has_groups}
use Rattle.pol_contexts.specs.ContextTables.{has_infiniband}
use Rattle.pol_file.specs.declared.Parts.{Parts}
use Rattle.pol_file.specs.declared.Front.{Front}
use Rattle.pol_file.specs.declared.HeaderRec.{HeaderRec}
use Rattle.pol_file.specs.declared.RuleLists.{RuleLists}
use Rattle.pol_file.specs.declared.LabelLists.{LabelLists}
use Rattle.pol_file.specs.PolicyParts.{front_at, policy_at, rule_lists_at, label_lists_at}
use Rattle.pol_tree.specs.declared.Tree.{Tree}
use Rattle.pol_tree.specs.PolicyTree.{tree_of}
use Rattle.pol_tree.specs.TreeRanges.{TreeFits}
use Rattle.pol_tree.specs.TreeSpelling.{spell_front, spell_symbols, spell_rules, spell_labels}
use Rattle.pol_write.proofs.Findings.{FindsAgain, finds-part, finds-done, finds-as}
use Rattle.pol_write.proofs.FoundParts.{HasFront, HasSymbols, HasRules, HasLabels, front-found, symbols-found, rules-found, labels-found}
use Rattle.pol_write.proofs.FoundTree.{HasShape, list-empty, one-form, end-found}
use Rattle.pol_moved.proofs.Stood.{Stood, stood-last}
use Rattle.pol_moved.proofs.Stood.{stood-found}
use Rattle.pol_sound.proofs.KeptDeclared.{HasParts}
use Rattle.pol_sound.proofs.KeptShape.{ShapedParts, rows-same}

-- ---- what was read of a tree

-- a policy has the parts of its tree
pub own-parts : (policy : Parts) → HasParts (tree_of policy) policy
unfolding tree_of
own-parts policy = record {
  symbols = record { commons = refl; classes = refl; roles = refl; types = refl; users = refl; booleans = refl; levels = refl; categories = refl };
  rules = record { avtab = refl; condlist = refl; roletrans = refl; roleallow = refl; names = record { entries = refl; groups = refl } };
  labels = record {
    contexts = record { sid = refl; fs = refl; port = refl; netif = refl; node = refl; fsuse = refl; node6 = refl; ibpkey = refl; ibendport = refl };
    genfs = refl;
    rangetrans = refl;
    typemap = refl;
  };
}

-- ---- where its parts stood

pub record StoodTree (tree : Tree) : Type 0 where
  pub front : Front
  pub front_stood : Stood front_at front (spell_front tree)
  pub symbols : Symbols
  pub symbols_stood : Stood (symbols_at tree.version) symbols (spell_symbols tree)
  pub rules : RuleLists
  pub rules_stood : Stood (rule_lists_at tree.version) rules (spell_rules tree)
  pub labels : LabelLists
  pub labels_stood : Stood (label_lists_at tree.version (slice_index tree.nprims 3)) labels (spell_labels tree)

-- what the shape of a tree says of its lists
pub has-lists : (tree : Tree) → ShapedParts tree → HasShape tree
has-lists tree parts = record {
  form = one-form (has_groups tree.version) tree parts.nametrans parts.namegroup;
  infiniband = record {
    ibpkey = list-empty (has_infiniband tree.version) tree.ibpkey IBPKEY_COUNT parts.contexts.has_ibpkey;
    ibendport = list-empty (has_infiniband tree.version) tree.ibendport IBENDPORT_COUNT parts.contexts.has_ibendport;
  };
  rows = rows-same (length tree.typemap) (slice_index tree.nprims 3) BITMAP_UNIT parts.rows;
}

module _ (tree : Tree) (fits : TreeFits tree) (lists : HasShape tree) where
  version-was : (front : Front) → HasFront tree front → tree.version ≡ front.header.version
  version-was front has = ap (λ (header : HeaderRec). header.version) (sym has.header)

  types-were : (symbols : Symbols) → HasSymbols tree symbols → slice_index tree.nprims 3 ≡ symbols.types.nprim
  types-were symbols has = sym (ap (λ (t : BareTable TypeRec). t.nprim) has.types)

  symbols-there : (version : ℕ) → tree.version ≡ version → FindsAgain (symbols_at version) (HasSymbols tree) (spell_symbols tree)
  symbols-there version same = subst (λ (version : ℕ). FindsAgain (symbols_at version) (HasSymbols tree) (spell_symbols tree)) same (symbols-found tree fits)

  rules-found-there : (version : ℕ) → tree.version ≡ version → FindsAgain (rule_lists_at version) (HasRules tree) (spell_rules tree)
  rules-found-there version same = subst (λ (version : ℕ). FindsAgain (rule_lists_at version) (HasRules tree) (spell_rules tree)) same (rules-found tree fits lists.form)

  labels-there : (version types : ℕ) → tree.version ≡ version → slice_index tree.nprims 3 ≡ types → FindsAgain (label_lists_at version types) (HasLabels tree) (spell_labels tree)
  labels-there version types same are = subst (λ (version : ℕ). FindsAgain (label_lists_at version types) (HasLabels tree) (spell_labels tree)) same (labels-found tree types fits lists.infiniband (lists.rows ∙ are))

  -- the parts of its text
  abbrev pub parts_text : List ℕ
  parts_text = spell_front tree ++ (spell_symbols tree ++ (spell_rules tree ++ spell_labels tree))

  pub policy-there : FindsAgain policy_at (λ policy. Unit {0}) parts_text
  unfolding policy_at
  policy-there =
      finds-as
      (finds-part _ (front-found tree fits) λ front has_front.
      let same = version-was front has_front in
      finds-part _ (symbols-there front.header.version same) λ symbols has_symbols.
      finds-part _ (rules-found-there front.header.version same) λ rules has_rules.
      finds-part _ (labels-there front.header.version symbols.types.nprim same (types-were symbols has_symbols)) λ labels has_labels.
      finds-part _ (end-found END_END) λ ended is_ended.
      finds-done _ tt)
      (simp append-nil)

  pub stood-tree : (policy : Parts) → Stood policy_at policy parts_text → StoodTree tree
  unfolding policy_at
  stood-tree policy stood =
      let front = stood-found _ (spell_symbols tree ++ (spell_rules tree ++ spell_labels tree)) (front-found tree fits) stood in
      let same = version-was front.value front.is in
      let symbols = stood-found _ (spell_rules tree ++ spell_labels tree) (symbols-there front.value.header.version same) front.others in
      let rules = stood-found _ (spell_labels tree) (rules-found-there front.value.header.version same) symbols.others in
      let types = types-were symbols.value symbols.is in
      let labels = stood-found _ [] (labels-there front.value.header.version symbols.value.types.nprim same types) (stood-last rules.others) in
      record {
        front = front.value;
        front_stood = front.first;
        symbols = symbols.value;
        symbols_stood = subst (λ (version : ℕ). Stood (symbols_at version) symbols.value (spell_symbols tree)) (sym same) symbols.first;
        rules = rules.value;
        rules_stood = subst (λ (version : ℕ). Stood (rule_lists_at version) rules.value (spell_rules tree)) (sym same) rules.first;
        labels = labels.value;
        labels_stood = subst (λ (version : ℕ). Stood (label_lists_at version (slice_index tree.nprims 3)) labels.value (spell_labels tree)) (sym same)
            (subst (λ (types : ℕ). Stood (label_lists_at front.value.header.version types) labels.value (spell_labels tree)) (sym types) labels.first);
      }
