-- The line of a constraint is its text with { } in place of the sets, filled with the texts of the sets.
use Rattle.std.proofs.Common.{◌≡◌, ℕ, ◌+◌, ◌^◌, Bool, true, false, cond, Option, Some, None, option_map, List, [], ◌∷◌, ◌++◌, map, refl, sym, ap, subst, ◌∙◌, append_assoc, eqb-true}
use Rattle.std.specs.Prelude.{if◌then◌else◌, ◌==◌, ◌||◌, ◌&&◌, not, codes, nat_lt}
use Rattle.std.specs.Option.{option_to_list}
use Rattle.std.specs.List.{AllByRecursion, cons_option, filter_map, list_all, list_any}
use Rattle.std.proofs.lemmas.List.{append-nil, map-append}
use Rattle.std.proofs.lemmas.List.Elements.{filter_map-append}
use Rattle.pol_fields.specs.declared.TableKind.{TableKind}
use Rattle.pol_cursor.specs.Parts.{OptionFits}
use Rattle.pol_cursor.specs.References.{Named}
use Rattle.pol_bitmap.specs.declared.Node.{Node}
use Rattle.pol_bitmap.specs.Bitmap.{BitmapFits}
use Rattle.pol_bitmap.specs.Nodes.{bits_of}
use Rattle.pol_expr.specs.declared.Symbol.{Symbol}
use Rattle.pol_expr.specs.declared.Symbol.TheVariants as kinds
use Rattle.pol_expr.specs.Trees.{Tree, Leaf, Not, Binary, operand_count, postorder}
use Rattle.pol_expr.specs.Infix.{Words, enclosed, infix_of, is_binary}
use Rattle.pol_expr.proofs.Stacks.{IsPostfix-map, some_tree}
use Rattle.pol_texts.specs.NameLists.{in_order}
use Rattle.pol_texts.specs.SetTexts.{set_text}
use Rattle.pol_constraints.specs.declared.codes.TheConstants.{CEXPR_NOT, CEXPR_AND, CEXPR_OR, CEXPR_NAMES, CEXPR_MAXDEPTH, CEXPR_EQ, CEXPR_NEQ, CEXPR_DOM, CEXPR_DOMBY}
use Rattle.pol_constraints.specs.declared.codes.TheConstants.{CEXPR_USER, CEXPR_ROLE, CEXPR_TYPE, CEXPR_TARGET, CEXPR_XTARGET, CEXPR_L1L2, CEXPR_L1H2, CEXPR_H1L2, CEXPR_H1H2, CEXPR_L1H1}
use Rattle.pol_constraints.specs.declared.Junction.{Junction}
use Rattle.pol_constraints.specs.declared.Junction.TheVariants.{And, Or}
use Rattle.pol_constraints.specs.declared.ConstraintItem.{ConstraintItem}
use Rattle.pol_constraints.specs.ConstraintRecord.{ConstraintFits, IsConstraint, ItemFits, item_operands}
use Rattle.pol_constraints.specs.ConstraintTexts.{ConstraintTree, comparison_text, constraint_symbols, constraint_text, constraint_words, junction_text, left_word, names_of, op_word, right_word, side_table, side_word}
use Rattle.pol_constraints.proofs.ConstraintTexts.{tree_is_text}
use Rattle.pol_symbols.specs.declared.symbols.Symbols.{Symbols}
use Rattle.pol_symbols.specs.PolicySymbols.{name_in}
use Rattle.info_lines.specs.NameSets.{names_of_bits, names_of_values, value_of_bit, values_of_bits}
use Rattle.info_classes.specs.declared.ConstraintEntry.{ConstraintEntry}
use Rattle.info_classes.specs.ConstraintLines.{compares_levels, constraint_line, subject_text}
use Rattle.diff_constraints.specs.declared.keyword.ConstraintKeyword.{ConstraintKeyword}
use Rattle.diff_constraints.specs.declared.keyword.ConstraintKeyword.TheVariants.{Constrain, MlsConstrain, ValidateTrans, MlsValidateTrans}
use Rattle.diff_constraints.specs.StatedConstraints.{has_keyword, is_mls, item_set, keyword_text, kind_of, no_names, same_as, sets_of, stated}
use Rattle.diff_constraints.specs.ConstraintDifferences.{filled, line_with, subject_stated}

-- ---- a text with { } that is filled with the texts of sets

abbrev Sets : Type 0
Sets = List (List (List ℕ))

-- filling the first text with these sets gives the second, whatever stands behind
Fills : Sets → List ℕ → List ℕ → Type 0
Fills sets text full = (pieces : List (List ℕ)) (rest : List ℕ) → filled false (map set_text sets ++ pieces) (text ++ rest) ≡ full ++ filled false pieces rest

abbrev is_plain : List ℕ → Bool
is_plain text = list_all (λ byte. not (byte == 0x7b)) text

-- a byte that is no brace stays
passed : (byte : ℕ) (b : Bool) → not (byte == 0x7b) ≡ b → b ≡ true → (pieces : List (List ℕ)) (text : List ℕ) → filled false pieces (byte ∷ text) ≡ byte ∷ filled false pieces text
passed byte b is plain [] text = refl
passed byte b is plain (piece ∷ pieces) text = by (byte == 0x7b) (is ∙ plain)
  where
    by : (t : Bool) → not t ≡ true → cond t (piece ++ filled true pieces text) (byte ∷ filled false (piece ∷ pieces) text) ≡ byte ∷ filled false (piece ∷ pieces) text
    by true e = absurd cc
    by false e = refl

both_plain : (a b : Bool) → (a && b) ≡ true → (a ≡ true) × (b ≡ true)
both_plain true b e = (refl, e)
both_plain false b e = absurd cc

plain : (text : List ℕ) → is_plain text ≡ true → Fills [] text text
unfolding Fills
plain [] e pieces rest = refl
plain (byte ∷ text) e pieces rest =
    let h = both_plain (not (byte == 0x7b)) (is_plain text) e in
    passed byte (not (byte == 0x7b)) refl h.0 pieces (text ++ rest) ∙ ap (λ (ys : List ℕ). byte ∷ ys) (plain text h.1 pieces rest)

behind : (sets others : Sets) (text full more all : List ℕ) → Fills sets text full → Fills others more all → Fills (sets ++ others) (text ++ more) (full ++ all)
unfolding Fills
behind sets others text full more all h k pieces rest =
    rw (map-append set_text sets others, append_assoc (map set_text sets) (map set_text others) pieces, append_assoc text more rest, append_assoc full all (filled false pieces rest))
    (h (map set_text others ++ pieces) (more ++ rest) ∙ ap (λ (ys : List ℕ). full ++ ys) (k pieces rest))

within_parens : (sets : Sets) (b : Bool) (text full : List ℕ) → Fills sets text full → Fills sets (enclosed b text) (enclosed b full)
within_parens sets false text full h = h
within_parens sets true text full h =
    subst (λ (ss : Sets). Fills ss (codes "(" ++ text ++ codes ")") (codes "(" ++ full ++ codes ")")) (append-nil sets)
    (behind sets [] (codes "(" ++ text) (codes "(" ++ full) (codes ")") (codes ")") (behind [] sets (codes "(") (codes "(") text full (plain (codes "(") refl) h) (plain (codes ")") refl))

-- ---- the words of comparisons have no brace

left_by : (a b c d e : Bool) → is_plain (cond a (codes "u1") (cond b (codes "r1") (cond c (codes "t1") (cond d (codes "l1") (cond e (codes "h1") (codes "l2")))))) ≡ true
left_by true b c d e = refl
left_by false true c d e = refl
left_by false false true d e = refl
left_by false false false true e = refl
left_by false false false false true = refl
left_by false false false false false = refl

left_plain : (attr : ℕ) → is_plain (left_word attr) ≡ true
left_plain attr = left_by (attr == CEXPR_USER) (attr == CEXPR_ROLE) (attr == CEXPR_TYPE) (attr == CEXPR_L1L2 || attr == CEXPR_L1H2 || attr == CEXPR_L1H1) (attr == CEXPR_H1L2 || attr == CEXPR_H1H2)

right_by : (a b c d e : Bool) → is_plain (cond a (codes "u2") (cond b (codes "r2") (cond c (codes "t2") (cond d (codes "l2") (cond e (codes "h1") (codes "h2")))))) ≡ true
right_by true b c d e = refl
right_by false true c d e = refl
right_by false false true d e = refl
right_by false false false true e = refl
right_by false false false false true = refl
right_by false false false false false = refl

right_plain : (attr : ℕ) → is_plain (right_word attr) ≡ true
right_plain attr = right_by (attr == CEXPR_USER) (attr == CEXPR_ROLE) (attr == CEXPR_TYPE) (attr == CEXPR_L1L2 || attr == CEXPR_H1L2) (attr == CEXPR_L1H1)

side_by : (a b c d e f g h : Bool)
    → is_plain (cond a (codes "u1") (cond b (codes "r1") (cond c (codes "t1") (cond d (codes "u2") (cond e (codes "r2") (cond f (codes "t2") (cond g (codes "u3") (cond h (codes "r3") (codes "t3"))))))))) ≡ true
side_by true b c d e f g h = refl
side_by false true c d e f g h = refl
side_by false false true d e f g h = refl
side_by false false false true e f g h = refl
side_by false false false false true f g h = refl
side_by false false false false false true g h = refl
side_by false false false false false false true h = refl
side_by false false false false false false false true = refl
side_by false false false false false false false false = refl

side_plain : (attr : ℕ) → is_plain (side_word attr) ≡ true
side_plain attr =
    side_by (attr == CEXPR_USER) (attr == CEXPR_ROLE) (attr == CEXPR_TYPE) (attr == CEXPR_USER + CEXPR_TARGET) (attr == CEXPR_ROLE + CEXPR_TARGET) (attr == CEXPR_TYPE + CEXPR_TARGET)
    (attr == CEXPR_USER + CEXPR_XTARGET) (attr == CEXPR_ROLE + CEXPR_XTARGET)

op_by : (a b c d : Bool) → is_plain (cond a (codes " == ") (cond b (codes " != ") (cond c (codes " dom ") (cond d (codes " domby ") (codes " incomp "))))) ≡ true
op_by true b c d = refl
op_by false true c d = refl
op_by false false true d = refl
op_by false false false true = refl
op_by false false false false = refl

op_plain : (op : ℕ) → is_plain (op_word op) ≡ true
op_plain op = op_by (op == CEXPR_EQ) (op == CEXPR_NEQ) (op == CEXPR_DOM) (op == CEXPR_DOMBY)

between_plain : (o : Junction) → is_plain (junction_text o) ≡ true
between_plain And = refl
between_plain Or = refl

-- ---- leaves

none_named : (table : TableKind) (bits : List ℕ) → names_of no_names table bits ≡ []
none_named table [] = refl
none_named table (bit ∷ bits) = by (nat_lt (bit + 1) (2 ^ 32)) (none_named table bits)
  where
    by : (b : Bool) → names_of no_names table bits ≡ [] → option_to_list (cond b None None) ++ names_of no_names table bits ≡ []
    by true rest = rest
    by false rest = rest

same_named : (named : Named) (table : TableKind) (bits : List ℕ) → names_of named table bits ≡ filter_map (named table) (values_of_bits bits)
unfolding values_of_bits
same_named named table [] = refl
same_named named table (bit ∷ bits) = by (nat_lt (bit + 1) (2 ^ 32)) (named table (bit + 1)) (same_named named table bits) refl
  where
    by : (b : Bool) (o : Option (List ℕ)) → names_of named table bits ≡ filter_map (named table) (filter_map value_of_bit bits) → named table (bit + 1) ≡ o
        → option_to_list (cond b (named table (bit + 1)) None) ++ names_of named table bits ≡ filter_map (named table) (cons_option (cond b (Some (bit + 1)) None) (filter_map value_of_bit bits))
    by true None rest is = rw is rest
    by true (Some name) rest is = rw is (ap (λ (names : List (List ℕ)). name ∷ names) rest)
    by false o rest is = rest

braces : (s : Symbols) (table : TableKind) (bits : List ℕ) → Fills (names_of_bits s table bits ∷ []) (set_text (in_order (names_of no_names table bits))) (set_text (in_order (names_of (name_in s) table bits)))
unfolding Fills names_of_values
braces s table bits pieces rest = rw (none_named table bits, same_named (name_in s) table bits) refl

leaf_fills : (s : Symbols) (item : ConstraintItem) (o : Option (List Node))
    → Fills (cons_option (option_map (λ names. names_of_bits s (side_table item.attr) (bits_of names)) o) []) (comparison_text no_names item o) (comparison_text (name_in s) item o)
leaf_fills s item None =
    let left = left_word item.attr in
    let op = op_word item.op in
    let right = right_word item.attr in
    behind [] [] (left ++ op) (left ++ op) right right (behind [] [] left left op op (plain left (left_plain item.attr)) (plain op (op_plain item.op))) (plain right (right_plain item.attr))
leaf_fills s item (Some names) =
    let side = side_word item.attr in
    let op = op_word item.op in
    let table = side_table item.attr in
    behind [] (names_of_bits s table (bits_of names) ∷ []) (side ++ op) (side ++ op) (set_text (in_order (names_of no_names table (bits_of names)))) (set_text (in_order (names_of (name_in s) table (bits_of names))))
    (behind [] [] side side op op (plain side (side_plain item.attr)) (plain op (op_plain item.op))) (braces s table (bits_of names))

-- ---- trees

abbrev ItemTree : Type 0
ItemTree = Tree ConstraintItem Junction

abbrev leaf_words : Named → Words ConstraintItem Junction
leaf_words named = record { leaf = λ item. comparison_text named item item.names; negation = codes "not "; between = junction_text }

abbrev symbol_set : Symbols → Symbol ConstraintItem Junction → Option (List (List ℕ))
symbol_set s (kinds.Leaf item) = item_set s item
symbol_set s kinds.Not = None
symbol_set s (kinds.Binary o) = None

abbrev tree_sets : Symbols → ItemTree → Sets
tree_sets s t = filter_map (symbol_set s) (postorder t)

tree_fills : (s : Symbols) (t : ItemTree) → Fills (tree_sets s t) (infix_of (leaf_words no_names) t) (infix_of (leaf_words (name_in s)) t)
unfolding infix_of postorder
tree_fills s (Leaf item) = leaf_fills s item item.names
tree_fills s (Not t) =
    let text = enclosed (is_binary t) (infix_of (leaf_words no_names) t) in
    let full = enclosed (is_binary t) (infix_of (leaf_words (name_in s)) t) in
    subst (λ (ss : Sets). Fills ss (codes "not " ++ text) (codes "not " ++ full)) (sym (filter_map-append (symbol_set s) (postorder t) (kinds.Not ∷ []) ∙ append-nil (tree_sets s t)))
    (behind [] (tree_sets s t) (codes "not ") (codes "not ") text full (plain (codes "not ") refl) (within_parens (tree_sets s t) (is_binary t) (infix_of (leaf_words no_names) t) (infix_of (leaf_words (name_in s)) t) (tree_fills s t)))
tree_fills s (Binary o l r) =
    let left = enclosed (is_binary l) (infix_of (leaf_words no_names) l) in
    let whole = enclosed (is_binary l) (infix_of (leaf_words (name_in s)) l) in
    let right = enclosed (is_binary r) (infix_of (leaf_words no_names) r) in
    let all = enclosed (is_binary r) (infix_of (leaf_words (name_in s)) r) in
    let f = symbol_set s in
    let same : tree_sets s l ++ [] ++ tree_sets s r ≡ filter_map f (postorder l ++ postorder r ++ kinds.Binary o ∷ []) =
    rw (append-nil (tree_sets s l)) (sym (filter_map-append f (postorder l ++ postorder r) (kinds.Binary o ∷ []) ∙ append-nil (filter_map f (postorder l ++ postorder r)) ∙ filter_map-append f (postorder l) (postorder r))) in
    subst (λ (ss : Sets). Fills ss (left ++ junction_text o ++ right) (whole ++ junction_text o ++ all)) same
    (behind (tree_sets s l ++ []) (tree_sets s r) (left ++ junction_text o) (whole ++ junction_text o) right all
    (behind (tree_sets s l) [] left whole (junction_text o) (junction_text o) (within_parens (tree_sets s l) (is_binary l) (infix_of (leaf_words no_names) l) (infix_of (leaf_words (name_in s)) l) (tree_fills s l)) (plain (junction_text o) (between_plain o)))
    (within_parens (tree_sets s r) (is_binary r) (infix_of (leaf_words no_names) r) (infix_of (leaf_words (name_in s)) r) (tree_fills s r)))

-- ---- the tree of the items of a constraint

abbrev item_symbol : ConstraintItem → Symbol ConstraintItem Junction
item_symbol item = if item.kind == CEXPR_NOT then kinds.Not else if item.kind == CEXPR_AND then kinds.Binary And else if item.kind == CEXPR_OR then kinds.Binary Or else kinds.Leaf item

operands_by : (a b c : Bool) (item : ConstraintItem)
    → cond a 1 (cond (b || c) 2 0) ≡ operand_count {V = ConstraintItem} {O = Junction} (cond a kinds.Not (cond b (kinds.Binary And) (cond c (kinds.Binary Or) (kinds.Leaf item))))
operands_by true b c item = refl
operands_by false true c item = refl
operands_by false false true item = refl
operands_by false false false item = refl

item_tree : (items : List ConstraintItem) → IsConstraint items → (t : ItemTree) × (postorder t ≡ map item_symbol items)
item_tree items h =
    some_tree CEXPR_MAXDEPTH (map item_symbol items)
    (IsPostfix-map item_symbol item_operands operand_count CEXPR_MAXDEPTH 0 items (λ item. operands_by (item.kind == CEXPR_NOT) (item.kind == CEXPR_AND) (item.kind == CEXPR_OR) item) h)

-- ---- its text

abbrev named_symbol : Named → Symbol ConstraintItem Junction → Symbol (List ℕ) Junction
named_symbol named (kinds.Leaf item) = kinds.Leaf (comparison_text named item item.names)
named_symbol named kinds.Not = kinds.Not
named_symbol named (kinds.Binary o) = kinds.Binary o

abbrev named_tree : Named → ItemTree → ConstraintTree
named_tree named (Leaf item) = Leaf (comparison_text named item item.names)
named_tree named (Not t) = Not (named_tree named t)
named_tree named (Binary o l r) = Binary o (named_tree named l) (named_tree named r)

named_by : (named : Named) (a b c : Bool) (item : ConstraintItem)
    → cond a kinds.Not (cond b (kinds.Binary And) (cond c (kinds.Binary Or) (kinds.Leaf (comparison_text named item item.names))))
    ≡ named_symbol named (cond a kinds.Not (cond b (kinds.Binary And) (cond c (kinds.Binary Or) (kinds.Leaf item))))
named_by named true b c item = refl
named_by named false true c item = refl
named_by named false false true item = refl
named_by named false false false item = refl

named_symbols : (named : Named) (items : List ConstraintItem) → map (named_symbol named) (map item_symbol items) ≡ constraint_symbols named items
named_symbols named [] = refl
named_symbols named (item ∷ items) = rw (named_by named (item.kind == CEXPR_NOT) (item.kind == CEXPR_AND) (item.kind == CEXPR_OR) item, named_symbols named items) refl

named_postorder : (named : Named) (t : ItemTree) → postorder (named_tree named t) ≡ map (named_symbol named) (postorder t)
unfolding postorder
named_postorder named (Leaf item) = refl
named_postorder named (Not t) = rw (named_postorder named t) (sym (map-append (named_symbol named) (postorder t) (kinds.Not ∷ [])))
named_postorder named (Binary o l r) =
    rw (named_postorder named l, named_postorder named r)
    (sym (map-append (named_symbol named) (postorder l ++ postorder r) (kinds.Binary o ∷ []) ∙ ap (λ (ss : List (Symbol (List ℕ) Junction)). ss ++ kinds.Binary o ∷ []) (map-append (named_symbol named) (postorder l) (postorder r))))

same_shape : (named : Named) (t : ItemTree) → is_binary (named_tree named t) ≡ is_binary t
same_shape named (Leaf item) = refl
same_shape named (Not t) = refl
same_shape named (Binary o l r) = refl

same_infix : (named : Named) (t : ItemTree) → infix_of constraint_words (named_tree named t) ≡ infix_of (leaf_words named) t
unfolding infix_of
same_infix named (Leaf item) = refl
same_infix named (Not t) = rw (same_shape named t, same_infix named t) refl
same_infix named (Binary o l r) = rw (same_shape named l, same_shape named r, same_infix named l, same_infix named r) refl

text_of_tree : (named : Named) (items : List ConstraintItem) (t : ItemTree) → postorder t ≡ map item_symbol items → constraint_text named items ≡ infix_of (leaf_words named) t
text_of_tree named items t e =
    tree_is_text named items (named_tree named t) (named_postorder named t ∙ ap (map (named_symbol named)) e ∙ named_symbols named items) ∙ same_infix named t

-- ---- its sets

none_if : (P : List Node → Type 0) (b : Bool) (o : Option (List Node)) → OptionFits b P o → b ≡ false → o ≡ None
none_if P b None h off = refl
none_if P b (Some names) h off = let same : true ≡ false = sym h.0 ∙ off in absurd cc

-- an operator has no names
operator_has_none : (version : ℕ) (item : ConstraintItem) (k : ℕ) → ItemFits version item → (k == CEXPR_NAMES) ≡ false → (item.kind == k) ≡ true → item.names ≡ None
operator_has_none version item k fits off e = none_if BitmapFits (item.kind == CEXPR_NAMES) item.names fits.names (ap (λ kind. kind == CEXPR_NAMES) (eqb-true item.kind k e) ∙ off)

set_by : (s : Symbols) (item : ConstraintItem) (a b c : Bool) → (a ≡ true → item.names ≡ None) → (b ≡ true → item.names ≡ None) → (c ≡ true → item.names ≡ None)
    → symbol_set s (cond a kinds.Not (cond b (kinds.Binary And) (cond c (kinds.Binary Or) (kinds.Leaf item)))) ≡ item_set s item
set_by s item true b c x y z = rw (x refl) refl
set_by s item false true c x y z = rw (y refl) refl
set_by s item false false true x y z = rw (z refl) refl
set_by s item false false false x y z = refl

same_sets : (s : Symbols) (version : ℕ) (items : List ConstraintItem) → AllByRecursion (ItemFits version) items → filter_map (symbol_set s) (map item_symbol items) ≡ sets_of s items
same_sets s version [] h = refl
same_sets s version (item ∷ items) h =
    let one : symbol_set s (item_symbol item) ≡ item_set s item =
    set_by s item (item.kind == CEXPR_NOT) (item.kind == CEXPR_AND) (item.kind == CEXPR_OR) (operator_has_none version item CEXPR_NOT h.0 refl) (operator_has_none version item CEXPR_AND h.0 refl) (operator_has_none version item CEXPR_OR h.0 refl) in
    rw (one, same_sets s version items h.1) refl

-- ---- the line

text_filled : (s : Symbols) (version : ℕ) (items : List ConstraintItem) → IsConstraint items → AllByRecursion (ItemFits version) items
    → filled false (map set_text (sets_of s items)) (constraint_text no_names items) ≡ constraint_text (name_in s) items
unfolding Fills
text_filled s version items is fits =
    let tree = item_tree items is in
    let t = tree.0 in
    let sets : tree_sets s t ≡ sets_of s items = ap (filter_map (symbol_set s)) tree.1 ∙ same_sets s version items fits in
    let text = text_of_tree no_names items t tree.1 in
    let full = text_of_tree (name_in s) items t tree.1 in
    let skeleton = infix_of (leaf_words no_names) t in
    let pieces = map set_text (tree_sets s t) in
    let whole : filled false pieces skeleton ≡ infix_of (leaf_words (name_in s)) t =
    sym (ap (λ (ps : List (List ℕ)). filled false ps skeleton) (append-nil pieces))
    ∙ sym (ap (λ (text : List ℕ). filled false (pieces ++ []) text) (append-nil skeleton))
    ∙ tree_fills s t [] [] ∙ append-nil (infix_of (leaf_words (name_in s)) t) in
    rw (← sets, text, full) whole

keyword_by : (b : Bool) (symbols : Symbols) (entry : ConstraintEntry) (text : List ℕ) (keyword : ConstraintKeyword) → same_as (is_mls keyword) b ≡ true
    → (if b then codes "mls" else []) ++ subject_text symbols (kind_of keyword) entry ++ codes " (" ++ text ++ codes ");"
    ≡ keyword_text keyword ++ subject_stated (kind_of keyword) (stated keyword symbols entry) ++ codes " (" ++ text ++ codes ");"
unfolding stated
keyword_by false symbols entry text Constrain e = refl
keyword_by true symbols entry text Constrain e = absurd cc
keyword_by false symbols entry text MlsConstrain e = absurd cc
keyword_by true symbols entry text MlsConstrain e = refl
keyword_by false symbols entry text ValidateTrans e = refl
keyword_by true symbols entry text ValidateTrans e = absurd cc
keyword_by false symbols entry text MlsValidateTrans e = absurd cc
keyword_by true symbols entry text MlsValidateTrans e = refl

pub line_filled : (keyword : ConstraintKeyword) (symbols : Symbols) (version : ℕ) (entry : ConstraintEntry) → IsConstraint entry.constraint.items → ConstraintFits version entry.constraint → has_keyword keyword entry ≡ true
    → (stated keyword symbols entry).line ≡ line_with keyword (stated keyword symbols entry) (map set_text (stated keyword symbols entry).sets)
unfolding stated constraint_line
line_filled keyword symbols version entry is fits has =
    keyword_by (list_any compares_levels entry.constraint.items) symbols entry (constraint_text (name_in symbols) entry.constraint.items) keyword has
    ∙ ap (λ (text : List ℕ). keyword_text keyword ++ subject_stated (kind_of keyword) (stated keyword symbols entry) ++ codes " (" ++ text ++ codes ");") (sym (text_filled symbols version entry.constraint.items is fits.items))
