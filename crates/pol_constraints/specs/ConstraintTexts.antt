-- The text of a constraint (this project's profile, in the words of the policy language).
use Rattle.std.specs.Prelude.{ℕ, ◌+◌, ◌^◌, ◌==◌, ◌||◌, nat_lt, if◌then◌else◌, Option, Some, None, List, ◌++◌, map, codes}
use Rattle.std.specs.List.{flat_map}
use Rattle.std.specs.Option.{option_to_list}
use Rattle.pol_fields.specs.declared.table_kind.TableKind.{TableKind}
use Rattle.pol_fields.specs.declared.table_kind.TableKind.TheVariants.{Users, Roles, Types}
use Rattle.pol_cursor.specs.References.{Named}
use Rattle.pol_bitmap.specs.declared.node.Node.{Node}
use Rattle.pol_bitmap.specs.Nodes.{bits_of}
use Rattle.pol_texts.specs.NameLists.{in_order}
use Rattle.pol_texts.specs.SetTexts.{set_text}
use Rattle.pol_expr.specs.declared.Symbol.{Symbol}
use Rattle.pol_expr.specs.declared.Symbol.TheVariants as symbols
use Rattle.pol_expr.specs.Infix.{Words, symbols_text}
use Rattle.pol_expr.specs.Trees.{Tree}
use Rattle.pol_constraints.specs.declared.codes.TheConstants.{CEXPR_NOT, CEXPR_AND, CEXPR_OR, CEXPR_EQ, CEXPR_NEQ, CEXPR_DOM, CEXPR_DOMBY}
use Rattle.pol_constraints.specs.declared.codes.TheConstants.{CEXPR_USER, CEXPR_ROLE, CEXPR_TYPE, CEXPR_TARGET, CEXPR_XTARGET, CEXPR_L1L2, CEXPR_L1H2, CEXPR_H1L2, CEXPR_H1H2, CEXPR_L1H1}
use Rattle.pol_constraints.specs.declared.junction.Junction.{Junction}
use Rattle.pol_constraints.specs.declared.junction.Junction.TheVariants.{And, Or}
use Rattle.pol_constraints.specs.declared.constraint_rec.ConstraintItem.{ConstraintItem}

-- a tree whose leaves are texts
abbrev pub ConstraintTree : Type 0
ConstraintTree = Tree (List ℕ) Junction

abbrev pub junction_text : Junction → List ℕ
junction_text And = codes " and "
junction_text Or = codes " or "

abbrev pub constraint_words : Words (List ℕ) Junction
constraint_words = record { leaf = λ text. text; negation = codes "not "; between = junction_text }

-- ---- words

-- the two sides of a comparison, by what they are: u user, r role, t type, l low level and h high level, 1 of the source and 2 of the target
abbrev pub left_word : ℕ → List ℕ
left_word attr =
    if attr == CEXPR_USER then codes "u1"
    else if attr == CEXPR_ROLE then codes "r1"
    else if attr == CEXPR_TYPE then codes "t1"
    else if attr == CEXPR_L1L2 || attr == CEXPR_L1H2 || attr == CEXPR_L1H1 then codes "l1"
    else if attr == CEXPR_H1L2 || attr == CEXPR_H1H2 then codes "h1"
    else codes "l2"

abbrev pub right_word : ℕ → List ℕ
right_word attr =
    if attr == CEXPR_USER then codes "u2"
    else if attr == CEXPR_ROLE then codes "r2"
    else if attr == CEXPR_TYPE then codes "t2"
    else if attr == CEXPR_L1L2 || attr == CEXPR_H1L2 then codes "l2"
    else if attr == CEXPR_L1H1 then codes "h1"
    else codes "h2"

-- what is looked for among names, 3 of the third context
abbrev pub side_word : ℕ → List ℕ
side_word attr =
    if attr == CEXPR_USER then codes "u1"
    else if attr == CEXPR_ROLE then codes "r1"
    else if attr == CEXPR_TYPE then codes "t1"
    else if attr == CEXPR_USER + CEXPR_TARGET then codes "u2"
    else if attr == CEXPR_ROLE + CEXPR_TARGET then codes "r2"
    else if attr == CEXPR_TYPE + CEXPR_TARGET then codes "t2"
    else if attr == CEXPR_USER + CEXPR_XTARGET then codes "u3"
    else if attr == CEXPR_ROLE + CEXPR_XTARGET then codes "r3"
    else codes "t3"

-- the table of the names
abbrev pub side_table : ℕ → TableKind
side_table attr =
    if attr == CEXPR_USER || attr == CEXPR_USER + CEXPR_TARGET || attr == CEXPR_USER + CEXPR_XTARGET then Users
    else if attr == CEXPR_ROLE || attr == CEXPR_ROLE + CEXPR_TARGET || attr == CEXPR_ROLE + CEXPR_XTARGET then Roles
    else Types

abbrev pub op_word : ℕ → List ℕ
op_word op =
    if op == CEXPR_EQ then codes " == "
    else if op == CEXPR_NEQ then codes " != "
    else if op == CEXPR_DOM then codes " dom "
    else if op == CEXPR_DOMBY then codes " domby "
    else codes " incomp "

-- ---- sets of names

-- the name that a bit stands for, where a record declares it: bit v - 1 stands for the value v, which has 32 bits
abbrev pub name_of_bit : Named → TableKind → ℕ → Option (List ℕ)
name_of_bit named table bit = if nat_lt (bit + 1) (2 ^ 32) then named table (bit + 1) else None

abbrev pub names_of : Named → TableKind → List ℕ → List (List ℕ)
names_of named table bits = flat_map (λ bit. option_to_list (name_of_bit named table bit)) bits

-- the names that bits stand for, as a set: those that no record declares are left out
abbrev pub bit_names_text : Named → TableKind → List ℕ → List ℕ
bit_names_text named table bits = set_text (in_order (names_of named table bits))

-- ---- items

-- an item that compares two sides, or a side with names
abbrev pub comparison_text : Named → ConstraintItem → Option (List Node) → List ℕ
comparison_text named item None = left_word item.attr ++ op_word item.op ++ right_word item.attr
comparison_text named item (Some set) = side_word item.attr ++ op_word item.op ++ bit_names_text named (side_table item.attr) (bits_of set)

-- what an item stands for, by its kind
abbrev pub constraint_symbol : Named → ConstraintItem → Symbol (List ℕ) Junction
constraint_symbol named item =
    if item.kind == CEXPR_NOT then symbols.Not
    else if item.kind == CEXPR_AND then symbols.Binary And
    else if item.kind == CEXPR_OR then symbols.Binary Or
    else symbols.Leaf (comparison_text named item item.names)

abbrev pub constraint_symbols : Named → List ConstraintItem → List (Symbol (List ℕ) Junction)
constraint_symbols named items = map (constraint_symbol named) items

-- the text of items: that of the one tree that they stand for (`constraints_have_one_tree`)
unfoldable pub constraint_text : Named → List ConstraintItem → List ℕ
constraint_text named items = symbols_text constraint_words (constraint_symbols named items)
