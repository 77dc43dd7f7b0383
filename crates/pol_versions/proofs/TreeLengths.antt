-- How many bytes a tree has with more file-name transitions.
use Rattle.std.proofs.Common.{◌≡◌, ℕ, ◌+◌, ◌-◌, ◌^◌, ◌<◌, ◌≤◌, Bool, nat_lt, inl, inr, true, false, Some, None, List, [], ◌++◌, length, refl, sym, ap, ◌∙◌, arith, if◌then◌else◌}
use Rattle.std.specs.Prelude.{min}
use Rattle.pol_fields.specs.declared.limits.TheConstants.{MAX_POLICY_BYTES}
use Rattle.std.proofs.lemmas.Bool.{cases_lt, lt-ltb, ltb-true}
use Rattle.std.proofs.lemmas.List.{length-append}
use Rattle.pol_cursor.specs.Parts.{spell_counted}
use Rattle.pol_cursor.proofs.Numbers.{length-bytes_of}
use Rattle.pol_bitmap.specs.declared.Node.{Node}
use Rattle.pol_trans.specs.declared.NameTransRec.{NameTransRec}
use Rattle.pol_trans.specs.NameTransRecord.{spell_name_trans}
use Rattle.pol_trans.specs.NameGroupRecord.{spell_name_group}
use Rattle.pol_trans.specs.NameTransitions.{has_groups}
use Rattle.pol_convert.specs.Ungrouped.{entries_length, ungrouped}
use Rattle.pol_tree.specs.declared.Tree.{Tree}
use Rattle.pol_tree.specs.TreeSpelling.{spell_front, spell_symbols, spell_rules, spell_contexts, spell_labels, spell}
use Rattle.pol_versions.specs.Inner.Steps.{bare}
use Rattle.pol_versions.specs.Conversion.{too_long, values_of_types, with_entries}
use Rattle.pol_unheld.specs.declared.Unheld.TheVariants.{TooLong}

counted_length : (entries : List NameTransRec) → length (spell_counted spell_name_trans entries) ≡ length (spell_counted spell_name_trans []) + entries_length entries
counted_length entries = grind (
  arith,
  length-append,
  length-bytes_of 4 (length entries),
  length-bytes_of 4 0,
)

names_length : (grouped : Bool) (groups : List ℕ) (entries : List NameTransRec) → grouped ≡ false → length (if grouped then groups else spell_counted spell_name_trans entries) ≡ length (if grouped then groups else spell_counted spell_name_trans []) + entries_length entries
names_length true groups entries e = absurd cc
names_length false groups entries e = counted_length entries

rules_length : (tree : Tree) (entries : List NameTransRec) → has_groups tree.version ≡ false → length (spell_rules (record tree { nametrans = entries })) ≡ length (spell_rules (record tree { nametrans = [] })) + entries_length entries
unfolding spell_rules
rules_length tree entries e = grind (
  arith,
  length-append,
  names_length (has_groups tree.version) (spell_counted spell_name_group tree.namegroup) entries e,
)

same_front : (tree : Tree) (entries : List NameTransRec) → spell_front (record tree { nametrans = entries }) ≡ spell_front tree
unfolding spell_front
same_front tree entries = refl

same_symbols : (tree : Tree) (entries : List NameTransRec) → spell_symbols (record tree { nametrans = entries }) ≡ spell_symbols tree
unfolding spell_symbols
same_symbols tree entries = refl

same_labels : (tree : Tree) (entries : List NameTransRec) → spell_labels (record tree { nametrans = entries }) ≡ spell_labels tree
unfolding spell_labels spell_contexts
same_labels tree entries = refl

around : (front symbols rules labels other : List ℕ) (more : ℕ) → length rules ≡ length other + more → length (front ++ symbols ++ rules ++ labels) ≡ length (front ++ symbols ++ other ++ labels) + more
around front symbols rules labels other more e = grind (arith, length-append, e)

pub entries_add : (tree : Tree) (entries : List NameTransRec) → has_groups tree.version ≡ false → length (spell (record tree { nametrans = entries })) ≡ length (spell (record tree { nametrans = [] })) + entries_length entries
unfolding spell
entries_add tree entries e =
    rw (same_front tree entries, same_front tree [], same_symbols tree entries, same_symbols tree [], same_labels tree entries, same_labels tree [])
    (around (spell_front tree) (spell_symbols tree) (spell_rules (record tree { nametrans = entries })) (spell_labels tree) (spell_rules (record tree { nametrans = [] })) (entries_length entries) (rules_length tree entries e))

-- ---- whether a tree is within the limit

above : (a b : ℕ) → a < b → nat_lt a b ≡ true
above a b lt = lt-ltb a b lt

below : (a b : ℕ) → b ≤ a → nat_lt a b ≡ false
below a b le = grind (arith, ltb-true)

-- a count that stops at the greatest number
pub count_stops : (bytes : ℕ) → nat_lt MAX_POLICY_BYTES (min bytes (2 ^ 64 - 1)) ≡ nat_lt MAX_POLICY_BYTES bytes
count_stops bytes = elim (cases_lt MAX_POLICY_BYTES bytes) [
  | inl long ↦ above MAX_POLICY_BYTES (min bytes (2 ^ 64 - 1)) (omega (arith, long)) ∙ sym (above MAX_POLICY_BYTES bytes long)
  | inr fits ↦ below MAX_POLICY_BYTES (min bytes (2 ^ 64 - 1)) (omega (arith, fits)) ∙ sym (below MAX_POLICY_BYTES bytes fits)
]

-- the sum of two such counts
pub sum_stops : (a others : ℕ) → nat_lt MAX_POLICY_BYTES (min (min a (2 ^ 64 - 1) + min others (2 ^ 64 - 1)) (2 ^ 64 - 1)) ≡ nat_lt MAX_POLICY_BYTES (others + a)
sum_stops a others =
    let sum : min (min a (2 ^ 64 - 1) + min others (2 ^ 64 - 1)) (2 ^ 64 - 1) ≡ min (others + a) (2 ^ 64 - 1) = omega arith in
    ap (λ (n : ℕ). nat_lt MAX_POLICY_BYTES n) sum ∙ count_stops (others + a)

-- ---- the answer with entries

-- it is too long exactly where the count said it
pub with_them_too_long : (tree : Tree) (declared : List Node) (long : Bool) → has_groups tree.version ≡ false → declared ≡ values_of_types tree.types
    → long ≡ nat_lt MAX_POLICY_BYTES (length (spell (bare tree)) + entries_length (ungrouped declared tree.namegroup)) → too_long (with_entries tree) ≡ (if long then Some TooLong else None)
unfolding too_long
with_them_too_long tree declared long plain values said =
    let bytes = entries_add (bare tree) (ungrouped (values_of_types tree.types) tree.namegroup) plain in
    rw (said, values, bytes) refl
