-- What constraints say, by names, so that those of two policies can be compared.
use Rattle.std.specs.Prelude.{ℕ, not, Bool, true, false, Option, None, option_map, List, [], map, codes}
use Rattle.std.specs.List.{filter, filter_map, list_any}
use Rattle.std.specs.declared.cmp.Ordering.{Ordering}
use Rattle.std.specs.Ordering.{on, then_cmp}
use Rattle.std.specs.Cmp.{IsTotalOrder}
use Rattle.std.specs.Cmp.Lexicographic.{on_texts, slice_cmp}
use Rattle.std.proofs.lemmas.Cmp.{lists_total, nat_list_cmp_total, on_total, then_total}
use Rattle.pol_fields.specs.declared.TableKind.TheVariants.{Classes}
use Rattle.pol_cursor.specs.References.{Named}
use Rattle.pol_bitmap.specs.Nodes.{bits_of}
use Rattle.pol_constraints.specs.declared.ConstraintItem.{ConstraintItem}
use Rattle.pol_constraints.specs.ConstraintTexts.{constraint_text, side_table}
use Rattle.pol_symbols.specs.declared.symbols.Symbols.{Symbols}
use Rattle.pol_symbols.specs.PolicySymbols.{permissions_of}
use Rattle.info_lines.specs.NameOrder.{primary_numbers}
use Rattle.info_lines.specs.NameSets.{names_of_bits}
use Rattle.info_lines.specs.PermissionSets.{permissions_text}
use Rattle.info_classes.specs.declared.ConstraintEntry.{ConstraintEntry}
use Rattle.info_classes.specs.declared.ConstraintKind.{ConstraintKind}
use Rattle.info_classes.specs.declared.ConstraintKind.TheVariants.{OnPermissions, OnChange}
use Rattle.info_classes.specs.ConstraintLines.{compares_levels, constraint_line, entries_in}
use Rattle.info_classes.specs.RecordOrder.{records_at}
use Rattle.diff_entries.specs.Entries.{name_cmp, key_cmp}
use Rattle.diff_constraints.specs.declared.keyword.ConstraintKeyword.{ConstraintKeyword}
use Rattle.diff_constraints.specs.declared.keyword.ConstraintKeyword.TheVariants.{Constrain, MlsConstrain, ValidateTrans, MlsValidateTrans}

-- ---- keywords

abbrev pub keyword_text : ConstraintKeyword → List ℕ
keyword_text Constrain = codes "constrain "
keyword_text MlsConstrain = codes "mlsconstrain "
keyword_text ValidateTrans = codes "validatetrans "
keyword_text MlsValidateTrans = codes "mlsvalidatetrans "

-- what the constraints of a keyword are on
abbrev pub kind_of : ConstraintKeyword → ConstraintKind
kind_of Constrain = OnPermissions
kind_of MlsConstrain = OnPermissions
kind_of ValidateTrans = OnChange
kind_of MlsValidateTrans = OnChange

-- whether they compare levels
abbrev pub is_mls : ConstraintKeyword → Bool
is_mls Constrain = false
is_mls MlsConstrain = true
is_mls ValidateTrans = false
is_mls MlsValidateTrans = true

abbrev pub same_as : Bool → Bool → Bool
same_as true b = b
same_as false b = not b

-- a constraint compares levels where the keyword's do
abbrev pub has_keyword : ConstraintKeyword → ConstraintEntry → Bool
has_keyword keyword entry = same_as (is_mls keyword) (list_any compares_levels entry.constraint.items)

-- the constraints of a keyword, of all classes of a policy
unfoldable pub constraints_with : ConstraintKeyword → Symbols → List ConstraintEntry
constraints_with keyword symbols = filter (has_keyword keyword) (entries_in (kind_of keyword) (records_at symbols.classes.records (primary_numbers symbols Classes)))

-- ---- what a constraint says

-- The name of its class; the set of its permissions, or nothing where it is on a change of context; the text of its expression with
-- { } in place of each set of names; its line; and its sets of names, in the order in which they stand in the expression.
pub record Stated : Type 0 where
  pub class : List ℕ
  pub permissions : List ℕ
  pub skeleton : List ℕ
  pub line : List ℕ
  pub sets : List (List (List ℕ))

abbrev pub permissions_stated : Symbols → ConstraintKind → ConstraintEntry → List ℕ
permissions_stated symbols OnPermissions entry = permissions_text entry.constraint.permissions (permissions_of symbols entry.class.value)
permissions_stated symbols OnChange entry = []

-- where no value has a name, each set has the text { }
abbrev pub no_names : Named
no_names table value = None

-- the set of an item, where it compares with one
abbrev pub item_set : Symbols → ConstraintItem → Option (List (List ℕ))
item_set symbols item = option_map (λ names. names_of_bits symbols (side_table item.attr) (bits_of names)) item.names

abbrev pub sets_of : Symbols → List ConstraintItem → List (List (List ℕ))
sets_of symbols items = filter_map (item_set symbols) items

unfoldable pub stated : ConstraintKeyword → Symbols → ConstraintEntry → Stated
stated keyword symbols entry = record {
  class = entry.class.value.name;
  permissions = permissions_stated symbols (kind_of keyword) entry;
  skeleton = constraint_text no_names entry.constraint.items;
  line = constraint_line symbols (kind_of keyword) entry;
  sets = sets_of symbols entry.constraint.items;
}

-- what the constraints of a policy say
unfoldable pub stated_in : ConstraintKeyword → Symbols → List Stated
stated_in keyword symbols = map (stated keyword symbols) (constraints_with keyword symbols)

-- ---- their order

-- The key of a constraint is its class, its permissions, and the text with { }.
abbrev pub constraint_key_cmp : Stated → Stated → Ordering
constraint_key_cmp = then_cmp (on (λ s. s.class) name_cmp) (then_cmp (on (λ s. s.permissions) name_cmp) (on (λ s. s.skeleton) name_cmp))

-- Constraints are compared by their keys, then by their lines, and then by their sets.
abbrev pub stated_cmp : Stated → Stated → Ordering
stated_cmp = then_cmp constraint_key_cmp (then_cmp (on (λ s. s.line) name_cmp) (on (λ s. s.sets) (slice_cmp key_cmp)))

-- Both are orders.
pub key_total : IsTotalOrder constraint_key_cmp
key_total = then_total (on_texts (λ (s : Stated). s.class)) (then_total (on_texts (λ (s : Stated). s.permissions)) (on_texts (λ (s : Stated). s.skeleton)))

pub stated_total : IsTotalOrder stated_cmp
stated_total = then_total key_total (then_total (on_texts (λ (s : Stated). s.line)) (on_total (λ (s : Stated). s.sets) (lists_total (lists_total nat_list_cmp_total))))
