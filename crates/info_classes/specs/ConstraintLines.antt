-- The lines of constraints, as seinfo of SETools prints them: those on permissions, and those on a change of context.
use Rattle.std.specs.Prelude.{ℕ, ◌==◌, ◌&&◌, nat_eq, Bool, if◌then◌else◌, Option, option_map, List, [], ◌∷◌, ◌++◌, map, codes}
use Rattle.std.specs.List.{flat_map, list_any}
use Rattle.pol_cursor.specs.References.{Placed}
use Rattle.pol_constraints.specs.declared.codes.TheConstants.{CEXPR_ATTR, CEXPR_L1L2, CEXPR_L1H2, CEXPR_H1L2, CEXPR_H1H2, CEXPR_L1H1, CEXPR_L2H2}
use Rattle.pol_constraints.specs.declared.ConstraintItem.{ConstraintItem}
use Rattle.pol_constraints.specs.declared.ConstraintRec.{ConstraintRec}
use Rattle.pol_classes.specs.declared.ClassRec.{ClassRec}
use Rattle.pol_symbols.specs.declared.symbols.Symbols.{Symbols}
use Rattle.pol_symbols.specs.PolicySymbols.{name_in, permissions_of}
use Rattle.info_lines.specs.PermissionSets.{permissions_text}
use Rattle.info_classes.specs.declared.constraint_entry.ConstraintKind.{ConstraintKind}
use Rattle.info_classes.specs.declared.constraint_entry.ConstraintKind.TheVariants.{OnPermissions, OnChange}
use Rattle.info_classes.specs.declared.constraint_entry.ConstraintEntry.{ConstraintEntry}
use Rattle.info_classes.specs.RecordOrder.{classes_listed}
use Rattle.pol_constraints.specs.ConstraintTexts.{constraint_text}

-- ---- parts of a line

-- two sides are levels
unfoldable pub is_level_pair : ℕ → Bool
is_level_pair attr = list_any (nat_eq attr) (CEXPR_L1L2 ∷ CEXPR_L1H2 ∷ CEXPR_H1L2 ∷ CEXPR_H1H2 ∷ CEXPR_L1H1 ∷ CEXPR_L2H2 ∷ [])

abbrev pub compares_levels : ConstraintItem → Bool
compares_levels item = item.kind == CEXPR_ATTR && is_level_pair item.attr

-- a constraint that compares levels is one of MLS (checkpolicy's mlsconstrain and mlsvalidatetrans)
abbrev pub mls_word : List ConstraintItem → List ℕ
mls_word items = if list_any compares_levels items then codes "mls" else []

-- what a constraint is about: a class and permissions on it, or a class
abbrev pub subject_text : Symbols → ConstraintKind → ConstraintEntry → List ℕ
subject_text symbols OnPermissions entry =
    codes "constrain " ++ entry.class.value.name ++ codes " " ++ permissions_text entry.constraint.permissions (permissions_of symbols entry.class.value)
subject_text symbols OnChange entry = codes "validatetrans " ++ entry.class.value.name

-- ---- a line

-- constrain CLASS PERMISSIONS (EXPRESSION); or validatetrans CLASS (EXPRESSION);
unfoldable pub constraint_line : Symbols → ConstraintKind → ConstraintEntry → List ℕ
constraint_line symbols kind entry =
    mls_word entry.constraint.items ++ subject_text symbols kind entry ++ codes " (" ++ constraint_text (name_in symbols) entry.constraint.items ++ codes ");"

-- ---- the listings

-- the constraints of a kind of a class, in file order
abbrev pub constraints_of : ConstraintKind → ClassRec → List ConstraintRec
constraints_of OnPermissions class = class.constraints
constraints_of OnChange class = class.validatetrans

-- each with its class
abbrev pub entries_of : ConstraintKind → Placed ClassRec → List ConstraintEntry
entries_of kind class = map (λ constraint. record { class = class; constraint = constraint }) (constraints_of kind class.value)

abbrev pub entries_in : ConstraintKind → List (Placed ClassRec) → List ConstraintEntry
entries_in kind classes = flat_map (entries_of kind) classes

-- the constraints of all classes in the order of the classes' names, or of the class that a name finds, if it finds one
unfoldable pub constraint_listing : Symbols → ConstraintKind → Option (List ℕ) → Option (List (List ℕ))
constraint_listing symbols kind name = option_map (λ classes. map (constraint_line symbols kind) (entries_in kind classes)) (classes_listed symbols name)
