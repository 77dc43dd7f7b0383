-- What differs between the constraints of two policies, and its lines (this project's own).
use Rattle.std.specs.Prelude.{ℕ, ◌==◌, not, Bool, true, false, Option, Some, None, List, [], ◌∷◌, ◌++◌, map, codes, if◌then◌else◌}
use Rattle.std.specs.List.{filter_map, flat_map}
use Rattle.std.specs.Ordering.{is_eq}
use Rattle.pol_file.specs.declared.parts.Parts.{Parts}
use Rattle.pol_texts.specs.SetTexts.{set_text}
use Rattle.info_classes.specs.declared.ConstraintKind.{ConstraintKind}
use Rattle.info_classes.specs.declared.ConstraintKind.TheVariants.{OnPermissions, OnChange}
use Rattle.keyed_lists.specs.Differences.{differences}
use Rattle.diff_entries.specs.Parts.{same_names}
use Rattle.diff_entries.specs.Changes.{set_change}
use Rattle.diff_constraints.specs.declared.keyword.ConstraintKeyword.{ConstraintKeyword}
use Rattle.diff_constraints.specs.StatedConstraints.{Stated, constraint_key_cmp, keyword_text, kind_of, stated_cmp, stated_in}

-- ---- the constraints that one of two policies has alone

-- a constraint of one policy, of the second if it is new
pub record Sole : Type 0 where
  pub is_new : Bool
  pub stated : Stated

abbrev pub sole_with : Option Stated → Option Stated → Option Sole
sole_with (Some old) None = Some (record { is_new = false; stated = old })
sole_with None (Some new) = Some (record { is_new = true; stated = new })
sole_with first second = None

-- The constraints that say what none of the other policy says, rising: one that stands twice says no more than once.
unfoldable pub constraints_alone : List Stated → List Stated → List Sole
constraints_alone first second = filter_map (λ both. sole_with both.first both.second) (differences stated_cmp (λ s. s) (λ a b. true) first second)

-- ---- those of one key

abbrev pub same_key : Sole → Sole → Bool
same_key a b = is_eq (constraint_key_cmp a.stated b.stated)

-- One more in front of groups stands in the first of them, if it has its key, and is a group of its own otherwise.
abbrev pub with_sole : Sole → List (List Sole) → List (List Sole)
with_sole a [] = (a ∷ []) ∷ []
with_sole a ([] ∷ groups) = (a ∷ []) ∷ groups
with_sole a ((b ∷ group) ∷ groups) = if same_key a b then (a ∷ b ∷ group) ∷ groups else (a ∷ []) ∷ (b ∷ group) ∷ groups

-- Constraints of one key stand behind one another, since they rise by their keys: they are a group.
abbrev pub grouped : List Sole → List (List Sole)
grouped [] = []
grouped (a ∷ soles) = with_sole a (grouped soles)

-- ---- what has become of them

-- A constraint is removed or added, or an old one is modified to a new one.
pub data ConstraintChange : Type 0 where
  Alone : Sole → ConstraintChange
  Modified : Stated → Stated → ConstraintChange

abbrev pub changes_of_two : Bool → Bool → Sole → Sole → List ConstraintChange
changes_of_two false true a b = Modified a.stated b.stated ∷ []
changes_of_two true false a b = Modified b.stated a.stated ∷ []
changes_of_two false false a b = Alone a ∷ Alone b ∷ []
changes_of_two true true a b = Alone a ∷ Alone b ∷ []

-- Where a key has one old constraint and one new, it is modified; otherwise each is removed or added.
abbrev pub changes_of_group : List Sole → List ConstraintChange
changes_of_group (a ∷ b ∷ []) = changes_of_two a.is_new b.is_new a b
changes_of_group group = map Alone group

unfoldable pub constraint_changes : List Stated → List Stated → List ConstraintChange
constraint_changes first second = flat_map changes_of_group (grouped (constraints_alone first second))

-- the two policies turned round
abbrev pub turned_sole : Sole → Sole
turned_sole sole = record { is_new = not sole.is_new; stated = sole.stated }

abbrev pub turned_change : ConstraintChange → ConstraintChange
turned_change (Alone sole) = Alone (turned_sole sole)
turned_change (Modified old new) = Modified new old

-- ---- the lines

-- A text whose sets are { }, with one of some pieces in place of each, in turn. It is gone through byte by byte, within a set or not.
abbrev pub filled : Bool → List (List ℕ) → List ℕ → List ℕ
filled within pieces [] = []
filled true pieces (byte ∷ text) = filled (not (byte == 0x7d)) pieces text
filled false [] (byte ∷ text) = byte ∷ filled false [] text
filled false (piece ∷ pieces) (byte ∷ text) = if byte == 0x7b then piece ++ filled true pieces text else byte ∷ filled false (piece ∷ pieces) text

-- a set as it stands in both policies, or else what it has become
abbrev pub set_piece : List (List ℕ) → List (List ℕ) → List ℕ
set_piece old new = if same_names old new then set_text old else set_change old new

abbrev pub set_pieces : List (List (List ℕ)) → List (List (List ℕ)) → List (List ℕ)
set_pieces (old ∷ sets) (new ∷ others) = set_piece old new ∷ set_pieces sets others
set_pieces sets others = []

-- what a constraint is about: a class and permissions on it, or a class
abbrev pub subject_stated : ConstraintKind → Stated → List ℕ
subject_stated OnPermissions s = s.class ++ codes " " ++ s.permissions
subject_stated OnChange s = s.class

-- KEYWORD CLASS PERMISSIONS (EXPRESSION); with these texts in place of the sets
abbrev pub line_with : ConstraintKeyword → Stated → List (List ℕ) → List ℕ
line_with keyword s pieces = keyword_text keyword ++ subject_stated (kind_of keyword) s ++ codes " (" ++ filled false pieces s.skeleton ++ codes ");"

-- * KEYWORD CLASS PERMISSIONS (EXPRESSION); with what the sets have become in their place
abbrev pub modified_line : ConstraintKeyword → Stated → Stated → List ℕ
modified_line keyword old new = codes "* " ++ line_with keyword old (set_pieces old.sets new.sets)

abbrev pub sign_text : Bool → List ℕ
sign_text is_new = if is_new then codes "+ " else codes "- "

-- + LINE or - LINE where a constraint is added or removed
abbrev pub change_line : ConstraintKeyword → ConstraintChange → List ℕ
change_line keyword (Alone sole) = sign_text sole.is_new ++ sole.stated.line
change_line keyword (Modified old new) = modified_line keyword old new

-- the lines of what differs from the constraints of a policy to those of another
unfoldable pub constraint_lines : ConstraintKeyword → Parts → Parts → List (List ℕ)
constraint_lines keyword first second = map (change_line keyword) (constraint_changes (stated_in keyword first.symbols) (stated_in keyword second.symbols))
