-- Which criteria are refused by their names and numbers: each name has to be there in every table in which it is looked up, and each number
-- has to be one. Which tables these are depends on the kinds of rules that are asked (this project's own).
use Rattle.std.specs.Prelude.{ℕ, Bool, true, false, not, ◌&&◌, ◌||◌, Option, Some, None, List, [], ◌∷◌, is_some, map, if◌then◌else◌}
use Rattle.std.specs.List.{list_any, list_all, filter}
use Rattle.pol_fields.specs.declared.TableKind.{TableKind}
use Rattle.pol_fields.specs.declared.TableKind.TheVariants.{Classes, Booleans}
use Rattle.pol_commons.specs.declared.PermissionRec.{PermissionRec}
use Rattle.pol_symbols.specs.PolicySymbols.{value_in}
use Rattle.pol_symbols.specs.declared.Symbols.{Symbols}
use Rattle.pol_read.specs.declared.RuleKind.{RuleKind}
use Rattle.pol_read.specs.declared.RuleKind.TheVariants.{Allow, Auditallow, Dontaudit, AllowXperm, AuditallowXperm, DontauditXperm, TypeTransition, TypeChange, TypeMember, RoleAllow, RoleTransition, RangeTransition}
use Rattle.pol_read.specs.RuleKinds.{default_table, source_table, target_table}
use Rattle.rule_criteria.specs.Elements.{elements_of}
use Rattle.rule_criteria.specs.Modes.{is_pattern}
use Rattle.rule_query.specs.declared.given.Aspect.{Aspect}
use Rattle.rule_query.specs.declared.given.Aspect.TheVariants as aspects
use Rattle.rule_query.specs.declared.refusing.Refusal.{Refusal}
use Rattle.rule_query.specs.declared.refusing.Refusal.TheVariants.{NotThere, NoNumber}
use Rattle.rule_query.specs.GivenCriteria.{Given}
use Rattle.rule_tests.specs.AskedKinds.{is_kind_asked}
use Rattle.rule_tests.specs.AskedPermissions.{is_one_of}
use Rattle.rule_tests.specs.AskedNumbers.{span_of}

-- ---- the kinds of rules

-- all of them, which have a source and a target each
abbrev pub all_kinds : List RuleKind
all_kinds = Allow ∷ Auditallow ∷ Dontaudit ∷ AllowXperm ∷ AuditallowXperm ∷ DontauditXperm ∷ TypeTransition ∷ TypeChange ∷ TypeMember ∷ RoleAllow ∷ RoleTransition ∷ RangeTransition ∷ []

-- the kinds whose rules have a default
abbrev pub default_kinds : List RuleKind
default_kinds = TypeTransition ∷ TypeChange ∷ TypeMember ∷ RoleTransition ∷ []

-- ---- names

-- a table has no record of the name
abbrev pub is_missing : Symbols → TableKind → List ℕ → Bool
is_missing symbols table name = not (is_some (value_in symbols table name))

-- A name is looked up in the table of each kind that is asked, of some kinds, and is missing in one of them.
abbrev pub is_end_missing : Symbols → List Bool → List RuleKind → (RuleKind → TableKind) → List ℕ → Bool
is_end_missing symbols kinds some table_of name = list_any (λ kind. is_kind_asked kinds kind && is_missing symbols (table_of kind) name) some

-- a permission of the name is among some
abbrev pub is_permission_of : List PermissionRec → List ℕ → Bool
is_permission_of permissions name = is_one_of (map (λ permission. permission.name) permissions) name

-- a class or a common has a permission of the name
abbrev pub is_permission : Symbols → List ℕ → Bool
is_permission symbols name = list_any (λ class. is_permission_of class.value.permissions name) symbols.classes.records || list_any (λ common. is_permission_of common.value.permissions name) symbols.commons.records

-- ---- refusals

-- criteria of permissions and of numbers are no patterns
abbrev pub may_be_pattern : Aspect → Bool
may_be_pattern aspects.Permissions = false
may_be_pattern aspects.Numbers = false
may_be_pattern other = true

abbrev pub is_pattern_word : Given → Bool
is_pattern_word given = may_be_pattern given.aspect && is_pattern given.criterion.mode

abbrev pub refuse_if : Bool → Refusal → Option Refusal
refuse_if test refusal = if test then Some refusal else None

-- why a criterion that is no pattern is refused
abbrev pub refusal_of_names : Symbols → List Bool → Aspect → List ℕ → Option Refusal
refusal_of_names symbols kinds aspects.Source text = refuse_if (is_end_missing symbols kinds all_kinds source_table text) NotThere
refusal_of_names symbols kinds aspects.Target text = refuse_if (is_end_missing symbols kinds all_kinds target_table text) NotThere
refusal_of_names symbols kinds aspects.Class text = refuse_if (list_any (is_missing symbols Classes) (elements_of text)) NotThere
refusal_of_names symbols kinds aspects.Permissions text = refuse_if (not (list_all (is_permission symbols) (elements_of text))) NotThere
refusal_of_names symbols kinds aspects.Numbers text = refuse_if (not (list_all (λ element. is_some (span_of element)) (elements_of text))) NoNumber
refusal_of_names symbols kinds aspects.Default text = refuse_if (is_end_missing symbols kinds default_kinds default_table text) NotThere
refusal_of_names symbols kinds aspects.Booleans text = refuse_if (list_any (is_missing symbols Booleans) (elements_of text)) NotThere

-- a pattern is not refused so
unfoldable pub refusal_of : Symbols → List Bool → Given → Option Refusal
refusal_of symbols kinds given = if is_pattern_word given then None else refusal_of_names symbols kinds given.aspect given.criterion.text

-- ---- the first refusal

-- a word that is refused, and why
pub record RefusedWord : Type 0 where
  pub word : ℕ
  pub refusal : Refusal

abbrev pub refused_at : ℕ → Option Refusal → Option RefusedWord → Option RefusedWord
refused_at word None others = others
refused_at word (Some refusal) others = Some (record { word = word; refusal = refusal })

-- the first of them that is refused by its names or numbers
abbrev pub first_refused : Symbols → List Bool → List Given → Option RefusedWord
first_refused symbols kinds [] = None
first_refused symbols kinds (given ∷ others) = refused_at given.criterion.word (refusal_of symbols kinds given) (first_refused symbols kinds others)

-- ---- patterns

-- the texts of the pattern words
abbrev pub pattern_texts : List Given → List (List ℕ)
pattern_texts all = map (λ given. given.criterion.text) (filter is_pattern_word all)
