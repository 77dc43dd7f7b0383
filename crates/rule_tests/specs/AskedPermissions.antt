-- How the permissions of a rule meet a criterion: by their names (SETools' manual page of sesearch).
use Rattle.std.specs.Prelude.{ℕ, Bool, ◌&&◌, List, [], ◌∷◌, map, codes}
use Rattle.std.specs.Str.{bytes_eq}
use Rattle.std.specs.List.{filter, list_any, list_all}
use Rattle.pol_commons.specs.Permissions.{has_permission}
use Rattle.pol_symbols.specs.PolicySymbols.{permissions_in_class}
use Rattle.pol_symbols.specs.declared.Symbols.{Symbols}
use Rattle.pol_read.specs.declared.RulePart.{RulePart}
use Rattle.pol_read.specs.declared.RulePart.TheVariants.{Perms, Numbers}
use Rattle.rule_criteria.specs.Elements.{elements_of}
use Rattle.rule_criteria.specs.declared.Criterion.{Criterion}
use Rattle.rule_criteria.specs.declared.Mode.{Mode}
use Rattle.rule_criteria.specs.declared.Mode.TheVariants.{Equal, Subset}

-- ---- sets of names

abbrev pub is_one_of : List (List ℕ) → List ℕ → Bool
is_one_of names name = list_any (bytes_eq name) names

-- Of two sets of names, those that are asked and those that a rule has: they are equal, the first is a part of the second, or they share one.
abbrev pub compare_names : Mode → List (List ℕ) → List (List ℕ) → Bool
compare_names Equal asked has = list_all (is_one_of asked) has && list_all (is_one_of has) asked
compare_names Subset asked has = list_all (is_one_of has) asked
compare_names other asked has = list_any (is_one_of has) asked

-- ---- the permissions of a rule

-- the names of the permissions of a class that a mask has, its own and those of its common
abbrev pub names_in_mask : Symbols → ℕ → ℕ → List (List ℕ)
names_in_mask symbols class mask = map (λ permission. permission.name) (filter (has_permission mask) (permissions_in_class symbols class))

-- the permissions that a rule of a class shows: a rule of extended permissions has the one permission ioctl, and transitions and role allows have none
abbrev pub permission_names : Symbols → ℕ → RulePart → List (List ℕ)
permission_names symbols class (Perms mask) = names_in_mask symbols class mask
permission_names symbols class (Numbers numbers) = codes "ioctl" ∷ []
permission_names symbols class other = []

abbrev pub meets_permissions : Symbols → Criterion → ℕ → RulePart → Bool
meets_permissions symbols criterion class part = compare_names criterion.mode (elements_of criterion.text) (permission_names symbols class part)
