-- The types of files that a domain has one of some permissions of, by the rules that give them.
use Rattle.std.proofs.Common.{◌≡◌, ℕ, ◌+◌, ◌<◌, ◌≤◌, Bool, true, false, List, [], ◌∷◌, Option, Some, None, Result, Ok, Err, IfOk, length, get_or, slice_get, refl, sym, ap, subst, ◌∙◌}
use Rattle.std.proofs.Math.Path.{fun_ext}
use Rattle.std.specs.Prelude.{◌&&◌, ◌||◌, ◌==◌, not, option_map}
use Rattle.std.specs.List.{All, Contains, filter, list_any, range_with_len}
use Rattle.std.specs.List.Sorted.{IsPermutation}
use Rattle.std.proofs.lemmas.Bool.{and_from, and_parts, eq-eqb, eqb-false, eqb-true, false≢true, ne_eqb}
use Rattle.std.proofs.lemmas.List.Elements.{All-contains, All-weaker, filter_passes}
use Rattle.std.proofs.lemmas.List.Sorted.{All-permutation, Contains-permutation, IsPermutation-sym}
use Rattle.pol_bitmap.specs.declared.Node.{Node}
use Rattle.pol_bitmap.specs.Nodes.{bits_of}
use Rattle.pol_bitmap.specs.Sets.{IsCommon, IsDifference, IsSet}
use Rattle.pol_bitmap.proofs.Elements.{contains_range, kept, keeps}
use Rattle.pol_fields.specs.declared.TableKind.TheVariants.{Classes}
use Rattle.pol_commons.specs.Permissions.{mask_has}
use Rattle.pol_symtab.proofs.Searches.{not_true}
use Rattle.pol_symbols.specs.declared.Symbols.{Symbols}
use Rattle.pol_symbols.specs.PolicySymbols.{permission_value_in, value_in}
use Rattle.pol_file.specs.declared.Parts.{Parts}
use Rattle.pol_file.specs.Acceptance.{accept}
use Rattle.pol_file.proofs.Acceptances.{accepted_has_type_values}
use Rattle.pol_read.specs.declared.RuleEnds.{RuleEnds}
use Rattle.pol_read.specs.declared.RuleKind.{RuleKind}
use Rattle.pol_read.specs.declared.RuleKind.TheVariants.{Allow}
use Rattle.pol_read.specs.declared.RulePart.{RulePart}
use Rattle.pol_read.specs.declared.RulePart.TheVariants.{Perms}
use Rattle.pol_read.specs.StoredRules.{StoredRule, ends_of, stored_rules}
use Rattle.pol_read.proofs.RulesDeclared.{rule_is_declared, rule_with_ends}
use Rattle.pol_expand.specs.Inner.StoredEnds.{IsEnd}
use Rattle.pol_expand.specs.JoinedTypes.{has_type_ends, holds_type, is_between_types, is_rule_from_to, joins, passes, rule_passes}
use Rattle.pol_expand.specs.PolicyMap.{expand}
use Rattle.pol_expand.proofs.DeclaredEnds.{source_is_end, target_is_end}
use Rattle.pol_expand.proofs.Holders.{expands_within, passing_set}
use Rattle.pol_expand.proofs.Values.{same_tests}
use Rattle.value_groups.specs.Among.{is_among}
use Rattle.value_groups.proofs.Anys.{among_contains, any_from, any_gives, contains_among, filter_agree}
use Rattle.rules_between.specs.ChosenRules.{ends_at, targets_of_rules}
use Rattle.counted_rules.specs.CountedRules.{all_rules}
use Rattle.rule_grants.specs.declared.permission.Permission.{Permission}
use Rattle.rule_grants.specs.Grants.{gives, grants, granting_rules, part_gives, permission_named, permission_of_class, rules_that}
use Rattle.rule_grants.specs.Names.{file, execute}
use Rattle.check_list.specs.declared.CheckKey.TheVariants as keys
use Rattle.check_list.specs.Checklists.{Check, listed}
use Rattle.se_checker.specs.Members.{is_member, members}
use Rattle.se_checker.specs.Verdicts.{Asked, allow_mask, asks_class, asks_given, asks_mask, found_passes, has_wanted, is_asked, is_given, is_wanted, is_written_executable, rules_asked, append, write, written_executables}
use Rattle.se_checker.specs.Inner.FileTypes.{asked_of_files}
use Rattle.se_checker.proofs.FoundRules.{mask_is_allow, some_mask}

-- ---- a permission of files, by its name

-- what gives a permission of a class, by the permissions that a rule gives
abbrev mask_gives : Permission → ℕ → Option ℕ → Bool
mask_gives permission class None = false
mask_gives permission class (Some mask) = (class == permission.class) && mask_has mask permission.value

part_gives_mask : (permission : Permission) (kind : RuleKind) (class : ℕ) (part : RulePart) → part_gives permission kind class part ≡ mask_gives permission class (allow_mask kind part)
part_gives_mask permission Allow class (Perms mask) = refl
part_gives_mask permission kind class part = refl

-- a mask gives the permission of a name, by the look-ups
abbrev given_by : Symbols → List ℕ → ℕ → Option ℕ → Option ℕ → Bool
given_by symbols name class None mask = false
given_by symbols name class (Some value) None = false
given_by symbols name class (Some value) (Some mask) = (value == class) && found_passes (mask_has mask) (permission_value_in symbols class name)

-- by the value that a name was found to have
abbrev found_mask : Symbols → List ℕ → ℕ → ℕ → Option ℕ → Option ℕ → Bool
found_mask symbols name class value None mask = false
found_mask symbols name class value (Some permission) None = false
found_mask symbols name class value (Some permission) (Some mask) = (class == value) && mask_has mask permission

gives_found : (symbols : Symbols) (name : List ℕ) (rule : StoredRule) (value : ℕ) (found : Option ℕ) → gives (option_map (λ permission. record { class = value; value = permission }) found) rule ≡ found_mask symbols name rule.class value found (allow_mask rule.kind rule.part)
gives_found symbols name rule value None = refl
gives_found symbols name rule value (Some permission) = part_gives_mask (record { class = value; value = permission }) rule.kind rule.class rule.part ∙ same (allow_mask rule.kind rule.part)
  where
    same : (mask : Option ℕ) → mask_gives (record { class = value; value = permission }) rule.class mask ≡ found_mask symbols name rule.class value (Some permission) mask
    same None = refl
    same (Some mask) = refl

by_look_up : (symbols : Symbols) (name : List ℕ) (class value : ℕ) (found : Option ℕ) → permission_value_in symbols value name ≡ found → (same : Bool) → (value == class) ≡ same → (mask : Option ℕ)
    → found_mask symbols name class value found mask ≡ given_by symbols name class (Some value) mask
by_look_up symbols name class value None is true same (Some mask) =
    let e : value ≡ class = eqb-true value class same in
    sym (ap (λ (b : Bool). b && found_passes (mask_has mask) (permission_value_in symbols class name)) same ∙ ap (found_passes (mask_has mask)) (ap (λ (v : ℕ). permission_value_in symbols v name) (sym e) ∙ is))
by_look_up symbols name class value None is false same (Some mask) = sym (ap (λ (b : Bool). b && found_passes (mask_has mask) (permission_value_in symbols class name)) same)
by_look_up symbols name class value None is b same None = refl
by_look_up symbols name class value (Some permission) is true same (Some mask) =
    let e : value ≡ class = eqb-true value class same in
    ap (λ (b : Bool). b && mask_has mask permission) (eq-eqb class value (sym e))
    ∙ sym (ap (λ (b : Bool). b && found_passes (mask_has mask) (permission_value_in symbols class name)) same ∙ ap (found_passes (mask_has mask)) (ap (λ (v : ℕ). permission_value_in symbols v name) (sym e) ∙ is))
by_look_up symbols name class value (Some permission) is false same (Some mask) =
    ap (λ (b : Bool). b && mask_has mask permission) (ne_eqb class value (λ e. eqb-false value class same (sym e)))
    ∙ sym (ap (λ (b : Bool). b && found_passes (mask_has mask) (permission_value_in symbols class name)) same)
by_look_up symbols name class value (Some permission) is b same None = refl

by_class : (symbols : Symbols) (name : List ℕ) (rule : StoredRule) (o : Option ℕ) → gives (permission_of_class symbols name o) rule ≡ given_by symbols name rule.class o (allow_mask rule.kind rule.part)
by_class symbols name rule None = refl
by_class symbols name rule (Some value) =
    gives_found symbols name rule value (permission_value_in symbols value name)
    ∙ by_look_up symbols name rule.class value (permission_value_in symbols value name) refl (value == rule.class) refl (allow_mask rule.kind rule.part)

any_and : (b : Bool) (p : List ℕ → Bool) (names : List (List ℕ)) → list_any (λ name. b && p name) names ≡ (b && list_any p names)
any_and true p names = refl
any_and false p [] = refl
any_and false p (name ∷ names) = any_and false p names

none_of : (names : List (List ℕ)) → list_any (λ name. false) names ≡ false
none_of [] = refl
none_of (name ∷ names) = none_of names

or_nothing : (b : Bool) → (b || false) ≡ b
or_nothing true = refl
or_nothing false = refl

-- some class, and one of some permissions
abbrev asks_by : Symbols → ℕ → List (List ℕ) → Option ℕ → Option ℕ → Bool
asks_by symbols class names None mask = false
asks_by symbols class names (Some value) None = false
asks_by symbols class names (Some value) (Some mask) = (value == class) && list_any (λ name. found_passes (mask_has mask) (permission_value_in symbols class name)) names

by_names : (symbols : Symbols) (class : ℕ) (names : List (List ℕ)) (o mask : Option ℕ) → list_any (λ name. given_by symbols name class o mask) names ≡ asks_by symbols class names o mask
by_names symbols class names None mask = none_of names
by_names symbols class names (Some value) None = none_of names
by_names symbols class names (Some value) (Some mask) = any_and (value == class) (λ name. found_passes (mask_has mask) (permission_value_in symbols class name)) names

asks_is : (symbols : Symbols) (asked : Asked) (class : ℕ) (names : List (List ℕ)) (o mask : Option ℕ) → value_in symbols Classes file ≡ o → asked.class ≡ Some (file ∷ []) → asked.perms ≡ Some names → asks_by symbols class names o mask ≡ asks_given symbols asked class mask
asks_is symbols asked class names None None is of with = refl
asks_is symbols asked class names (Some value) None is of with = refl
asks_is symbols asked class names None (Some mask) is of with =
    sym (ap (λ (o : Option (List (List ℕ))). asks_class symbols o class && asks_mask symbols asked.perms class mask) of ∙ ap (λ (o : Option ℕ). (found_passes (λ value. value == class) o || false) && asks_mask symbols asked.perms class mask) is)
asks_is symbols asked class names (Some value) (Some mask) is of with =
    sym (ap (λ (o : Option (List (List ℕ))). asks_class symbols o class && asks_mask symbols asked.perms class mask) of
    ∙ ap (λ (o : Option ℕ). (found_passes (λ value. value == class) o || false) && asks_mask symbols asked.perms class mask) is
    ∙ ap (λ (b : Bool). b && asks_mask symbols asked.perms class mask) (or_nothing (value == class))
    ∙ ap (λ (o : Option (List (List ℕ))). (value == class) && asks_mask symbols o class mask) with)

-- a rule gives one of some permissions of files where it has what is asked for
names_given : (symbols : Symbols) (rule : StoredRule) (domains files names : List (List ℕ)) → list_any (λ name. gives (permission_named symbols file name) rule) names ≡ asks_given symbols (asked_of_files domains files names) rule.class (allow_mask rule.kind rule.part)
unfolding permission_named
names_given symbols rule domains files names =
    ap (λ (p : List ℕ → Bool). list_any p names) (fun_ext (λ name. by_class symbols name rule (value_in symbols Classes file)))
    ∙ by_names symbols rule.class names (value_in symbols Classes file) (allow_mask rule.kind rule.part)
    ∙ asks_is symbols (asked_of_files domains files names) rule.class names (value_in symbols Classes file) (allow_mask rule.kind rule.part) refl refl refl

-- ---- some rule

-- a rule of a number, where one passes
passing_rule : (policy : Parts) (test : StoredRule → Bool) (n : ℕ) (o : Option StoredRule) → slice_get (stored_rules policy) n ≡ o → passes test o ≡ true → (rule : StoredRule) × (slice_get (stored_rules policy) n ≡ Some rule) × (test rule ≡ true)
passing_rule policy test n None at e = absurd (false≢true e)
passing_rule policy test n (Some rule) at e = (rule, at, e)

member_of : (b : Bool) → not b ≡ true → b ≡ false
member_of true e = absurd (false≢true e)
member_of false e = refl

module _ (bytes : List ℕ) (policy : Parts) (accepted : accept bytes ≡ Ok policy) (domains files names : List (List ℕ)) (type : ℕ) (open_file : is_member policy files type ≡ false) where
  abbrev asked : Asked
  asked = asked_of_files domains files names

  abbrev has_domain : ℕ → Bool
  has_domain domain = not (is_member policy domains domain) && list_any (grants (all_rules policy) domain type file) names

  numbers : List ℕ
  numbers = range_with_len 0 (length (stored_rules policy))

  domains_within : List ℕ
  domains_within = range_with_len 1 policy.symbols.types.nprim

  there : list_any (ends_at policy type) (rules_asked policy asked) ≡ true → is_given policy domains names type ≡ true
  unfolding rules_asked ends_at is_given rules_that joins holds_type numbers domains_within
  there e =
      let n = any_gives (ends_at policy type) (rules_asked policy asked) e in
      let in_range = kept (rule_passes policy (is_asked policy asked)) numbers n.0 n.1 in
      let r = passing_rule policy (is_asked policy asked) n.0 (slice_get (stored_rules policy) n.0) refl in_range.1 in
      let rule = r.0 in
      let outer = and_parts (has_wanted policy None domains rule.source && has_wanted policy None files rule.target) (asks_given policy.symbols asked rule.class (allow_mask rule.kind rule.part)) r.2 in
      let wanted = and_parts (has_wanted policy None domains rule.source) (has_wanted policy None files rule.target) outer.0 in
      let given = any_gives (λ name. gives (permission_named policy.symbols file name) rule) names (names_given policy.symbols rule domains files names ∙ outer.1) in
      let d = any_gives (is_wanted policy None domains) (expand policy rule.source) wanted.0 in
      let ends : is_among (expand policy rule.target) type ≡ true = sym (ap (passes (λ (rule : StoredRule). holds_type policy rule.target type)) r.1) ∙ n.2 in
      let mask = some_mask policy.symbols asked rule.class (allow_mask rule.kind rule.part) outer.1 in
      let is_end = source_is_end policy rule (accepted_has_type_values bytes policy accepted) (mask_is_allow rule.kind rule.part mask.0 mask.1) (rule_is_declared bytes policy n.0 rule accepted r.1) in
      let within = All-contains (λ type. (1 ≤ type) × (type < 1 + policy.symbols.types.nprim)) (expand policy rule.source) d.0 (expands_within policy rule.source is_end) d.1 in
      let test = gives (permission_named policy.symbols file given.0) in
      let among = keeps (rule_passes policy test) numbers n.0 in_range.0 (ap (passes test) r.1 ∙ given.2) in
      let joined : joins policy d.0 type n.0 ≡ true = ap (passes (is_rule_from_to policy d.0 type)) r.1 ∙ and_from (is_among (expand policy rule.source) d.0) (is_among (expand policy rule.target) type) (contains_among (expand policy rule.source) d.0 d.1) ends in
      any_from has_domain domains_within d.0 (contains_range 1 policy.symbols.types.nprim d.0 within.0 within.1)
      (and_from (not (is_member policy domains d.0)) (list_any (grants (all_rules policy) d.0 type file) names) d.2
      (any_from (grants (all_rules policy) d.0 type file) names given.0 given.1 (any_from (joins policy d.0 type) (granting_rules (all_rules policy) file given.0) n.0 among joined)))

  back : is_given policy domains names type ≡ true → list_any (ends_at policy type) (rules_asked policy asked) ≡ true
  unfolding rules_asked ends_at is_given rules_that joins holds_type numbers domains_within
  back e =
      let d = any_gives has_domain domains_within e in
      let parts = and_parts (not (is_member policy domains d.0)) (list_any (grants (all_rules policy) d.0 type file) names) d.2 in
      let name = any_gives (grants (all_rules policy) d.0 type file) names parts.1 in
      let n = any_gives (joins policy d.0 type) (granting_rules (all_rules policy) file name.0) name.2 in
      let test = gives (permission_named policy.symbols file name.0) in
      let in_range = kept (rule_passes policy test) numbers n.0 n.1 in
      let r = passing_rule policy test n.0 (slice_get (stored_rules policy) n.0) refl in_range.1 in
      let rule = r.0 in
      let ends = and_parts (is_among (expand policy rule.source) d.0) (is_among (expand policy rule.target) type) (sym (ap (passes (is_rule_from_to policy d.0 type)) r.1) ∙ n.2) in
      let gives_one = sym (names_given policy.symbols rule domains files names) ∙ any_from (λ name. gives (permission_named policy.symbols file name) rule) names name.0 name.1 r.2 in
      let begins = any_from (is_wanted policy None domains) (expand policy rule.source) d.0 (among_contains (expand policy rule.source) d.0 ends.0) parts.0 in
      let at_type = any_from (is_wanted policy None files) (expand policy rule.target) type (among_contains (expand policy rule.target) type ends.1) (ap not open_file) in
      let passes_test : is_asked policy asked rule ≡ true =
      and_from (has_wanted policy None domains rule.source && has_wanted policy None files rule.target) (asks_given policy.symbols asked rule.class (allow_mask rule.kind rule.part)) (and_from (has_wanted policy None domains rule.source) (has_wanted policy None files rule.target) begins at_type) gives_one in
      any_from (ends_at policy type) (rules_asked policy asked) n.0 (keeps (rule_passes policy (is_asked policy asked)) numbers n.0 in_range.0 (ap (passes (is_asked policy asked)) r.1 ∙ passes_test))
      (ap (passes (λ (rule : StoredRule). holds_type policy rule.target type)) r.1 ∙ ends.1)

  -- files of a type that is not exempt
  pub given_by_rules : list_any (ends_at policy type) (rules_asked policy asked) ≡ is_given policy domains names type
  given_by_rules = same_tests (list_any (ends_at policy type) (rules_asked policy asked)) (is_given policy domains names type) there back

-- ---- the targets of rules

-- the target of a rule between types, as it is stored
pub target_at : (bytes : List ℕ) (policy : Parts) (n : ℕ) (ends : RuleEnds) → accept bytes ≡ Ok policy → is_between_types policy n ≡ true → option_map ends_of (slice_get (stored_rules policy) n) ≡ Some ends → IsEnd policy ends.target × ((type : ℕ) → ends_at policy type n ≡ holds_type policy ends.target type)
unfolding ends_at
target_at bytes policy n ends accepted between at =
    let found = rule_with_ends policy n ends at in
    let types = sym (ap (passes (λ (rule : StoredRule). has_type_ends rule.kind)) found.1) ∙ between in
    let is_end = target_is_end policy found.0 (accepted_has_type_values bytes policy accepted) types (rule_is_declared bytes policy n found.0 accepted found.1) in (
      subst (λ (e : RuleEnds). IsEnd policy e.target) found.2 is_end,
      λ type. ap (passes (λ (rule : StoredRule). holds_type policy rule.target type)) found.1 ∙ ap (λ (e : RuleEnds). holds_type policy e.target type) found.2,
    )

asked_between : (policy : Parts) (asked : Asked) (n : ℕ) → rule_passes policy (is_asked policy asked) n ≡ true → is_between_types policy n ≡ true
asked_between policy asked n e =
    let r = passing_rule policy (is_asked policy asked) n (slice_get (stored_rules policy) n) refl e in
    let rule = r.0 in
    let gives = (and_parts (has_wanted policy asked.source asked.exempt_source rule.source && has_wanted policy asked.target asked.exempt_target rule.target) (asks_given policy.symbols asked rule.class (allow_mask rule.kind rule.part)) r.2).1 in
    let mask = some_mask policy.symbols asked rule.class (allow_mask rule.kind rule.part) gives in
    ap (passes (λ (rule : StoredRule). has_type_ends rule.kind)) r.1 ∙ mask_is_allow rule.kind rule.part mask.0 mask.1

-- the rules that give what is asked for are between types
pub found_between : (policy : Parts) (asked : Asked) (found : List ℕ) → IsPermutation found (rules_asked policy asked) → All (λ number. is_between_types policy number ≡ true) found
unfolding rules_asked
found_between policy asked found moved =
    let test = rule_passes policy (is_asked policy asked) in
    let numbers = range_with_len 0 (length (stored_rules policy)) in
    All-permutation (λ (number : ℕ). is_between_types policy number ≡ true) (rules_asked policy asked) found (IsPermutation-sym found (rules_asked policy asked) moved)
    (All-weaker (λ number. test number ≡ true) (λ number. is_between_types policy number ≡ true) (asked_between policy asked) (filter test numbers) (filter_passes test numbers))

any_moved : (p : ℕ → Bool) (xs ys : List ℕ) → IsPermutation xs ys → list_any p xs ≡ true → list_any p ys ≡ true
any_moved p xs ys moved e = let f = any_gives p xs e in any_from p ys f.0 (Contains-permutation xs ys f.0 moved f.1) f.2

-- the types that their targets expand to do not depend on their order
pub same_targets : (policy : Parts) (xs ys : List ℕ) → IsPermutation xs ys → targets_of_rules policy xs ≡ targets_of_rules policy ys
unfolding targets_of_rules
same_targets policy xs ys moved =
    let range = range_with_len 1 policy.symbols.types.nprim in
    filter_agree (λ type. list_any (ends_at policy type) xs) (λ type. list_any (ends_at policy type) ys) range
    (λ k d lt. let p = ends_at policy (get_or range k d) in same_tests (list_any p xs) (list_any p ys) (any_moved p xs ys moved) (any_moved p ys xs (IsPermutation-sym xs ys moved)))

-- they are types of the policy
ends_within : (bytes : List ℕ) (policy : Parts) (asked : Asked) (type : ℕ) → accept bytes ≡ Ok policy → list_any (ends_at policy type) (rules_asked policy asked) ≡ true → (1 ≤ type) × (type < 1 + policy.symbols.types.nprim)
unfolding rules_asked ends_at holds_type
ends_within bytes policy asked type accepted e =
    let n = any_gives (ends_at policy type) (rules_asked policy asked) e in
    let in_range = kept (rule_passes policy (is_asked policy asked)) (range_with_len 0 (length (stored_rules policy))) n.0 n.1 in
    let r = passing_rule policy (is_asked policy asked) n.0 (slice_get (stored_rules policy) n.0) refl in_range.1 in
    let rule = r.0 in
    let types = sym (ap (passes (λ (rule : StoredRule). has_type_ends rule.kind)) r.1) ∙ asked_between policy asked n.0 in_range.1 in
    let is_end = target_is_end policy rule (accepted_has_type_values bytes policy accepted) types (rule_is_declared bytes policy n.0 rule accepted r.1) in
    let ends : is_among (expand policy rule.target) type ≡ true = sym (ap (passes (λ (rule : StoredRule). holds_type policy rule.target type)) r.1) ∙ n.2 in
    All-contains (λ type. (1 ≤ type) × (type < 1 + policy.symbols.types.nprim)) (expand policy rule.target) type (expands_within policy rule.target is_end) (among_contains (expand policy rule.target) type ends)

-- what is asked by texts, and by their names
pub same_asked : (policy : Parts) (types : List ℕ) (domains given_domains files given_files names given_names : List (List ℕ)) → domains ≡ given_domains → files ≡ given_files → names ≡ given_names
    → types ≡ targets_of_rules policy (rules_asked policy (asked_of_files domains files names)) → types ≡ targets_of_rules policy (rules_asked policy (asked_of_files given_domains given_files given_names))
same_asked policy types domains given_domains files given_files names given_names d f n are =
    are
    ∙ ap (λ (xs : List (List ℕ)). targets_of_rules policy (rules_asked policy (asked_of_files xs files names))) d
    ∙ ap (λ (xs : List (List ℕ)). targets_of_rules policy (rules_asked policy (asked_of_files given_domains xs names))) f
    ∙ ap (λ (xs : List (List ℕ)). targets_of_rules policy (rules_asked policy (asked_of_files given_domains given_files xs))) n

-- ---- the types of files that are executed and written

module _ (bytes : List ℕ) (policy : Parts) (accepted : accept bytes ≡ Ok policy) (check : Check) where
  abbrev files : List (List ℕ)
  files = listed check keys.ExemptFile

  abbrev executing : Asked
  executing = asked_of_files (listed check keys.ExemptExecDomain) files (execute ∷ [])

  abbrev writing : Asked
  writing = asked_of_files (listed check keys.ExemptWriteDomain) files (write ∷ append ∷ [])

  abbrev ends_of_asked : Asked → ℕ → Bool
  ends_of_asked asked type = list_any (ends_at policy type) (rules_asked policy asked)

  not_exempt : (type : ℕ) → is_member policy files type ≡ false → (ends_of_asked executing type ≡ is_given policy (listed check keys.ExemptExecDomain) (execute ∷ []) type) × (ends_of_asked writing type ≡ is_given policy (listed check keys.ExemptWriteDomain) (write ∷ append ∷ []) type)
  not_exempt type free = (
    given_by_rules bytes policy accepted (listed check keys.ExemptExecDomain) files (execute ∷ []) type free,
    given_by_rules bytes policy accepted (listed check keys.ExemptWriteDomain) files (write ∷ append ∷ []) type free,
  )

  -- such a type, by the rules
  by_rules : (type : ℕ) → is_written_executable policy check type ≡ true → (ends_of_asked executing type ≡ true) × (ends_of_asked writing type ≡ true) × (is_member policy files type ≡ false)
  by_rules type e =
      let outer = and_parts (is_given policy (listed check keys.ExemptExecDomain) (execute ∷ []) type && is_given policy (listed check keys.ExemptWriteDomain) (write ∷ append ∷ []) type) (not (is_member policy files type)) e in
      let inner = and_parts (is_given policy (listed check keys.ExemptExecDomain) (execute ∷ []) type) (is_given policy (listed check keys.ExemptWriteDomain) (write ∷ append ∷ []) type) outer.0 in
      let free = member_of (is_member policy files type) outer.1 in
      let same = not_exempt type free in
      (same.0 ∙ inner.0, same.1 ∙ inner.1, free)

  type_is_within : (type : ℕ) → is_written_executable policy check type ≡ true → (1 ≤ type) × (type < 1 + policy.symbols.types.nprim)
  type_is_within type e = ends_within bytes policy executing type accepted (by_rules type e).0

  in_targets : (asked : Asked) (type : ℕ) → (1 ≤ type) × (type < 1 + policy.symbols.types.nprim) → ends_of_asked asked type ≡ true → Contains (targets_of_rules policy (rules_asked policy asked)) type
  unfolding targets_of_rules
  in_targets asked type within e = keeps (ends_of_asked asked) (range_with_len 1 policy.symbols.types.nprim) type (contains_range 1 policy.symbols.types.nprim type within.0 within.1) e

  from_targets : (asked : Asked) (type : ℕ) → Contains (targets_of_rules policy (rules_asked policy asked)) type → ends_of_asked asked type ≡ true
  unfolding targets_of_rules
  from_targets asked type h = (kept (ends_of_asked asked) (range_with_len 1 policy.symbols.types.nprim) type h).1

  in_members : (type : ℕ) → (1 ≤ type) × (type < 1 + policy.symbols.types.nprim) → is_member policy files type ≡ true → Contains (members policy files) type
  unfolding members
  in_members type within e = keeps (is_member policy files) (range_with_len 1 policy.symbols.types.nprim) type (contains_range 1 policy.symbols.types.nprim type within.0 within.1) e

  from_members : (type : ℕ) → Contains (members policy files) type → is_member policy files type ≡ true
  unfolding members
  from_members type h = (kept (is_member policy files) (range_with_len 1 policy.symbols.types.nprim) type h).1

  module _ (executed written both without set : List Node) (executed_are : bits_of executed ≡ targets_of_rules policy (rules_asked policy executing)) (written_are : bits_of written ≡ targets_of_rules policy (rules_asked policy writing)) (common : IsCommon (bits_of executed) (bits_of written) (bits_of both))
      (exempt_are : bits_of without ≡ members policy files) (rest : IsDifference (bits_of both) (bits_of without) (bits_of set)) where
    found_there : (type : ℕ) → is_among (bits_of set) type ≡ true → is_written_executable policy check type ≡ true
    found_there type e =
        let parts = (rest.each type).0 (among_contains (bits_of set) type e) in
        let two = (common.each type).0 parts.0 in
        let executes = from_targets executing type (subst (λ (xs : List ℕ). Contains xs type) executed_are two.0) in
        let writes = from_targets writing type (subst (λ (xs : List ℕ). Contains xs type) written_are two.1) in
        let within = ends_within bytes policy executing type accepted executes in
        let free = not_true (is_member policy files type) (λ t. parts.1 (subst (λ (xs : List ℕ). Contains xs type) (sym exempt_are) (in_members type within t))) in
        let same = not_exempt type free in
        and_from (is_given policy (listed check keys.ExemptExecDomain) (execute ∷ []) type && is_given policy (listed check keys.ExemptWriteDomain) (write ∷ append ∷ []) type) (not (is_member policy files type))
        (and_from (is_given policy (listed check keys.ExemptExecDomain) (execute ∷ []) type) (is_given policy (listed check keys.ExemptWriteDomain) (write ∷ append ∷ []) type) (sym same.0 ∙ executes) (sym same.1 ∙ writes)) (ap not free)

    found_back : (type : ℕ) → is_written_executable policy check type ≡ true → is_among (bits_of set) type ≡ true
    found_back type e =
        let rules = by_rules type e in
        let within = type_is_within type e in
        let executes = subst (λ (xs : List ℕ). Contains xs type) (sym executed_are) (in_targets executing type within rules.0) in
        let writes = subst (λ (xs : List ℕ). Contains xs type) (sym written_are) (in_targets writing type within rules.1) in
        contains_among (bits_of set) type ((rest.each type).1 ((common.each type).1 (executes, writes), λ there. false≢true (sym rules.2 ∙ from_members type (subst (λ (xs : List ℕ). Contains xs type) exempt_are there))))

  pub found_written : {E : Type 0} (executed written both without : List Node) (result : Result (List Node) E) → bits_of executed ≡ targets_of_rules policy (rules_asked policy executing) → bits_of written ≡ targets_of_rules policy (rules_asked policy writing) → IsCommon (bits_of executed) (bits_of written) (bits_of both)
      → bits_of without ≡ members policy files → IfOk result IsSet → IfOk result (λ set. IsDifference (bits_of both) (bits_of without) (bits_of set)) → IfOk result (λ set. bits_of set ≡ written_executables policy check)
  unfolding written_executables
  found_written {E} executed written both without (Ok set) executed_are written_are common exempt_are form rest =
      passing_set {E = E} (Ok set) (is_written_executable policy check) policy.symbols.types.nprim (bits_of set) form refl
      (λ type. same_tests (is_among (bits_of set) type) (is_written_executable policy check type) (found_there executed written both without set executed_are written_are common exempt_are rest type) (found_back executed written both without set executed_are written_are common exempt_are rest type))
      type_is_within
  found_written executed written both without (Err e) executed_are written_are common exempt_are form rest = tt
