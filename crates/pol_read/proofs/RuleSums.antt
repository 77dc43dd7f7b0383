-- Rules by their numbers: lists that are put one behind the other, and how long each of them is.
use Rattle.std.proofs.Common.{◌≡◌, ℕ, zero, suc, ◌+◌, ◌<◌, ◌≤◌, Bool, true, false, Option, Some, None, List, [], ◌∷◌, ◌++◌, length, take, map, get_or, slice_get, sum, refl, sym, ap, subst, ◌∙◌, arith}
use Rattle.std.specs.Prelude.{is_some, option_map}
use Rattle.std.specs.List.{flat_map, range_with_len}
use Rattle.std.proofs.lemmas.List.{length-map, length-append, take-map}
use Rattle.std.proofs.lemmas.List.FromFn.{take-map-range_with_len, map-range_with_len_more, length-range_with_len, get_or-range_with_len, length-map-range_with_len}
use Rattle.std.proofs.lemmas.List.Concat.{flat_map-cons, length-flat_map}
use Rattle.std.proofs.lemmas.List.Sums.{sum-map, sum_by-cons}
use Rattle.std.proofs.lemmas.Option.{same_Some, slice_get-map, slice_get-get_or, slice_get_within, get_or_from_slice_get}
use Rattle.pol_cursor.specs.References.{Placed}
use Rattle.pol_symtab.specs.SymbolTables.{primary_index, primary_name}
use Rattle.pol_symtab.proofs.Searches.{primary_within, primary_name_at, primary_name_none, place_of}
use Rattle.pol_avtab.specs.declared.AvRec.{AvRec}
use Rattle.pol_conditionals.specs.declared.CondNodeRec.{CondNodeRec}
use Rattle.pol_avtab.specs.declared.AvPart.{AvPart}
use Rattle.pol_avtab.specs.declared.AvPart.TheVariants.{Data, Extended}
use Rattle.pol_avtab.specs.XPerms.{Numbers, xperms_of, mask_of}
use Rattle.pol_read.specs.declared.rule.RulePart.TheVariants as parts
use Rattle.pol_conditionals.specs.CondNodeRecord.{rules_of_branch as access_vectors_of}
use Rattle.pol_file.specs.declared.Parts.{Parts}
use Rattle.pol_read.specs.StoredRules.{StoredRule, plain_part, rule_part, av_rule, rules_of_branch, rules_of_node, rules_of_nodes, name_rules, rule_sections, stored_rules}
use Rattle.pol_read.specs.Inner.RuleNumbers.{lengths_of, node_lengths}

-- ---- one list behind another

pub get_left : {A : Type 0} (xs ys : List A) (i : ℕ) → i < length xs → slice_get (xs ++ ys) i ≡ slice_get xs i
get_left [] ys i lt = absurd (omega (arith, lt))
get_left (x ∷ xs) ys zero lt = refl
get_left (x ∷ xs) ys (suc i) lt = get_left xs ys i (omega (arith, lt))

pub get_right : {A : Type 0} (xs ys : List A) (n i : ℕ) → n ≡ length xs + i → slice_get (xs ++ ys) n ≡ slice_get ys i
get_right [] ys n i e = ap (slice_get ys) (omega (arith, e))
get_right (x ∷ xs) ys zero i e = absurd (omega (arith, e))
get_right (x ∷ xs) ys (suc n) i e = get_right xs ys n i (omega (arith, e))

pub get_map : {X Y : Type 0} (f : X → Y) (xs : List X) (i : ℕ) (x : X) → slice_get xs i ≡ Some x → slice_get (map f xs) i ≡ Some (f x)
get_map f xs i x e = slice_get-map f xs i ∙ ap (option_map f) e

-- ---- many lists

pub total_is : {X A : Type 0} (f : X → List A) (xs : List X) → sum (lengths_of f xs) ≡ length (flat_map f xs)
total_is f xs = sum-map (λ x. length (f x)) xs ∙ sym (length-flat_map f xs)

pub found_length : {X A : Type 0} (f : X → List A) (xs : List X) (i : ℕ) (x : X) → slice_get xs i ≡ Some x → get_or (lengths_of f xs) i 0 ≡ length (f x)
found_length f xs i x e = get_or_from_slice_get (lengths_of f xs) i (length (f x)) 0 (get_map (λ y. length (f y)) xs i x e)

-- the item behind those of the lists before
pub found : {X A : Type 0} (f : X → List A) (xs : List X) (i rest n : ℕ) (x : X) → slice_get xs i ≡ Some x → sum (take i (lengths_of f xs)) + rest ≡ n → rest < length (f x) → slice_get (flat_map f xs) n ≡ slice_get (f x) rest
found f [] i rest n x e place lt = absurd cc
found {X} {A} f (y ∷ ys) zero rest n x e place lt =
    let same : y ≡ x = cc in
    let here : n ≡ rest = omega (arith, place) in
    let inside : rest < length (f y) = subst (λ (z : X). rest < length (f z)) (sym same) lt in
    ap (slice_get (f y ++ flat_map f ys)) here ∙ get_left (f y) (flat_map f ys) rest inside ∙ ap (λ (z : X). slice_get (f z) rest) same
found {X} {A} f (y ∷ ys) (suc i) rest n x e place lt =
    let before = sum_by-cons (λ (k : ℕ). k) (length (f y)) (take i (lengths_of f ys)) in
    get_right (f y) (flat_map f ys) n (sum (take i (lengths_of f ys)) + rest) (omega (arith, place, before)) ∙ found f ys i rest (sum (take i (lengths_of f ys)) + rest) x e refl lt

-- the same of what a search through the lengths found
pub found_by : {X A : Type 0} (f : X → List A) (xs : List X) (lengths : List ℕ) (i rest n : ℕ) (x : X) → lengths ≡ lengths_of f xs → slice_get xs i ≡ Some x → rest < get_or lengths i 0 → sum (take i lengths) + rest ≡ n
    → slice_get (flat_map f xs) n ≡ slice_get (f x) rest
found_by f xs lengths i rest n x are e lt place =
    found f xs i rest n x e (sym (ap (λ (ns : List ℕ). sum (take i ns) + rest) are) ∙ place) (omega (arith, lt, ap (λ (ns : List ℕ). get_or ns i 0) are, found_length f xs i x e))

-- ---- those of conditional nodes

pub node_length : (nodes : List (Placed CondNodeRec)) (i : ℕ) → length (rules_of_node nodes i) ≡ length (access_vectors_of nodes i true) + length (access_vectors_of nodes i false)
node_length nodes i =
    length-append (rules_of_branch nodes i true) (rules_of_branch nodes i false) ∙ simp length-map

pub branch_length : (nodes : List (Placed CondNodeRec)) (i : ℕ) (branch : Bool) → length (rules_of_branch nodes i branch) ≡ length (access_vectors_of nodes i branch)
branch_length nodes i branch = simp length-map

-- ---- no list is longer than all of them together

pub room_for : {X A : Type 0} (f : X → List A) (xs : List X) (i : ℕ) (x : X) → slice_get xs i ≡ Some x → sum (lengths_of f (take i xs)) + length (f x) ≤ length (flat_map f xs)
room_for f [] i x e = absurd cc
room_for {X} f (y ∷ ys) zero x e =
    let same : y ≡ x = cc in
    let whole = length-append (f y) (flat_map f ys) in
    let here : length (f y) ≡ length (f x) = ap (λ (z : X). length (f z)) same in
    rw (flat_map-cons f y ys) (omega (arith, whole, here))
room_for f (y ∷ ys) (suc i) x e =
    let whole = length-append (f y) (flat_map f ys) in
    let before = sum_by-cons (λ (k : ℕ). k) (length (f y)) (lengths_of f (take i ys)) in
    rw (flat_map-cons f y ys) (omega (arith, whole, before, room_for f ys i x e))

-- the node that a search through the lengths found
module _ (nodes : List (Placed CondNodeRec)) (lengths : List ℕ) (are : lengths ≡ node_lengths nodes) (i : ℕ) (within : i < length lengths) where
  pub node_within : i < length nodes
  node_within = omega (arith, within, ap (λ (ns : List ℕ). length ns) are, length-map-range_with_len (λ j. length (rules_of_node nodes j)) 0 (length nodes))

  there : slice_get (range_with_len 0 (length nodes)) i ≡ Some i
  there = slice_get-get_or (range_with_len 0 (length nodes)) i 0 (omega (arith, node_within, length-range_with_len 0 (length nodes))) ∙ ap (λ (k : ℕ). Some k) (get_or-range_with_len 0 (length nodes) i 0 node_within ∙ omega arith)

  pub node_item : (rest : ℕ) → rest < get_or lengths i 0 → rest < length (rules_of_node nodes i)
  node_item rest lt = omega (arith, lt, ap (λ (ns : List ℕ). get_or ns i 0) are, found_length (rules_of_node nodes) (range_with_len 0 (length nodes)) i i there)

  pub found_node : (rest n : ℕ) → rest < get_or lengths i 0 → sum (take i lengths) + rest ≡ n → slice_get (rules_of_nodes nodes) n ≡ slice_get (rules_of_node nodes i) rest
  found_node rest n lt place = found_by (rules_of_node nodes) (range_with_len 0 (length nodes)) lengths i rest n i are there lt place

pub room_for_node : (nodes : List (Placed CondNodeRec)) (i : ℕ) → i < length nodes → sum (lengths_of (rules_of_node nodes) (range_with_len 0 i)) + (length (access_vectors_of nodes i true) + length (access_vectors_of nodes i false)) ≤ length (rules_of_nodes nodes)
room_for_node nodes i lt =
    let all = range_with_len 0 (length nodes) in
    let here : slice_get all i ≡ Some i = slice_get-get_or all i 0 (omega (arith, lt, length-range_with_len 0 (length nodes))) ∙ ap (λ (k : ℕ). Some k) (get_or-range_with_len 0 (length nodes) i 0 lt ∙ omega arith) in
    let room = room_for (rules_of_node nodes) all i i here in
    let same : lengths_of (rules_of_node nodes) (take i all) ≡ lengths_of (rules_of_node nodes) (range_with_len 0 i) =
    sym (take-map (λ j. length (rules_of_node nodes j)) i all) ∙ take-map-range_with_len (λ j. length (rules_of_node nodes j)) 0 (length nodes) i (omega (arith, lt)) in
    omega (arith, room, ap (λ (ns : List ℕ). sum ns) same, node_length nodes i)

pub nodes_more : (nodes : List (Placed CondNodeRec)) (i n : ℕ) → n ≡ length (access_vectors_of nodes i true) + length (access_vectors_of nodes i false)
    → lengths_of (rules_of_node nodes) (range_with_len 0 (i + 1)) ≡ lengths_of (rules_of_node nodes) (range_with_len 0 i) ++ n ∷ []
nodes_more nodes i n e =
    map-range_with_len_more (λ j. length (rules_of_node nodes j)) 0 i i (omega arith) ∙ ap (λ k. lengths_of (rules_of_node nodes) (range_with_len 0 i) ++ k ∷ []) (node_length nodes i ∙ sym e)

-- ---- the sections

-- the rules of a policy, section by section
pub section_sizes : (policy : Parts) → length (stored_rules policy) ≡ length policy.rules.table + (length (rules_of_nodes policy.rules.conditionals) + (length policy.rules.role_trans + (length policy.rules.role_allows + (length (name_rules policy.symbols policy.rules.name_trans) + length policy.labels.range_trans))))
section_sizes policy =
    let rules = policy.rules in
    let whole : length (stored_rules policy) ≡ length rules.table + (length (rules_of_nodes rules.conditionals) + (length rules.role_trans + (length rules.role_allows + (length (name_rules policy.symbols rules.name_trans) + (length policy.labels.range_trans + 0))))) =
    simp (length-append, length-map) in
    omega (arith, whole)

-- those of the table come first
pub table_first : (policy : Parts) (n : ℕ) (av : Placed AvRec) → slice_get policy.rules.table n ≡ Some av → slice_get (stored_rules policy) n ≡ Some (av_rule None av)
table_first policy n av e =
    let rules = map (av_rule None) policy.rules.table in
    let within : n < length rules = omega (arith, slice_get_within policy.rules.table n av e, length-map policy.rules.table (av_rule None)) in
    found (λ (rules : List StoredRule). rules) (rule_sections policy) 0 n n rules refl (omega arith) within ∙ get_map (av_rule None) policy.rules.table n av e

-- those under conditions come next
pub conditional_behind : (policy : Parts) (n i : ℕ) → length policy.rules.table + i ≡ n → i < length (rules_of_nodes policy.rules.conditionals) → slice_get (stored_rules policy) n ≡ slice_get (rules_of_nodes policy.rules.conditionals) i
conditional_behind policy n i e within =
    found (λ (rules : List StoredRule). rules) (rule_sections policy) 1 i n (rules_of_nodes policy.rules.conditionals) refl (omega (arith, e, length-map policy.rules.table (av_rule None))) within

-- ---- the part of an access vector

pub part_of_numbers : (specified : ℕ) (part : AvPart) (numbers : Numbers) → xperms_of part ≡ Some numbers → rule_part specified part ≡ parts.Numbers numbers
part_of_numbers specified (Data mask) numbers e = absurd cc
part_of_numbers specified (Extended xkind driver bits) numbers e = ap (λ (x : Numbers). parts.Numbers x) (same_Some _ _ e)

pub part_of_data : (specified : ℕ) (part : AvPart) (mask : ℕ) → mask_of part ≡ Some mask → rule_part specified part ≡ plain_part specified mask
part_of_data specified (Data m) mask e = ap (plain_part specified) (same_Some _ _ e)
part_of_data specified (Extended xkind driver bits) mask e = absurd cc

pub some_part : (part : AvPart) → xperms_of part ≡ None → mask_of part ≡ None → ⊥
some_part (Data mask) none e = cc
some_part (Extended xkind driver bits) e none = cc

-- ---- what is declared

-- a value has a place in its table exactly where it has a name
module _ {A : Type 0} (name_of : A → List ℕ) (is_primary : A → Bool) (value_of : A → ℕ) (records : List (Placed A)) (value : ℕ) where
  abbrev index : Option ℕ
  index = primary_index is_primary value_of records value

  abbrev name : Option (List ℕ)
  name = primary_name name_of is_primary value_of records value

  by_index : (i : Option ℕ) → index ≡ i → is_some name ≡ is_some i
  by_index None e = ap is_some (primary_name_none name_of is_primary value_of records value e)
  by_index (Some i) e =
      let at = place_of records i (primary_within name_of is_primary value_of records value i e) in
      ap is_some (primary_name_at name_of is_primary value_of records value i at.0 e at.1)

  pub declared_by_value : is_some name ≡ is_some index
  declared_by_value = by_index index refl
