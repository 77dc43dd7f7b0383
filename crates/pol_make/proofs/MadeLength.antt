-- A policy that is made has fewer bytes than a reader takes.
use Rattle.std.proofs.Common.{◌≡◌, ℕ, ◌+◌, ◌*◌, ◌<◌, ◌≤◌, List, [], ◌∷◌, ◌++◌, length, refl, sym, subst, arith}
use Rattle.pol_fields.specs.declared.limits.TheConstants.{MAX_POLICY_BYTES}
use Rattle.std.specs.Prelude.{codes, decimal, map}
use Rattle.std.specs.List.{range_with_len, AllByRecursion}
use Rattle.std.proofs.lemmas.Fmt.{length-decimal-le}
use Rattle.std.proofs.lemmas.List.{length-append}
use Rattle.std.proofs.lemmas.List.FromFn.{length-range_with_len, length-map-range_with_len}
use Rattle.pol_cursor.proofs.Numbers.{length-bytes_of}
use Rattle.pol_cursor.specs.Parts.{spell_counted}
use Rattle.pol_cursor.specs.Spelling.{bytes_of}
use Rattle.pol_bitmap.specs.declared.Node.{Node}
use Rattle.pol_bitmap.specs.Bitmap.{spell_bitmap}
use Rattle.pol_symtab.specs.SymbolTables.{spell_table}
use Rattle.pol_commons.specs.CommonRecord.{spell_common}
use Rattle.pol_datums.specs.declared.TypeRec.{TypeRec}
use Rattle.pol_datums.specs.RoleRecord.{spell_role}
use Rattle.pol_datums.specs.TypeRecord.{spell_type}
use Rattle.pol_datums.specs.BooleanRecord.{spell_boolean}
use Rattle.pol_datums.specs.SensitivityRecord.{spell_sensitivity}
use Rattle.pol_datums.specs.CategoryRecord.{spell_category}
use Rattle.pol_classes.specs.ClassRecord.{spell_class}
use Rattle.pol_symbols.specs.UserRecord.{spell_user}
use Rattle.pol_avtab.specs.declared.AvRec.{AvRec}
use Rattle.pol_avtab.specs.AvRecord.{spell_av}
use Rattle.pol_contexts.specs.SidRecord.{spell_sid}
use Rattle.pol_tree.specs.TreeSpelling.{spell_front, spell_symbols, spell_rules, spell_contexts, spell_labels, spell}
use Rattle.set_nodes.specs.SetNodes.{set_of, first_bits}
use Rattle.pol_make.specs.MadeSymbols.{attribute_count, role, file_permissions, made_commons, process_permissions, process_constraints, made_classes, made_roles, made_type, made_attribute, made_types, all_categories, made_users, made_booleans, made_levels, made_category, categories_of, made_nprims}
use Rattle.pol_make.specs.MadeRules.{made_rules, made_sids, made_rows}
use Rattle.pol_make.specs.Made.{made}
use Rattle.pol_make.proofs.Lengths.{TakesMost, takes-nothing, takes-text, takes-number, ◌⊕◌, takes-less, takes-each, takes-counted}
use Rattle.pol_make.proofs.SetLengths.{takes-set}
use Rattle.pol_make.proofs.GrantedRules.{IsMadeRule, rules-made, length-made_rules}
use Rattle.pol_make.proofs.GrantedRows.{IsRow, rows-made, length-made_rows}
use Rattle.pol_moved.proofs.ListFacts.{all-append, all-so, all-map, all-range}

-- ---- what stands before the symbol tables

front-takes : (n : ℕ) → TakesMost 72 (spell_front (made n))
unfolding spell_front made
front-takes n =
    takes-less
    (takes-number 4 _ ⊕ takes-number 4 8 ⊕ takes-text 8 (codes "SE Linux") refl ⊕ takes-number 4 31 ⊕ takes-number 4 5 ⊕ (takes-number 4 8 ⊕ takes-number 4 9) ⊕ takes-set (1 ∷ []) ⊕ takes-set [])
    (omega arith)

-- ---- the symbol tables

takes-table : {A : Type 0} (spell : A → List ℕ) (k nprim : ℕ) (records : List A) → AllByRecursion (λ x. TakesMost k (spell x)) records → TakesMost (8 + length records * k) (spell_table spell (record { nprim = nprim; records = records }))
takes-table spell k nprim records each = takes-number 4 nprim ⊕ takes-number 4 (length records) ⊕ takes-each spell k records each

-- a number of no more than four digits
takes-decimal : (number : ℕ) → number < 10000 → TakesMost 4 (decimal number)
takes-decimal number small = record { few = length-decimal-le 4 number (omega arith) small (omega (arith, small)) }

commons-take : TakesMost 300 (spell_table spell_common (record { nprim = 1; records = made_commons }))
unfolding made_commons file_permissions
commons-take = record { few = simp (length-append, length-bytes_of) (omega arith) }

classes-take : TakesMost 1000 (spell_table spell_class (record { nprim = 3; records = made_classes }))
unfolding made_classes process_permissions process_constraints
classes-take = record { few = simp (length-append, length-bytes_of) (omega arith) }

first_bits-take : (count : ℕ) → TakesMost (12 + count * 12) (spell_bitmap (first_bits count))
unfolding first_bits
first_bits-take count = takes-less (takes-set (range_with_len 0 count)) (omega (arith, length-range_with_len 0 count))

role-takes : (name : List ℕ) (value a b : ℕ) (dominates types : List Node) → length name ≡ 8 → TakesMost a (spell_bitmap dominates) → TakesMost b (spell_bitmap types) → TakesMost (20 + a + b) (spell_role (role name value dominates types))
role-takes name value a b dominates types e first second = takes-less (takes-number 4 (length name) ⊕ takes-number 4 value ⊕ takes-number 4 0 ⊕ takes-text 8 name e ⊕ first ⊕ second) (omega arith)

roles-take : (n : ℕ) → TakesMost (200 + n * 24) (spell_table spell_role (record { nprim = 2; records = made_roles n }))
unfolding made_roles
roles-take n =
    let first = role-takes (codes "object_r") 1 24 12 (set_of (0 ∷ [])) (set_of []) refl (takes-set (0 ∷ [])) (takes-set []) in
    let second = role-takes (codes "system_r") 2 24 (12 + n * 12) (set_of (1 ∷ [])) (first_bits n) refl (takes-set (1 ∷ [])) (first_bits-take n) in
    takes-less (takes-table spell_role (56 + n * 12) 2 (made_roles n) (takes-less first (omega arith), (takes-less second (omega arith), tt))) (omega arith)

type-takes : (number : ℕ) → number < 10000 → TakesMost 23 (spell_type (made_type number))
unfolding made_type
type-takes number small =
    takes-number 4 _ ⊕ takes-number 4 _ ⊕ takes-number 4 _ ⊕ takes-number 4 _ ⊕ (takes-text 1 (codes "t") refl ⊕ takes-decimal number small ⊕ takes-text 2 (codes "_t") refl)

attribute-takes : (n number : ℕ) → number < 10000 → TakesMost 23 (spell_type (made_attribute n number))
unfolding made_attribute
attribute-takes n number small =
    takes-less (takes-number 4 _ ⊕ takes-number 4 _ ⊕ takes-number 4 _ ⊕ takes-number 4 _ ⊕ (takes-text 1 (codes "a") refl ⊕ takes-decimal number small)) (omega arith)

types-take : (n : ℕ) → n ≤ 5000 → TakesMost (8 + (n + attribute_count n) * 23) (spell_table spell_type (record { nprim = n + attribute_count n; records = made_types n }))
unfolding made_types
types-take n most =
    let Takes : TypeRec → Type 0 = λ t. TakesMost 23 (spell_type t) in
    let types = range_with_len 1 n in
    let attributes = range_with_len 1 (attribute_count n) in
    let each =
    all-append Takes (map made_type types) (map (made_attribute n) attributes)
    (all-map Takes made_type types (all-range (λ number. Takes (made_type number)) 1 n (λ number above below. type-takes number (omega (arith, below, most)))))
    (all-map Takes (made_attribute n) attributes (all-range (λ number. Takes (made_attribute n number)) 1 (attribute_count n) (λ number above below. attribute-takes n number (omega (arith, below, most))))) in
    takes-less (takes-table spell_type 23 (n + attribute_count n) (made_types n) each)
    (omega (arith, length-append (map made_type types) (map (made_attribute n) attributes), length-map-range_with_len made_type 1 n, length-map-range_with_len (made_attribute n) 1 (attribute_count n)))

categories-take : TakesMost 12300 (spell_bitmap all_categories)
categories-take = first_bits-take 1024

users-take : TakesMost 12500 (spell_table spell_user (record { nprim = 1; records = made_users }))
unfolding made_users
users-take =
    takes-less
    (takes-table spell_user 12440 1 made_users (
      takes-less
          (takes-number 4 _ ⊕ takes-number 4 _ ⊕ takes-number 4 _ ⊕ takes-text 8 (codes "system_u") refl ⊕ takes-set (1 ∷ [])
          ⊕ (takes-number 4 2 ⊕ takes-number 4 1 ⊕ takes-number 4 1 ⊕ takes-set [] ⊕ categories-take) ⊕ (takes-number 4 1 ⊕ takes-set []))
          (omega arith),
      tt,
    ))
    (omega arith)

booleans-take : TakesMost 100 (spell_table spell_boolean (record { nprim = 2; records = made_booleans }))
unfolding made_booleans
booleans-take = record { few = simp (length-append, length-bytes_of) (omega arith) }

levels-take : TakesMost 12400 (spell_table spell_sensitivity (record { nprim = 1; records = made_levels }))
unfolding made_levels
levels-take =
    takes-less (takes-table spell_sensitivity 12320 1 made_levels (takes-less (takes-number 4 _ ⊕ takes-number 4 _ ⊕ takes-text 2 (codes "s0") refl ⊕ takes-number 4 _ ⊕ categories-take) (omega arith), tt)) (omega arith)

category-takes : (number : ℕ) → number < 10000 → TakesMost 17 (spell_category (made_category number))
unfolding made_category
category-takes number small = takes-number 4 _ ⊕ takes-number 4 _ ⊕ takes-number 4 _ ⊕ (takes-text 1 (codes "c") refl ⊕ takes-decimal number small)

category-table-takes : (count : ℕ) → count ≤ 1024 → TakesMost (8 + count * 17) (spell_table spell_category (record { nprim = count; records = categories_of count }))
unfolding categories_of
category-table-takes count most =
    takes-less
    (takes-table spell_category 17 count (map made_category (range_with_len 0 count))
    (all-map (λ category. TakesMost 17 (spell_category category)) made_category (range_with_len 0 count)
    (all-range (λ number. TakesMost 17 (spell_category (made_category number))) 0 count (λ number above below. category-takes number (omega (arith, below, most))))))
    (omega (arith, length-map-range_with_len made_category 0 count))

symbols-take : (n : ℕ) → n ≤ 5000 → TakesMost 500000 (spell_symbols (made n))
unfolding spell_symbols made made_nprims
symbols-take n most =
    takes-less (commons-take ⊕ classes-take ⊕ roles-take n ⊕ types-take n most ⊕ users-take ⊕ booleans-take ⊕ levels-take ⊕ category-table-takes 1024 (omega arith)) (omega (arith, most))

-- ---- the rules

rule-takes : (n : ℕ) (av : AvRec) → IsMadeRule n av → TakesMost 12 (spell_av av)
rule-takes n av made =
    subst (λ (v : AvRec). TakesMost 12 (spell_av v)) (sym made.is)
    (takes-number 2 av.source ⊕ takes-number 2 av.target ⊕ takes-number 2 av.class ⊕ takes-number 2 1 ⊕ takes-number 4 made.permissions)

-- no records behind their count
no_records-take : TakesMost 4 (bytes_of 4 0 ++ [])
no_records-take = takes-number 4 0 ⊕ takes-nothing

rules-take : (n : ℕ) → 20 ≤ n → n ≤ 5000 → TakesMost 1300000 (spell_rules (made n))
unfolding spell_rules made
rules-take n many most =
    takes-less
    (takes-counted spell_av 12 (made_rules n) (all-so (made_rules n) (λ av is. rule-takes n av is) (rules-made n many))
    ⊕ no_records-take ⊕ no_records-take ⊕ no_records-take ⊕ no_records-take)
    (omega (arith, length-made_rules n, most))

-- ---- what stands behind them

sids-take : TakesMost 50 (spell_counted spell_sid made_sids)
unfolding made_sids
sids-take = takes-less (takes-counted spell_sid 40 made_sids (takes-less (takes-number 4 _ ⊕ (takes-number 4 _ ⊕ takes-number 4 _ ⊕ takes-number 4 _ ⊕ (takes-number 4 1 ⊕ takes-number 4 1 ⊕ takes-nothing ⊕ takes-set [] ⊕ takes-nothing))) (omega arith), tt)) (omega arith)

contexts-take : (n : ℕ) → TakesMost 100 (spell_contexts (made n))
unfolding spell_contexts made
contexts-take n =
    takes-less
    (sids-take ⊕ no_records-take ⊕ no_records-take ⊕ no_records-take ⊕ no_records-take ⊕ no_records-take ⊕ no_records-take ⊕ (no_records-take ⊕ no_records-take))
    (omega arith)

row-takes : (limit : ℕ) (row : List Node) → IsRow limit row → TakesMost 36 (spell_bitmap row)
row-takes limit row h = subst (λ (ns : List Node). TakesMost 36 (spell_bitmap ns)) (sym h.is) (takes-less (takes-set h.bits) (omega (arith, h.few)))

labels-take : (n : ℕ) → 20 ≤ n → n ≤ 5000 → TakesMost 200000 (spell_labels (made n))
unfolding spell_labels made
labels-take n many most =
    takes-less
    (contexts-take n ⊕ no_records-take ⊕ no_records-take ⊕ takes-each spell_bitmap 36 (made_rows n) (all-so (made_rows n) (λ row is. row-takes _ row is) (rows-made n many most)))
    (omega (arith, length-made_rows n, most))

-- ---- the whole

pub made-takes : (n : ℕ) → 20 ≤ n → n ≤ 5000 → length (spell (made n)) ≤ MAX_POLICY_BYTES
unfolding spell
made-takes n many most = (takes-less (front-takes n ⊕ symbols-take n most ⊕ rules-take n many most ⊕ labels-take n many most) (omega arith)).few
