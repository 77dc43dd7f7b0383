-- The types and the categories of a policy that is made are read.
use Rattle.std.proofs.Common.{◌≡◌, ℕ, ◌+◌, ◌^◌, ◌<◌, ◌≤◌, length, refl, arith}
use Rattle.std.specs.Prelude.{map}
use Rattle.std.specs.List.{range_with_len}
use Rattle.std.proofs.lemmas.Bool.{ne_eqb}
use Rattle.std.proofs.lemmas.List.{length-append, length-map}
use Rattle.std.proofs.lemmas.List.FromFn.{length-range_with_len}
use Rattle.pol_symtab.specs.declared.TableContext.{TableContext}
use Rattle.pol_symtab.specs.Claims.{claims_after}
use Rattle.pol_symtab.specs.SymbolTables.{table_at, table_start, spell_table, TableFits}
use Rattle.pol_datums.specs.declared.TypeRec.{TypeRec}
use Rattle.pol_datums.specs.declared.CategoryRec.{CategoryRec}
use Rattle.pol_datums.specs.TypeRecord.{type_at, spell_type, TypeFits, is_primary_type}
use Rattle.pol_datums.specs.CategoryRecord.{category_at, spell_category, CategoryFits}
use Rattle.pol_datums.specs.Flags.{is_primary_flag}
use Rattle.pol_make.specs.MadeSymbols.{attribute_count, type_name, attribute_name, category_name, made_type, made_attribute, made_types, made_category, categories_of}
use Rattle.pol_moved.proofs.Granted.{EachUnder}
use Rattle.pol_make.proofs.GrantedTables.{GrantsBare, grants-table}
use Rattle.pol_moved.proofs.ListFacts.{all-append, all-map, all-range}
use Rattle.pol_make.proofs.NumberedNames.{types-apart, attributes-apart, categories-apart, attribute-no_type, type-is_name, attribute-is_name, category-is_name}
use Rattle.pol_make.proofs.GrantedSymbols.{MayStand, type-granted, category-granted}
use Rattle.pol_make.proofs.FreshRuns.{AreFree, all-free, free-behind, each-run, each-last-run}

-- ---- types

type-fits : (number : ℕ) → number < 10 ^ 5 → TypeFits (made_type number)
unfolding made_type
type-fits number few = record { len = (type-is_name number few).short; value = omega arith; properties = omega arith; bounds = omega arith }

attribute-fits : (n number : ℕ) → n ≤ 5000 → number < 10 ^ 5 → TypeFits (made_attribute n number)
unfolding made_attribute
attribute-fits n number most few = record { len = (attribute-is_name number few).short; value = omega arith; properties = omega arith; bounds = omega arith }

-- the context after a type, as its table has it
abbrev pub after_type : TableContext → TypeRec → TableContext
after_type context t = record context { taken = claims_after context.taken t.name (is_primary_type t.properties) t.value }

-- a type may stand there
abbrev TypeMay : TableContext → TypeRec → Type 0
TypeMay context t = TypeFits t × MayStand context.taken context.nprim t.name t.value

-- the value of an attribute
abbrev behind_types : ℕ → ℕ → ℕ
behind_types n number = n + number

-- before the attribute of that number: it and those after it are free
record BeforeAttribute (n number : ℕ) (context : TableContext) : Type 0 where
  nprim : context.nprim ≡ n + attribute_count n
  from : 1 ≤ number
  attributes : AreFree attribute_name (behind_types n) number (attribute_count n + 1) context.taken

-- before the type of that number: it, those after it, and all attributes are free
record BeforeType (n number : ℕ) (context : TableContext) : Type 0 where
  nprim : context.nprim ≡ n + attribute_count n
  from : 1 ≤ number
  types : AreFree type_name (λ k. k) number (n + 1) context.taken
  attributes : AreFree attribute_name (behind_types n) 1 (attribute_count n + 1) context.taken

type-step : (n : ℕ) → n ≤ 5000 → (k : ℕ) (context : TableContext) → k < n + 1 → BeforeType n k context → TypeMay context (made_type k) × BeforeType n (k + 1) (after_type context (made_type k))
unfolding made_type
type-step n most k context below before =
    let few : k < 10 ^ 5 = omega arith in
    let within : k ≤ context.nprim = omega (arith, before.nprim) in (
      (type-fits k few, record { is_name = type-is_name k few; name_is_new = before.types.name k (omega arith) below; least = before.from; most = within; value_is_new = before.types.value k (omega arith) below }),
      record {
        nprim = before.nprim;
        from = omega arith;
        types = free-behind k (k + 1) (n + 1) context.taken (type_name k) k (omega arith) before.types
            (λ j above j-below. types-apart j k (omega arith) (omega arith) (λ e. omega (arith, e, above)))
            (λ j above j-below. ne_eqb j k (λ e. omega (arith, e, above)));
        attributes = free-behind 1 1 (attribute_count n + 1) context.taken (type_name k) k (omega arith) before.attributes
            (λ j above j-below. attribute-no_type j k)
            (λ j above j-below. ne_eqb (n + j) k (λ e. omega (arith, e, above, below)));
      },
    )

attribute-step : (n : ℕ) → n ≤ 5000 → (k : ℕ) (context : TableContext) → k < attribute_count n + 1 → BeforeAttribute n k context → TypeMay context (made_attribute n k) × BeforeAttribute n (k + 1) (after_type context (made_attribute n k))
unfolding made_attribute
attribute-step n most k context below before =
    let few : k < 10 ^ 5 = omega arith in
    let from : 1 ≤ k = before.from in
    let within : n + k ≤ context.nprim = omega (arith, before.nprim) in (
      (attribute-fits n k most few, record { is_name = attribute-is_name k few; name_is_new = before.attributes.name k (omega arith) below; least = omega arith; most = within; value_is_new = before.attributes.value k (omega arith) below }),
      record {
        nprim = before.nprim;
        from = omega arith;
        attributes = free-behind k (k + 1) (attribute_count n + 1) context.taken (attribute_name k) (n + k) (omega arith) before.attributes
            (λ j above j-below. attributes-apart j k (omega arith) (omega arith) (λ e. omega (arith, e, above)))
            (λ j above j-below. ne_eqb (n + j) (n + k) (λ e. omega (arith, e, above)));
      },
    )

types-stand : (n : ℕ) → n ≤ 5000 → EachUnder (λ left. TypeMay) after_type (table_start (n + attribute_count n)) (made_types n)
unfolding made_types
types-stand n most =
    each-run TypeMay after_type made_type (BeforeType n) (n + 1) (map (made_attribute n) (range_with_len 1 (attribute_count n))) (type-step n most)
    (λ context before.
    each-last-run TypeMay after_type (made_attribute n) (BeforeAttribute n) (attribute_count n + 1) (attribute-step n most) 1 (attribute_count n) (omega arith) context
    (record { nprim = before.nprim; from = omega arith; attributes = before.attributes }))
    1 n (omega arith) (table_start (n + attribute_count n))
    (record { nprim = refl; from = omega arith; types = all-free type_name (λ k. k) 1 (n + 1); attributes = all-free attribute_name (behind_types n) 1 (attribute_count n + 1) })

pub length-made_types : (n : ℕ) → length (made_types n) ≡ n + attribute_count n
unfolding made_types
length-made_types n =
    omega (
      arith,
      length-append (map made_type (range_with_len 1 n)) (map (made_attribute n) (range_with_len 1 (attribute_count n))),
      length-map (range_with_len 1 n) made_type,
      length-map (range_with_len 1 (attribute_count n)) (made_attribute n),
      length-range_with_len 1 n,
      length-range_with_len 1 (attribute_count n),
    )

pub types-fit : (n : ℕ) → n ≤ 5000 → TableFits TypeFits (record { nprim = n + attribute_count n; records = made_types n })
unfolding made_types
types-fit n most = record {
  nprim = omega arith;
  nel = omega (arith, length-made_types n);
  records = all-append TypeFits (map made_type (range_with_len 1 n)) (map (made_attribute n) (range_with_len 1 (attribute_count n)))
      (all-map TypeFits made_type (range_with_len 1 n) (all-range (λ k. TypeFits (made_type k)) 1 n (λ k above below. type-fits k (omega arith))))
      (all-map TypeFits (made_attribute n) (range_with_len 1 (attribute_count n)) (all-range (λ k. TypeFits (made_attribute n k)) 1 (attribute_count n) (λ k above below. attribute-fits n k most (omega arith))));
}

pub types-granted : (n : ℕ) → n ≤ 5000 → GrantsBare (table_at (λ context. type_at context.taken context.nprim) after_type table_start) (record { nprim = n + attribute_count n; records = made_types n }) (spell_table spell_type (record { nprim = n + attribute_count n; records = made_types n }))
types-granted n most =
    grants-table (λ context. type_at context.taken context.nprim) after_type table_start spell_type (λ left. TypeMay) (λ left context t may. type-granted context.taken context.nprim t may.0 may.1)
    (record { nprim = n + attribute_count n; records = made_types n }) (omega arith) (omega (arith, length-made_types n)) (types-stand n most)

-- ---- categories

category-fits : (number : ℕ) → number < 1024 → CategoryFits (made_category number)
unfolding made_category
category-fits number few = record { len = (category-is_name number (omega arith)).short; value = omega arith; isalias = omega arith }

abbrev pub after_category : TableContext → CategoryRec → TableContext
after_category context category = record context { taken = claims_after context.taken category.name (is_primary_flag category.isalias) category.value }

abbrev CategoryMay : TableContext → CategoryRec → Type 0
CategoryMay context category = CategoryFits category × MayStand context.taken context.nprim category.name category.value × (category.isalias ≤ 1)

-- before the category of that number
record BeforeCategory (count number : ℕ) (context : TableContext) : Type 0 where
  nprim : context.nprim ≡ count
  categories : AreFree category_name (λ k. k + 1) number count context.taken

category-step : (count : ℕ) → count ≤ 1024 → (k : ℕ) (context : TableContext) → k < count → BeforeCategory count k context → CategoryMay context (made_category k) × BeforeCategory count (k + 1) (after_category context (made_category k))
unfolding made_category
category-step count most k context below before =
    let within : k + 1 ≤ context.nprim = omega (arith, before.nprim) in (
      (
        category-fits k (omega arith),
        record { is_name = category-is_name k (omega arith); name_is_new = before.categories.name k (omega arith) below; least = omega arith; most = within; value_is_new = before.categories.value k (omega arith) below },
        omega arith,
      ),
      record {
        nprim = before.nprim;
        categories = free-behind k (k + 1) count context.taken (category_name k) (k + 1) (omega arith) before.categories
            (λ j above j-below. categories-apart j k (omega arith) (omega arith) (λ e. omega (arith, e, above)))
            (λ j above j-below. ne_eqb (j + 1) (k + 1) (λ e. omega (arith, e, above)));
      },
    )

categories-stand : (count : ℕ) → count ≤ 1024 → EachUnder (λ left. CategoryMay) after_category (table_start count) (categories_of count)
unfolding categories_of
categories-stand count most =
    each-last-run CategoryMay after_category made_category (BeforeCategory count) count (category-step count most) 0 count (omega arith) (table_start count)
    (record { nprim = refl; categories = all-free category_name (λ k. k + 1) 0 count })

pub length-categories : (count : ℕ) → length (categories_of count) ≡ count
unfolding categories_of
length-categories count = omega (arith, length-map (range_with_len 0 count) made_category, length-range_with_len 0 count)

pub categories-fit : (count : ℕ) → count ≤ 1024 → TableFits CategoryFits (record { nprim = count; records = categories_of count })
unfolding categories_of
categories-fit count most = record {
  nprim = omega arith;
  nel = omega (arith, length-categories count);
  records = all-map CategoryFits made_category (range_with_len 0 count) (all-range (λ k. CategoryFits (made_category k)) 0 count (λ k above below. category-fits k (omega arith)));
}

pub categories-granted : (count : ℕ) → count ≤ 1024 → GrantsBare (table_at (λ context. category_at context.taken context.nprim) after_category table_start) (record { nprim = count; records = categories_of count }) (spell_table spell_category (record { nprim = count; records = categories_of count }))
categories-granted count most =
    grants-table (λ context. category_at context.taken context.nprim) after_category table_start spell_category (λ left. CategoryMay) (λ left context category may. category-granted context.taken context.nprim category may.0 may.1 may.2)
    (record { nprim = count; records = categories_of count }) (omega arith) (omega (arith, length-categories count)) (categories-stand count most)
