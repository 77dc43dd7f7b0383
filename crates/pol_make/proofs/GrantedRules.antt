-- The table of rules of a policy that is made is read: no condition refuses a rule of it.
use Rattle.std.proofs.Common.{◌≡◌, ℕ, ◌+◌, ◌*◌, ◌^◌, ◌<◌, ◌≤◌, false, Some, None, List, [], ◌∷◌, ◌++◌, length, refl, sym, ap, subst, ◌∙◌, append_assoc, arith}
use Rattle.std.specs.List.{range_with_len, AllByRecursion}
use Rattle.std.proofs.Math.Nat.{mod-lt}
use Rattle.std.proofs.lemmas.List.{append-nil}
use Rattle.std.proofs.lemmas.List.FromFn.{length-range_with_len}
use Rattle.pol_fields.specs.declared.fields.TheConstants.{AV_SOURCE, AV_TARGET, AV_CLASS, AV_SPECIFIED, AV_DATA, AVTAB_NEL}
use Rattle.pol_cursor.specs.Parts.{spell_counted}
use Rattle.pol_cursor.specs.References.{values_of}
use Rattle.pol_avtab.specs.declared.AvKey.{AvKey}
use Rattle.pol_avtab.specs.declared.AvRec.{AvRec}
use Rattle.pol_avtab.specs.declared.AvPart.TheVariants.{Data}
use Rattle.pol_avtab.specs.AvKeys.{key_of, has_key, with_key}
use Rattle.pol_avtab.specs.AvRecord.{specified_test, data_at, part_at, av_at, spell_av}
use Rattle.pol_avtab.specs.AvTables.{Earlier, rule_at, after_rule, no_rules, table_at, rules_at, plain_table_at}
use Rattle.pol_avtab.proofs.AvLaws.{table_unplaced}
use Rattle.pol_make.specs.MadeSymbols.{attribute_count}
use Rattle.pol_make.specs.MadeRules.{ring_value, allow, transition_rules, file_rules, attribute_rule, rules_of, made_rules}
use Rattle.pol_moved.proofs.Granted.{GrantsOf, EachUnder, grants-done, grants-then, grants-as, grants-number, grants-number_if, grants-list_of, grants-counted, grants-through}
use Rattle.pol_make.proofs.GrantedTables.{GrantsValues}
use Rattle.pol_moved.proofs.ListFacts.{all-append, all-so, all-map, all-flat_map, all-range, length-flat_map-same}
use Rattle.pol_make.proofs.RuleNumbers.{number_of, AreNumbered, AreBelow, length-rules_of, rules-numbered, number-is_new}

-- ---- what each rule is

-- an allow rule for a type or an attribute to a type, of one of the three classes
pub record IsMadeRule (n : ℕ) (av : AvRec) : Type 0 where
  pub permissions : ℕ
  pub is : av ≡ allow av.source av.target av.class permissions
  pub source : (1 ≤ av.source) × (av.source ≤ n + attribute_count n)
  pub target : (1 ≤ av.target) × (av.target ≤ n)
  pub class : (1 ≤ av.class) × (av.class ≤ 3)
  pub few : permissions < 2 ^ 32

-- a value of the ring is one of its n types
ring-within : (n i places : ℕ) → 20 ≤ n → ring_value n i places ≤ n
ring-within n i places many = let some : 0 < n = omega (arith, many) in omega (arith, mod-lt (i + places) some)

type-rule : (n i class places permissions : ℕ) → 20 ≤ n → 1 ≤ class → class ≤ 3 → permissions < 2 ^ 32 → IsMadeRule n (allow (ring_value n i 0) (ring_value n i places) class permissions)
type-rule n i class places permissions many first last few = record {
  permissions = permissions;
  is = refl;
  source = (omega arith, omega (arith, ring-within n i 0 many));
  target = (omega arith, ring-within n i places many);
  class = (first, last);
  few = few;
}

attribute-rule : (n i : ℕ) → 20 ≤ n → IsMadeRule n (attribute_rule n i)
attribute-rule n i many =
    let some : 0 < attribute_count n = omega (arith, many) in
    record {
      permissions = 2;
      is = refl;
      source = (omega arith, omega (arith, mod-lt i some));
      target = (omega arith, ring-within n i 19 many);
      class = (omega arith, omega arith);
      few = omega arith;
    }

of-one-made : (n i : ℕ) → 20 ≤ n → AllByRecursion (IsMadeRule n) (rules_of n i)
unfolding rules_of
of-one-made n i many =
    let first : AllByRecursion (IsMadeRule n) (transition_rules n i) = (
      type-rule n i 3 1 1 many (omega arith) (omega arith) (omega arith),
      (
        type-rule n i 3 0 2 many (omega arith) (omega arith) (omega arith),
        (
          type-rule n i 1 2 32 many (omega arith) (omega arith) (omega arith),
          (
            type-rule n i 1 1 64 many (omega arith) (omega arith) (omega arith),
            tt,
          ),
        ),
      ),
    ) in
    let files : AllByRecursion (IsMadeRule n) (file_rules n i) =
    all-map (IsMadeRule n) (λ places. allow (ring_value n i 0) (ring_value n i places) 1 6) (range_with_len 4 15)
    (all-range (λ places. IsMadeRule n (allow (ring_value n i 0) (ring_value n i places) 1 6)) 4 15 (λ places above below. type-rule n i 1 places 6 many (omega arith) (omega arith) (omega arith))) in
    all-append (IsMadeRule n) (transition_rules n i) (file_rules n i ++ attribute_rule n i ∷ []) first
    (all-append (IsMadeRule n) (file_rules n i) (attribute_rule n i ∷ []) files (attribute-rule n i many, tt))

pub rules-made : (n : ℕ) → 20 ≤ n → AllByRecursion (IsMadeRule n) (made_rules n)
unfolding made_rules
rules-made n many = all-flat_map (IsMadeRule n) (rules_of n) (range_with_len 0 n) (all-range (λ i. AllByRecursion (IsMadeRule n) (rules_of n i)) 0 n (λ i above below. of-one-made n i many))

-- twenty of each type
pub length-made_rules : (n : ℕ) → length (made_rules n) ≡ n * 20
unfolding made_rules
length-made_rules n =
    length-flat_map-same (rules_of n) 20 (range_with_len 0 n) (all-range (λ i. length (rules_of n i) ≡ 20) 0 n (λ i above below. length-rules_of n i))
    ∙ ap (λ (k : ℕ). k * 20) (length-range_with_len 0 n)

-- ---- one rule

allow-granted : (context : Earlier) (source target class permissions : ℕ) → source < 2 ^ 16 → target < 2 ^ 16 → class < 2 ^ 16 → permissions < 2 ^ 32 → has_key context.keys (key_of (allow source target class permissions)) ≡ false
    → GrantsOf (rule_at context) (allow source target class permissions) (spell_av (allow source target class permissions))
unfolding av_at part_at data_at
allow-granted context source target class permissions source-fits target-fits class-fits few new =
    let meets : specified_test context.version (Some context.keys) (key_of (allow source target class permissions)) ≡ None = rw new refl in
    grants-as
    (grants-then _ (grants-number AV_SOURCE 2 source source-fits)
    (grants-then _ (grants-number AV_TARGET 2 target target-fits)
    (grants-then _ (grants-number AV_CLASS 2 class class-fits)
    (grants-then _ (grants-number_if AV_SPECIFIED 2 1 _ (omega arith) meets)
    (grants-then _ (grants-then _ (grants-number AV_DATA 4 permissions few) (grants-done (Data permissions) refl))
    (grants-done (allow source target class permissions) refl))))))
    (simp (append_assoc, append-nil))

-- a rule whose key no rule before it has
record MayStand (n : ℕ) (left : ℕ) (context : Earlier) (av : AvRec) : Type 0 where
  made : IsMadeRule n av
  new : has_key context.keys (key_of av) ≡ false

rule-granted : (n : ℕ) → n ≤ 5000 → (left : ℕ) (context : Earlier) (av : AvRec) → MayStand n left context av → GrantsOf (rule_at context) av (spell_av av)
rule-granted n most left context av may =
    let made = may.made in
    let new : has_key context.keys (key_of (allow av.source av.target av.class made.permissions)) ≡ false = subst (λ (v : AvRec). has_key context.keys (key_of v) ≡ false) made.is may.new in
    subst (λ (v : AvRec). GrantsOf (rule_at context) v (spell_av v)) (sym made.is)
    (allow-granted context av.source av.target av.class made.permissions (omega (arith, made.source.1, most)) (omega (arith, made.target.1, most)) (omega (arith, made.class.1)) made.few new)

-- ---- the table

below-more : (n number : ℕ) (keys : List AvKey) (key : AvKey) → has_key keys key ≡ false → number_of n key ≡ number → AreBelow n number keys → AreBelow n (number + 1) (with_key keys key)
below-more n number keys key new is below =
    rw new (all-append (λ k. number_of n k < number + 1) keys (key ∷ []) (all-so keys (λ k less. omega (arith, less)) below) (omega (arith, is), tt))

rules-stand : (n first : ℕ) (avs : List AvRec) (context : Earlier) → AllByRecursion (IsMadeRule n) avs → AreNumbered n first avs → AreBelow n first context.keys → EachUnder (MayStand n) after_rule context avs
rules-stand n first [] context made numbered below = tt
rules-stand n first (av ∷ avs) context made numbered below =
    let new : has_key context.keys (key_of av) ≡ false = number-is_new n context.keys (key_of av) (rw numbered.0 below) in
    (record { made = made.0; new = new }, rules-stand n (first + 1) avs (after_rule context av) made.1 numbered.1 (below-more n first context.keys (key_of av) new numbered.0 below))

-- The table is read.
pub rule_table-granted : (version n : ℕ) → 20 ≤ n → n ≤ 5000 → GrantsValues (table_at version) (made_rules n) (spell_counted spell_av (made_rules n))
unfolding plain_table_at rules_at
rule_table-granted version n many most =
    let stand = rules-stand n 0 (made_rules n) (no_rules version) (rules-made n many) (rules-numbered n many) tt in
    grants-through (table_at version) (plain_table_at version) (λ rules. values_of rules) (λ avs. avs ≡ made_rules n) (spell_counted spell_av (made_rules n)) (table_unplaced version)
    (grants-counted AVTAB_NEL (rules_at version) spell_av (made_rules n) (omega (arith, length-made_rules n, most))
    (grants-list_of (λ left context. rule_at context) after_rule spell_av (MayStand n) (λ left context av may. rule-granted n most left context av may) (made_rules n) (no_rules version) stand))
