-- The keys of ranks compare as those of names do.
use Rattle.std.proofs.Common.{◌≡◌, ℕ, ◌<◌, Bool, true, false, List, Option, Some, None, slice_get, get_or, refl, sym, ap, ◌∙◌, subst, arith}
use Rattle.std.specs.Prelude.{option_map, ◌==◌, if◌then◌else◌}
use Rattle.std.specs.declared.cmp.Ordering.{Ordering}
use Rattle.std.specs.declared.cmp.Ordering.TheVariants.{Less, Equal, Greater}
use Rattle.std.specs.Option.{option_cmp}
use Rattle.std.specs.Ordering.{is_lt, is_le, nat_cmp, ordering_then, ordering_reverse}
use Rattle.std.specs.Cmp.{IsTotalOrder}
use Rattle.std.specs.Cmp.Lexicographic.{slice_cmp, options_total}
use Rattle.std.specs.List.Sorted.{IsSortedByKey}
use Rattle.std.proofs.lemmas.Cmp.{nat_cmp_total, on_total, then_total}
use Rattle.std.proofs.lemmas.List.Sorted.{ranks_by, sorted_far}
use Rattle.std.proofs.lemmas.Option.{slice_get_within, get_or_from_slice_get}
use Rattle.pol_fields.specs.declared.TableKind.{TableKind}
use Rattle.pol_fields.specs.declared.TableKind.TheVariants.{Commons, Classes, Roles, Types, Users, Booleans, Levels, Categories}
use Rattle.pol_cursor.specs.References.{Placed}
use Rattle.pol_symtab.specs.SymbolTables.{primary_name, rank_of, names_below}
use Rattle.pol_symtab.proofs.RankLaw.{ranks_order}
use Rattle.pol_symtab.proofs.ByteOrder.{equal_is_same, greater_is_below, less_is_below}
use Rattle.pol_symbols.specs.PolicySymbols.{name_in, rank_in}
use Rattle.pol_symbols.specs.declared.Symbols.{Symbols}
use Rattle.pol_read.specs.declared.rule.RuleKind.{RuleKind}
use Rattle.pol_read.specs.declared.rule.RuleKind.TheVariants.{Allow, Auditallow, Dontaudit, AllowXperm, AuditallowXperm, DontauditXperm, TypeTransition, TypeChange, TypeMember, RoleAllow, RoleTransition, RangeTransition}
use Rattle.pol_read.specs.declared.rule_order.RuleKey.{RuleKey}
use Rattle.pol_file.specs.declared.Parts.{Parts}
use Rattle.pol_read.specs.StoredRules.{StoredRule, stored_rules}
use Rattle.pol_read.specs.RuleOrder.{name_cmp, names_cmp, rule_names, rule_key, rule_key_of, keys_cmp, AreInRuleOrder}
use Rattle.pol_read.specs.RuleKinds.{kind_number, source_table, target_table}

-- ---- numbers

less_is : (m n : ℕ) → m < n → nat_cmp m n ≡ Less
less_is m n lt = grind (arith, lt)

greater_is : (m n : ℕ) → n < m → nat_cmp m n ≡ Greater
greater_is m n lt = grind (arith, lt)

same_is : (m n : ℕ) → m ≡ n → nat_cmp m n ≡ Equal
same_is m n e = grind (arith, e)

equal_numbers : (m n : ℕ) → nat_cmp m n ≡ Equal → m ≡ n
equal_numbers m n e = grind (arith, e)

-- ---- one table

module _ {A : Type 0} (name_of : A → List ℕ) (is_primary : A → Bool) (value_of : A → ℕ) (records : List (Placed A)) (a b : ℕ) where
  both_named : (x y : List ℕ) → primary_name name_of is_primary value_of records a ≡ Some x → primary_name name_of is_primary value_of records b ≡ Some y
      → nat_cmp (names_below name_of is_primary records x) (names_below name_of is_primary records y) ≡ slice_cmp nat_cmp x y
  unfolding rank_of
  both_named x y is is' = go (slice_cmp nat_cmp x y) refl
    where
      go : (o : Ordering) → slice_cmp nat_cmp x y ≡ o → nat_cmp (names_below name_of is_primary records x) (names_below name_of is_primary records y) ≡ o
      go Less e = less_is _ _ ((ranks_order name_of is_primary value_of records a b x y _ _ is is' (ap (option_map (names_below name_of is_primary records)) is) (ap (option_map (names_below name_of is_primary records)) is')).1 (less_is_below x y e))
      go Equal e = same_is _ _ (ap (names_below name_of is_primary records) (equal_is_same x y e))
      go Greater e = greater_is _ _ ((ranks_order name_of is_primary value_of records b a y x _ _ is' is (ap (option_map (names_below name_of is_primary records)) is') (ap (option_map (names_below name_of is_primary records)) is)).1 (greater_is_below x y e))

  compared : (x y : Option (List ℕ)) → primary_name name_of is_primary value_of records a ≡ x → primary_name name_of is_primary value_of records b ≡ y
      → option_cmp nat_cmp (option_map (names_below name_of is_primary records) x) (option_map (names_below name_of is_primary records) y) ≡ option_cmp (slice_cmp nat_cmp) x y
  compared None None is is' = refl
  compared None (Some y) is is' = refl
  compared (Some x) None is is' = refl
  compared (Some x) (Some y) is is' = both_named x y is is'

  ranks_compare : option_cmp nat_cmp (rank_of name_of is_primary value_of records a) (rank_of name_of is_primary value_of records b)
      ≡ option_cmp (slice_cmp nat_cmp) (primary_name name_of is_primary value_of records a) (primary_name name_of is_primary value_of records b)
  unfolding rank_of
  ranks_compare = compared (primary_name name_of is_primary value_of records a) (primary_name name_of is_primary value_of records b) refl refl

-- ---- any table

pub ranks_as_names : (symbols : Symbols) (table : TableKind) (a b : ℕ) → option_cmp nat_cmp (rank_in symbols table a) (rank_in symbols table b) ≡ name_cmp (name_in symbols table a) (name_in symbols table b)
ranks_as_names symbols Commons a b = ranks_compare _ _ _ _ a b
ranks_as_names symbols Classes a b = ranks_compare _ _ _ _ a b
ranks_as_names symbols Roles a b = ranks_compare _ _ _ _ a b
ranks_as_names symbols Types a b = ranks_compare _ _ _ _ a b
ranks_as_names symbols Users a b = ranks_compare _ _ _ _ a b
ranks_as_names symbols Booleans a b = ranks_compare _ _ _ _ a b
ranks_as_names symbols Levels a b = ranks_compare _ _ _ _ a b
ranks_as_names symbols Categories a b = ranks_compare _ _ _ _ a b

pub ranks_in_one_table : (symbols : Symbols) (table other : TableKind) (a b : ℕ) → table ≡ other → option_cmp nat_cmp (rank_in symbols table a) (rank_in symbols other b) ≡ name_cmp (name_in symbols table a) (name_in symbols other b)
ranks_in_one_table symbols table other a b e = subst (λ (u : TableKind). option_cmp nat_cmp (rank_in symbols table a) (rank_in symbols u b) ≡ name_cmp (name_in symbols table a) (name_in symbols u b)) e (ranks_as_names symbols table a b)

-- ---- rules of one kind have their sources in one table, and their targets

source_by_number : ℕ → TableKind
source_by_number n = if n == 9 then Roles else if n == 10 then Roles else Types

target_by_number : ℕ → TableKind
target_by_number n = if n == 9 then Roles else Types

source_is : (kind : RuleKind) → source_table kind ≡ source_by_number (kind_number kind)
unfolding source_by_number
source_is Allow = refl
source_is Auditallow = refl
source_is Dontaudit = refl
source_is AllowXperm = refl
source_is AuditallowXperm = refl
source_is DontauditXperm = refl
source_is TypeTransition = refl
source_is TypeChange = refl
source_is TypeMember = refl
source_is RoleAllow = refl
source_is RoleTransition = refl
source_is RangeTransition = refl

target_is : (kind : RuleKind) → target_table kind ≡ target_by_number (kind_number kind)
unfolding target_by_number
target_is Allow = refl
target_is Auditallow = refl
target_is Dontaudit = refl
target_is AllowXperm = refl
target_is AuditallowXperm = refl
target_is DontauditXperm = refl
target_is TypeTransition = refl
target_is TypeChange = refl
target_is TypeMember = refl
target_is RoleAllow = refl
target_is RoleTransition = refl
target_is RangeTransition = refl

same_sources : (k l : RuleKind) → kind_number k ≡ kind_number l → source_table k ≡ source_table l
same_sources k l e = source_is k ∙ ap source_by_number e ∙ sym (source_is l)

same_targets : (k l : RuleKind) → kind_number k ≡ kind_number l → target_table k ≡ target_table l
same_targets k l e = target_is k ∙ ap target_by_number e ∙ sym (target_is l)

-- ---- whole keys

keys_total : IsTotalOrder keys_cmp
keys_total =
    then_total (on_total (λ (key : RuleKey). key.kind) nat_cmp_total)
    (then_total (on_total (λ (key : RuleKey). key.source) (options_total nat_cmp_total))
    (then_total (on_total (λ (key : RuleKey). key.target) (options_total nat_cmp_total))
    (then_total (on_total (λ (key : RuleKey). key.class) (options_total nat_cmp_total))
    (on_total (λ (key : RuleKey). key.number) nat_cmp_total))))

then_alike : (o p q : Ordering) → (o ≡ Equal → p ≡ q) → ordering_then o p ≡ ordering_then o q
then_alike Less p q h = refl
then_alike Equal p q h = h refl
then_alike Greater p q h = refl

both_alike : (o o' p p' : Ordering) → o ≡ o' → p ≡ p' → ordering_then o p ≡ ordering_then o' p'
both_alike o o' p p' e f = rw (e, f) refl

-- a key of ranks is below another exactly where the key of names is
pub keys_as_names : (symbols : Symbols) (m n : ℕ) (r s : StoredRule) → keys_cmp (rule_key symbols m r) (rule_key symbols n s) ≡ names_cmp (rule_names symbols m r) (rule_names symbols n s)
keys_as_names symbols m n r s =
    then_alike (nat_cmp (kind_number r.kind) (kind_number s.kind)) _ _ λ e.
    let kinds = equal_numbers (kind_number r.kind) (kind_number s.kind) e in
    both_alike _ _ _ _ (ranks_in_one_table symbols (source_table r.kind) (source_table s.kind) r.source s.source (same_sources r.kind s.kind kinds))
    (both_alike _ _ _ _ (ranks_in_one_table symbols (target_table r.kind) (target_table s.kind) r.target s.target (same_targets r.kind s.kind kinds))
    (both_alike _ _ _ _ (ranks_as_names symbols Classes r.class s.class) refl))

-- ---- sorted numbers

not_behind : (o : Ordering) → is_lt (ordering_reverse o) ≡ false → is_le o ≡ true
not_behind Less e = refl
not_behind Equal e = refl
not_behind Greater e = absurd cc

-- keys that there may be compare alike too
rules_alike : (symbols : Symbols) (m n : ℕ) (r s : Option StoredRule)
    → option_cmp keys_cmp (option_map (rule_key symbols m) r) (option_map (rule_key symbols n) s) ≡ option_cmp names_cmp (option_map (rule_names symbols m) r) (option_map (rule_names symbols n) s)
rules_alike symbols m n None None = refl
rules_alike symbols m n None (Some s) = refl
rules_alike symbols m n (Some r) None = refl
rules_alike symbols m n (Some r) (Some s) = keys_as_names symbols m n r s

behind_at : (p : ℕ → ℕ → Bool) (x y m n : ℕ) → x ≡ m → y ≡ n → p x y ≡ false → p m n ≡ false
behind_at p x y m n e f h = rw (e, f) at h

-- what is sorted by ranks is in the order of names
pub in_rule_order : (policy : Parts) (numbers : List ℕ) → IsSortedByKey (rule_key_of policy) (option_cmp keys_cmp) numbers → AreInRuleOrder policy numbers
in_rule_order policy numbers sorted i j m n lt at at' =
    let keys = options_total keys_total in
    let below = λ (x y : ℕ). is_lt (option_cmp keys_cmp (rule_key_of policy x) (rule_key_of policy y)) in
    let back = behind_at below (get_or numbers j 0) (get_or numbers i 0) n m (get_or_from_slice_get numbers j n 0 at') (get_or_from_slice_get numbers i m 0 at)
    (sorted_far below (ranks_by keys (rule_key_of policy)) numbers sorted i j 0 (omega (arith, lt)) (slice_get_within numbers j n at')) in
    ap is_le (sym (rules_alike policy.symbols m n (slice_get (stored_rules policy) m) (slice_get (stored_rules policy) n)))
    ∙ not_behind (option_cmp keys_cmp (rule_key_of policy m) (rule_key_of policy n)) (ap is_lt (sym (keys.antisymm (rule_key_of policy n) (rule_key_of policy m))) ∙ back)
