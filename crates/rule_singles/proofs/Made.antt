-- The entries that are made, rule by rule.
use Rattle.std.proofs.Common.{◌≡◌, ℕ, ◌*◌, ◌≤◌, Option, Some, None, List, [], ◌∷◌, ◌++◌, Bool, length, map, refl, sym, ap, ◌∙◌, arith, length-append}
use Rattle.std.specs.Prelude.{option_map, slice_get}
use Rattle.std.specs.List.{All, filter}
use Rattle.std.proofs.lemmas.List.Elements.{All-append, All-cons, All-head, All-nil, All-tail, All-weaker}
use Rattle.std.proofs.lemmas.Option.{same_Some}
use Rattle.pol_fields.specs.declared.TableKind.{TableKind}
use Rattle.pol_fields.specs.declared.TableKind.TheVariants as tables
use Rattle.pol_bitmap.specs.declared.Node.{Node}
use Rattle.pol_file.specs.declared.Parts.{Parts}
use Rattle.pol_expand.specs.PolicyMap.{expand}
use Rattle.set_products.specs.declared.Entry.{Entry}
use Rattle.set_products.specs.Members.{AreNumbers, HasNumbers, Product, bits_at, product_of, products_of}
use Rattle.pol_read.specs.declared.rule.RuleEnds.{RuleEnds}
use Rattle.pol_read.specs.DeclaredRules.{AreDeclaredEnds, IsDeclaredIn}
use Rattle.pol_read.specs.RuleKinds.{source_table, target_table}
use Rattle.pol_read.specs.StoredRules.{StoredRule, ends_of, stored_rules}
use Rattle.rule_criteria.specs.declared.Criteria.{Criteria}
use Rattle.rule_criteria.specs.declared.Criterion.{Criterion}
use Rattle.rule_singles.specs.Inner.EndSets.{AreAsked, AreSetsOf, Grows, IsEntryOf, IsNumberIn, ends_left, leaves}
use Rattle.rule_singles.specs.FoundSingles.{ends_found, ends_of_rule, is_listed_end, listed_ends}
use Rattle.rule_singles.proofs.DeclaredMembers.{members_are_declared}
use Rattle.rule_singles.proofs.Pools.{bits_stay, longer}

-- ---- what is left is what is listed

filter_alike : (p q : ℕ → Bool) (xs : List ℕ) → All (λ x. p x ≡ q x) xs → filter p xs ≡ filter q xs
filter_alike p q [] h = refl
filter_alike p q (x ∷ xs) h = rw (All-head (λ (x : ℕ). p x ≡ q x) x xs h, filter_alike p q xs (All-tail (λ (x : ℕ). p x ≡ q x) x xs h)) refl

module _ (policy : Parts) (criterion : Option Criterion) (left : Option (List Node)) (asked : AreAsked policy criterion left) (value : ℕ) where
  types_alike : IsDeclaredIn policy.symbols tables.Types value → filter (leaves left) (expand policy value) ≡ filter (is_listed_end policy criterion) (expand policy value)
  types_alike declared =
      let members = expand policy value in
      filter_alike (leaves left) (is_listed_end policy criterion) members
      (All-weaker (IsDeclaredIn policy.symbols tables.Types) (λ (type : ℕ). leaves left type ≡ is_listed_end policy criterion type) (λ type d. asked.each type d) members (members_are_declared policy value declared))

  ends_alike : (table : TableKind) → IsDeclaredIn policy.symbols table value → ends_left policy left table value ≡ listed_ends policy criterion table value
  ends_alike tables.Types declared = types_alike declared
  ends_alike tables.Commons declared = refl
  ends_alike tables.Classes declared = refl
  ends_alike tables.Roles declared = refl
  ends_alike tables.Users declared = refl
  ends_alike tables.Booleans declared = refl
  ends_alike tables.Levels declared = refl
  ends_alike tables.Categories declared = refl

-- ---- entries

-- what the ends of a rule stand for
abbrev listed : Parts → Criteria → ℕ → RuleEnds → Product
listed policy criteria number ends = record {
  rule = number;
  sources = listed_ends policy criteria.source (source_table ends.kind) ends.source;
  targets = listed_ends policy criteria.target (target_table ends.kind) ends.target;
}

ends_listed : (policy : Parts) (criteria : Criteria) (number : ℕ) (ends : RuleEnds) (found : Option StoredRule) → option_map ends_of found ≡ Some ends → ends_found policy criteria number found ≡ listed policy criteria number ends
ends_listed policy criteria number ends None e = absurd cc
ends_listed policy criteria number ends (Some rule) e = ap (listed policy criteria number) (same_Some (ends_of rule) ends e)

-- the entry of a rule that has these ends
pub entry_is : (policy : Parts) (criteria : Criteria) (sources targets : Option (List Node)) (sets : List (List Node)) (number from to : ℕ) (ends : RuleEnds)
    → AreAsked policy criteria.source sources → AreAsked policy criteria.target targets
    → option_map ends_of (slice_get (stored_rules policy) number) ≡ Some ends → AreDeclaredEnds policy ends
    → IsNumberIn sets (ends_left policy sources (source_table ends.kind) ends.source) from → IsNumberIn sets (ends_left policy targets (target_table ends.kind) ends.target) to
    → IsEntryOf policy criteria sets number (record { rule = number; sources = from; targets = to })
unfolding ends_of_rule
entry_is policy criteria sources targets sets number from to ends asked_sources asked_targets found declared s t =
    let from_is = s.right ∙ ends_alike policy criteria.source sources asked_sources ends.source (source_table ends.kind) declared.source in
    let to_is = t.right ∙ ends_alike policy criteria.target targets asked_targets ends.target (target_table ends.kind) declared.target in
    let are : product_of sets (record { rule = number; sources = from; targets = to }) ≡ listed policy criteria number ends = λ i. record { rule = number; sources = from_is i; targets = to_is i } in
    record {
      numbers = (s.there, t.there);
      right = are ∙ sym (ends_listed policy criteria number ends (slice_get (stored_rules policy) number) found);
    }

-- it stays where the pool grows
entry_stays : (most : ℕ) (old new : List (List Node)) (e : Entry) → Grows most old new → HasNumbers old e → HasNumbers new e × (product_of new e ≡ product_of old e)
entry_stays most old new e g h =
    let le = longer most old new g in
    let s : bits_at new e.sources ≡ bits_at old e.sources = bits_stay most old new e.sources g h.0 in
    let t : bits_at new e.targets ≡ bits_at old e.targets = bits_stay most old new e.targets g h.1 in
    ((omega (arith, le.0, h.0), omega (arith, le.0, h.1)), λ i. record { rule = e.rule; sources = s i; targets = t i })

entries_stay : (most : ℕ) (old new : List (List Node)) (es : List Entry) → Grows most old new → AreNumbers es old → AreNumbers es new × (products_of es new ≡ products_of es old)
entries_stay most old new [] g h = (All-nil (HasNumbers new), refl)
entries_stay most old new (e ∷ es) g h =
    let one = entry_stays most old new e g (All-head (HasNumbers old) e es h) in
    let rest = entries_stay most old new es g (All-tail (HasNumbers old) e es h) in
    (All-cons (HasNumbers new) e es one.0 rest.0, ap (λ (p : Product). p ∷ products_of es new) one.1 ∙ ap (λ (ps : List Product). product_of old e ∷ ps) rest.1)

mapped-append : {A B : Type 0} (f : A → B) (xs : List A) (x : A) → map f (xs ++ x ∷ []) ≡ map f xs ++ f x ∷ []
mapped-append f [] x = refl
mapped-append f (y ∷ ys) x = ap (λ zs. f y ∷ zs) (mapped-append f ys x)

-- ---- the entries of some rules

-- They were made: at most two sets a rule are in the pool.
pub record AreMade (policy : Parts) (criteria : Criteria) (numbers : List ℕ) (sets : List (List Node)) (entries : List Entry) : Type 0 where
  pub numbers_are : AreNumbers entries sets
  pub right : products_of entries sets ≡ map (ends_of_rule policy criteria) numbers
  pub few : length sets ≤ 2 * length numbers

pub made_none : (policy : Parts) (criteria : Criteria) → AreMade policy criteria [] [] []
made_none policy criteria = record { numbers_are = All-nil (HasNumbers []); right = refl; few = omega arith }

pub made_more : (policy : Parts) (criteria : Criteria) (numbers : List ℕ) (old new : List (List Node)) (entries : List Entry) (number : ℕ) (entry : Entry)
    → AreMade policy criteria numbers old entries → Grows 2 old new → IsEntryOf policy criteria new number entry
    → AreMade policy criteria (numbers ++ number ∷ []) new (entries ++ entry ∷ [])
made_more policy criteria numbers old new entries number entry h g one =
    let stays = entries_stay 2 old new entries g h.numbers_are in
    let le = longer 2 old new g in
    record {
      numbers_are = All-append (HasNumbers new) entries (entry ∷ []) stays.0 (All-cons (HasNumbers new) entry [] one.numbers (All-nil (HasNumbers new)));
      right = mapped-append (product_of new) entries entry
          ∙ ap (λ (ps : List Product). ps ++ product_of new entry ∷ []) (stays.1 ∙ h.right)
          ∙ ap (λ (p : Product). map (ends_of_rule policy criteria) numbers ++ p ∷ []) one.right
          ∙ sym (mapped-append (ends_of_rule policy criteria) numbers number);
      few = omega (arith, h.few, le.1, length-append numbers (number ∷ []));
    }

-- ---- the whole loop

-- what holds after some rules
pub record Making (policy : Parts) (criteria : Criteria) (sources targets : Option (List Node)) (from to : List (Option ℕ)) (numbers : List ℕ) (sets : List (List Node)) (entries : List Entry) : Type 0 where
  pub sources_asked : AreAsked policy criteria.source sources
  pub targets_asked : AreAsked policy criteria.target targets
  pub sources_known : AreSetsOf policy sources sets from
  pub targets_known : AreSetsOf policy targets sets to
  pub made : AreMade policy criteria numbers sets entries
