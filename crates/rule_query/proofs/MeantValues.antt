-- Sets of the values that are meant, listed or asked.
use Rattle.std.proofs.Common.{◌≡◌, ℕ, Bool, true, false, Option, Some, None, Result, Ok, Err, IfOk, List, [], ◌∷◌, refl, ap, ◌∙◌}
use Rattle.std.specs.Prelude.{◌||◌, if◌then◌else◌}
use Rattle.pol_fields.specs.declared.TableKind.{TableKind}
use Rattle.pol_fields.specs.declared.TableKind.TheVariants.{Types}
use Rattle.pol_bitmap.specs.declared.Node.{Node}
use Rattle.pol_bitmap.specs.Nodes.{has_bit}
use Rattle.pol_symbols.specs.PolicySymbols.{value_in}
use Rattle.pol_symbols.specs.declared.Symbols.{Symbols}
use Rattle.pol_file.specs.declared.Parts.{Parts}
use Rattle.regex.specs.declared.string.regex.Regex.{Regex}
use Rattle.se_outside.specs.Patterns.{IsBuiltFrom}
use Rattle.named_values.specs.Named.{is_value, is_named}
use Rattle.named_values.specs.Found.{is_found}
use Rattle.rule_criteria.specs.Modes.{is_pattern}
use Rattle.rule_criteria.specs.declared.Criterion.{Criterion}
use Rattle.rule_query.specs.Ends.{is_meant}
use Rattle.rule_query.specs.Inner.LookedUp.{HasPattern, is_asked_name, is_asked_type}

-- ---- a set of values where the criterion is a pattern, and where it is none

-- what a pattern finds in a table
abbrev pub Finds : Symbols → TableKind → Regex → List Node → Type 0
Finds symbols table pattern set = (text : List ℕ) → IsBuiltFrom text pattern → (value : ℕ) → has_bit set value ≡ is_found symbols table text value

either_found : (b : Bool) → b ≡ true → (found other : ℕ → Bool) (set : List Node) → ((value : ℕ) → has_bit set value ≡ found value) → (value : ℕ) → has_bit set value ≡ (if b then found value else other value)
either_found b e found other set h value = rw e (h value)

either_other : (b : Bool) → b ≡ false → (found other : ℕ → Bool) (set : List Node) → ((value : ℕ) → has_bit set value ≡ other value) → (value : ℕ) → has_bit set value ≡ (if b then found value else other value)
either_other b e found other set h value = rw e (h value)

module _ {E : Type 0} (symbols : Symbols) (table : TableKind) (criterion : Criterion) (o : Option Regex) (has : HasPattern criterion o) (r : Result (List Node) E) where
  found_set : (other : ℕ → Bool) (pattern : Regex) → o ≡ Some pattern → (r : Result (List Node) E) → IfOk r (Finds symbols table pattern) → IfOk r (λ set. (value : ℕ) → has_bit set value ≡ (if is_pattern criterion.mode then is_found symbols table criterion.text value else other value))
  found_set other pattern e (Err x) h = tt
  found_set other pattern e (Ok set) h = let p = rw e at has in either_found (is_pattern criterion.mode) p.0 (is_found symbols table criterion.text) other set (h criterion.text p.1)

  other_set : (other : ℕ → Bool) → o ≡ None → (r : Result (List Node) E) → IfOk r (λ set. (value : ℕ) → has_bit set value ≡ other value) → IfOk r (λ set. (value : ℕ) → has_bit set value ≡ (if is_pattern criterion.mode then is_found symbols table criterion.text value else other value))
  other_set other e (Err x) h = tt
  other_set other e (Ok set) h = let p = rw e at has in either_other (is_pattern criterion.mode) p (is_found symbols table criterion.text) other set h

  -- meant
  pub meant_found : (pattern : Regex) → o ≡ Some pattern → IfOk r (Finds symbols table pattern) → IfOk r (λ set. (value : ℕ) → has_bit set value ≡ is_meant symbols table criterion value)
  meant_found pattern e h = found_set (is_value (value_in symbols table criterion.text)) pattern e r h

  one_name : (text : List ℕ) → text ≡ criterion.text → (r : Result (List Node) E) → IfOk r (λ set. (value : ℕ) → has_bit set value ≡ is_named symbols table (text ∷ []) value) → IfOk r (λ set. (value : ℕ) → has_bit set value ≡ is_value (value_in symbols table criterion.text) value)
  one_name text same (Err x) h = tt
  one_name text same (Ok set) h = λ value. h value ∙ or_false (is_value (value_in symbols table text) value) ∙ ap (λ (text : List ℕ). is_value (value_in symbols table text) value) same
    where
      or_false : (a : Bool) → (a || false) ≡ a
      or_false true = refl
      or_false false = refl

  pub meant_named : (text : List ℕ) → text ≡ criterion.text → o ≡ None → IfOk r (λ set. (value : ℕ) → has_bit set value ≡ is_named symbols table (text ∷ []) value) → IfOk r (λ set. (value : ℕ) → has_bit set value ≡ is_meant symbols table criterion value)
  meant_named text same e h = other_set (is_value (value_in symbols table criterion.text)) e r (one_name text same r h)

-- asked types
module _ {E : Type 0} (policy : Parts) (criterion : Criterion) (o : Option Regex) (has : HasPattern criterion o) (r : Result (List Node) E) where
  pub asked_found : (pattern : Regex) → o ≡ Some pattern → IfOk r (Finds policy.symbols Types pattern) → IfOk r (λ set. (value : ℕ) → has_bit set value ≡ is_asked_type policy criterion value)
  asked_found pattern e h = found_set policy.symbols Types criterion o has r (is_asked_name policy criterion.text) pattern e r h

  pub asked_named : o ≡ None → IfOk r (λ set. (value : ℕ) → has_bit set value ≡ is_asked_name policy criterion.text value) → IfOk r (λ set. (value : ℕ) → has_bit set value ≡ is_asked_type policy criterion value)
  asked_named e h = other_set policy.symbols Types criterion o has r (is_asked_name policy criterion.text) e r h
