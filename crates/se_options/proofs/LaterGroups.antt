-- Groups behind others: which options are given, which words are positional, and that each word fits which did so.
use Rattle.std.proofs.Common.{◌≡◌, ◌++◌, ◌∷◌, [], ℕ, List, length, Bool, true, false, true≢false, Option, Some, None, inl, inr, sym, ◌∙◌, ap, subst, refl}
use Rattle.std.specs.Prelude.{cond, is_some, nat_le, nat_lt, ◌&&◌, ◌||◌}
use Rattle.std.specs.Option.{option_or}
use Rattle.std.specs.Str.Parse.{digits_value}
use Rattle.std.proofs.lemmas.Bool.Decides.{eqb_tells}
use Rattle.se_words.specs.Word.{begins_with_dash}
use Rattle.se_words.specs.Options.{Group, Given, Misfit, Positional, Named, Takes, Nothing, OptionalName, Value, ValueKind, Text, Number, CommaList, CommaListUnless, States}
use Rattle.se_words.specs.Given.{first_positional, is_given, last_value, positional_in, value_in}
use Rattle.se_words.specs.Misfits.{fits, misfit_among, misfit_in, value_misfit}
use Rattle.se_words.specs.Values.{is_comma_list, is_within, number_within}
use Rattle.se_options.proofs.LaterWords.{or_assoc, first_none, then_none}

or_none : {A : Type 0} (a : Option A) → option_or a None ≡ a
or_none None = refl
or_none (Some a) = refl

-- the last value of an option
pub last_append : (option : List ℕ) (first others : List Group) → last_value option (first ++ others) ≡ option_or (last_value option others) (last_value option first)
unfolding last_value
last_append option [] others = sym (or_none (last_value option others))
last_append option (group ∷ first) others =
    ap (λ last. option_or last (value_in option group)) (last_append option first others) ∙ sym (or_assoc (last_value option others) (last_value option first) (value_in option group))

-- the first positional word
pub positional_append : (first others : List Group) → first_positional (first ++ others) ≡ option_or (first_positional first) (first_positional others)
unfolding first_positional
positional_append [] others = refl
positional_append (group ∷ first) others = ap (option_or (positional_in group)) (positional_append first others) ∙ or_assoc (positional_in group) (first_positional first) (first_positional others)

pub positional_kept : (first others : List Group) → first_positional others ≡ None → first_positional (first ++ others) ≡ first_positional first
positional_kept first others none = positional_append first others ∙ ap (option_or (first_positional first)) none ∙ or_none (first_positional first)

-- an option that is given is given
given_more : (option : List ℕ) (first others : List Group) → is_given option first ≡ true → is_given option (first ++ others) ≡ true
given_more option first others given = ap is_some (last_append option first others) ∙ by (last_value option others) (last_value option first) given
  where
    by : (a b : Option (Option Named)) → is_some b ≡ true → is_some (option_or a b) ≡ true
    by None b some = some
    by (Some a) b some = refl

fits_more : (first others : List Group) (kind : ValueKind) (text : List ℕ) → fits first kind text ≡ true → fits (first ++ others) kind text ≡ true
fits_more first others Text text fit = fit
fits_more first others (Number least most) text fit = fit
fits_more first others CommaList text fit = fit
fits_more first others States text fit = fit
fits_more first others (CommaListUnless option) text fit = by (is_comma_list text) (is_given option first) (is_given option (first ++ others)) (given_more option first others) fit
  where
    by : (a b c : Bool) → (b ≡ true → c ≡ true) → (a || b) ≡ true → (a || c) ≡ true
    by true b c more e = refl
    by false b c more e = more e

value_more : (first others : List Group) (takes : Takes) (value : Named) → value_misfit first takes value ≡ None → value_misfit (first ++ others) takes value ≡ None
value_more first others Nothing value fit = refl
value_more first others OptionalName value fit = refl
value_more first others (Value kind) value fit = by (fits first kind value.text) (fits (first ++ others) kind value.text) (fits_more first others kind value.text) fit
  where
    by : (a b : Bool) → (a ≡ true → b ≡ true) → cond a None (Some value.word) ≡ None → cond b None (Some value.word) ≡ None
    by true b more e = rw (more refl) refl
    by false b more e = absurd (true≢false (ap is_some e))

group_more : (first others : List Group) (group : Group) → misfit_in first group ≡ None → misfit_in (first ++ others) group ≡ None
group_more first others (Positional name) fit = refl
group_more first others (Given row None) fit = refl
group_more first others (Given row (Some value)) fit = value_more first others row.takes value fit
group_more first others (Misfit n) fit = fit

pub among_more : (first others groups : List Group) → misfit_among first groups ≡ None → misfit_among (first ++ others) groups ≡ None
unfolding misfit_among
among_more first others [] fit = refl
among_more first others (group ∷ groups) fit =
    rw (group_more first others group (first_none (misfit_in first group) (misfit_among first groups) fit)) (among_more first others groups (then_none (misfit_in first group) (misfit_among first groups) fit))

-- a number does not begin with `-`
pub number_plain : (least most : ℕ) (text : List ℕ) (number : ℕ) → number_within least most text ≡ Some number → begins_with_dash text ≡ false
unfolding number_within
number_plain least most [] number is = refl
number_plain least most (byte ∷ bytes) number is = elim (eqb_tells byte 45) [
  | inl same ↦
      let dash = subst (λ (b : ℕ). number_within least most (b ∷ bytes) ≡ Some number) same.1 is in
      absurd (true≢false (ap is_some (sym dash ∙ by (nat_lt 0 (length (45 ∷ bytes))) (nat_le (length (45 ∷ bytes)) 18) (is_within least most (digits_value 10 (45 ∷ bytes))) (Some (digits_value 10 (45 ∷ bytes))))))
  | inr differs ↦ differs.0
]
  where
    by : (a b c : Bool) (found : Option ℕ) → cond ((a && b && false) && c) found None ≡ None
    by true true c found = refl
    by true false c found = refl
    by false b c found = refl
