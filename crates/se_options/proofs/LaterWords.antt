-- Words behind others: they are cut as if they stood alone, where none before them is `--` and each before them fits.
use Rattle.std.proofs.Common.{◌≡◌, ◌≤◌, ◌<◌, ◌+◌, ◌-◌, ◌++◌, ◌∷◌, [], ℕ, zero, suc, List, length, Bool, true, false, true≢false, Option, Some, None, sym, ◌∙◌, ap, refl, append_assoc, arith}
use Rattle.std.specs.Prelude.{bytes_eq, codes, cond, is_some, nat_lt, not, ◌&&◌, ◌||◌}
use Rattle.std.specs.List.{All}
use Rattle.std.specs.Option.{option_or, option_to_list}
use Rattle.std.proofs.lemmas.Bool.{lt-ltb, ltb-true}
use Rattle.std.proofs.lemmas.List.Elements.{All-head, All-tail}
use Rattle.se_words.specs.Word.{begins_with_dash, is_word}
use Rattle.se_words.specs.Options.{Row, Group, Given, Misfit, Positional, Head, Takes, Nothing, OptionalName, Value, Spelling, Other, Alone, Joined, head, named, alone_head, cut, head_of, joined_head, naming_head, option_head, positional_head, spelling_of, value_of_word, valued_head}
use Rattle.se_words.specs.Misfits.{misfit_among, misfit_in}
use Rattle.se_words.specs.declared.cut.WordMode.{WordMode}

-- how the words behind some are read
pub mode_behind : List Row → WordMode → ℕ → ℕ → List (Option (List ℕ)) → WordMode
mode_behind rows mode taken n [] = mode
mode_behind rows mode (suc taken) n (word ∷ words) = mode_behind rows mode taken (n + 1) words
mode_behind rows mode zero n (word ∷ words) = mode_behind rows (head_of rows mode n word words).mode (head_of rows mode n word words).further (n + 1) words

-- a mode in which so many more positional words may come
abbrev pub freer : ℕ → WordMode → WordMode
freer k mode = record { closed = mode.closed; free = mode.free + k }

abbrev freer_head : ℕ → Head → Head
freer_head k first = record { group = first.group; further = first.further; mode = freer k first.mode }

-- no group of a head is a word that does not fit
abbrev Fits : List Group → Head → Type 0
Fits groups first = misfit_among groups (option_to_list first.group) ≡ None

-- what words begin with is the same where more words stand behind them and more may be positional; it takes no more than are there
record IsSame (k : ℕ) (mode : WordMode) (words : List (Option (List ℕ))) (first longer : Head) : Type 0 where
  same : longer ≡ freer_head k first
  within : first.further ≤ length words
  stays : first.mode.closed ≡ mode.closed

module _ (groups : List Group) (k : ℕ) (mode : WordMode) (n : ℕ) (dash : List ℕ) (others : List (Option (List ℕ))) (is_dash : begins_with_dash dash ≡ true) where
  abbrev more : List (Option (List ℕ))
  more = Some dash ∷ others

  naming : (row : Row) (words : List (Option (List ℕ))) → IsSame k mode words (naming_head mode n row words) (naming_head (freer k mode) n row (words ++ more))
  naming row [] = record { same = rw (is_dash, naming_head, value_of_word) refl; within = omega arith; stays = refl }
  naming row (word ∷ words) = by (value_of_word word)
    where
      first : WordMode → Option (List ℕ) → Head
      first at value = elim value [
        | None ↦ head (Given row None) 0 at
        | Some name ↦ head (Given row (Some (named name (n + 1)))) 1 at
      ]

      by : (value : Option (List ℕ)) → IsSame k mode (word ∷ words) (first mode value) (first (freer k mode) value)
      by None = record { same = refl; within = omega arith; stays = refl }
      by (Some name) = record { same = refl; within = omega arith; stays = refl }

  valued : (row : Row) (words : List (Option (List ℕ))) → Fits groups (valued_head mode n row words) → IsSame k mode words (valued_head mode n row words) (valued_head (freer k mode) n row (words ++ more))
  unfolding misfit_among
  valued row [] fits = absurd (true≢false (ap is_some fits))
  valued row (word ∷ words) fits = by (value_of_word word)
    where
      first : WordMode → Option (List ℕ) → Head
      first at value = elim value [
        | None ↦ head (Misfit (n + 1)) 1 at
        | Some name ↦ head (Given row (Some (named name (n + 1)))) 1 at
      ]

      by : (value : Option (List ℕ)) → IsSame k mode (word ∷ words) (first mode value) (first (freer k mode) value)
      by None = record { same = refl; within = omega arith; stays = refl }
      by (Some name) = record { same = refl; within = omega arith; stays = refl }

  alone : (row : Row) (takes : Takes) (words : List (Option (List ℕ))) → Fits groups (alone_head mode n row takes words) → IsSame k mode words (alone_head mode n row takes words) (alone_head (freer k mode) n row takes (words ++ more))
  alone row Nothing words fits = record { same = refl; within = omega arith; stays = refl }
  alone row OptionalName words fits = naming row words
  alone row (Value kind) words fits = valued row words fits

  joined : (row : Row) (takes : Takes) (value : List ℕ) (words : List (Option (List ℕ))) → IsSame k mode words (joined_head mode n row takes value) (joined_head (freer k mode) n row takes value)
  joined row Nothing value words = record { same = refl; within = omega arith; stays = refl }
  joined row OptionalName value words = record { same = refl; within = omega arith; stays = refl }
  joined row (Value kind) value words = record { same = refl; within = omega arith; stays = refl }

  option : (rows : List Row) (text : List ℕ) (words : List (Option (List ℕ))) → Fits groups (option_head rows mode n text words)
      → IsSame k mode words (option_head rows mode n text words) (option_head rows (freer k mode) n text (words ++ more))
  unfolding option_head
  option [] text words fits = record { same = refl; within = omega arith; stays = refl }
  option (row ∷ rows) text words fits = by (option rows text words) (spelling_of row text) fits
    where
      first : WordMode → Spelling → List (Option (List ℕ)) → Head
      first at spelling after = elim spelling [
        | Other ↦ option_head rows at n text after
        | Alone ↦ alone_head at n row row.takes after
        | Joined value ↦ joined_head at n row row.takes value
      ]

      by : (Fits groups (first mode Other words) → IsSame k mode words (first mode Other words) (first (freer k mode) Other (words ++ more))) → (spelling : Spelling)
          → Fits groups (first mode spelling words) → IsSame k mode words (first mode spelling words) (first (freer k mode) spelling (words ++ more))
      by others Other fits = others fits
      by others Alone fits = alone row row.takes words fits
      by others (Joined value) fits = joined row row.takes value words

  positional : (text : List ℕ) (words : List (Option (List ℕ))) → Fits groups (positional_head mode n text) → IsSame k mode words (positional_head mode n text) (positional_head (freer k mode) n text)
  unfolding misfit_among
  positional text words fits = by (nat_lt 0 mode.free) (nat_lt 0 (mode.free + k)) (not (bytes_eq text (codes "-"))) freer_too refl fits
    where
      first : WordMode → Bool → Head
      first at may = cond may (head (Positional (named text n)) 0 (record { closed = at.closed; free = at.free - 1 })) (head (Misfit n) 0 at)

      freer_too : nat_lt 0 mode.free ≡ true → (nat_lt 0 (mode.free + k) ≡ true) × (mode.free + k - 1 ≡ mode.free - 1 + k)
      freer_too some = let lt : 0 < mode.free = ltb-true 0 mode.free some in (lt-ltb 0 (mode.free + k) (omega (arith, lt)), omega (arith, lt))

      by : (some freely other : Bool) → (some ≡ true → (freely ≡ true) × (mode.free + k - 1 ≡ mode.free - 1 + k)) → some ≡ some → Fits groups (first mode (some && other)) → IsSame k mode words (first mode (some && other)) (first (freer k mode) (freely && other))
      by false freely other too is fits = absurd (true≢false (ap is_some fits))
      by true freely false too is fits = absurd (true≢false (ap is_some fits))
      by true freely true too is fits =
          let both = too refl in
          record { same = rw (both.0, both.1) refl; within = omega arith; stays = refl }

  -- what words begin with, where they do not begin with `--`
  heads : (rows : List Row) (word : Option (List ℕ)) (words : List (Option (List ℕ))) → is_word (codes "--") word ≡ false → Fits groups (head_of rows mode n word words)
      → IsSame k mode words (head_of rows mode n word words) (head_of rows (freer k mode) n word (words ++ more))
  unfolding head_of
  heads rows None words other fits = record { same = refl; within = omega arith; stays = refl }
  heads rows (Some text) words other fits = by (mode.closed || not (begins_with_dash text)) (bytes_eq text (codes "--")) other fits
    where
      first : WordMode → Bool → Bool → List (Option (List ℕ)) → Head
      first at free ends after = cond free (positional_head at n text) (cond ends (record { group = None; further = 0; mode = record { closed = true; free = at.free } }) (option_head rows at n text after))

      by : (free ends : Bool) → ends ≡ false → Fits groups (first mode free ends words) → IsSame k mode words (first mode free ends words) (first (freer k mode) free ends (words ++ more))
      by true ends other fits = positional text words fits
      by false true other fits = absurd (true≢false other)
      by false false other fits = option rows text words fits

-- ---- of groups, the first word that does not fit

pub or_assoc : {A : Type 0} (a b c : Option A) → option_or a (option_or b c) ≡ option_or (option_or a b) c
or_assoc None b c = refl
or_assoc (Some a) b c = refl

pub among_append : (groups first others : List Group) → misfit_among groups (first ++ others) ≡ option_or (misfit_among groups first) (misfit_among groups others)
unfolding misfit_among
among_append groups [] others = refl
among_append groups (group ∷ first) others =
    ap (option_or (misfit_in groups group)) (among_append groups first others) ∙ or_assoc (misfit_in groups group) (misfit_among groups first) (misfit_among groups others)

pub first_none : {A : Type 0} (a b : Option A) → option_or a b ≡ None → a ≡ None
first_none None b none = refl
first_none (Some a) b none = none

pub then_none : {A : Type 0} (a b : Option A) → option_or a b ≡ None → b ≡ None
then_none None b none = none
then_none (Some a) b none = absurd (true≢false (ap is_some none))

-- ---- all words

pub record AreApart (rows : List Row) (k : ℕ) (mode : WordMode) (taken n : ℕ) (words more : List (Option (List ℕ))) : Type 0 where
  pub stays : (mode_behind rows mode taken n words).closed ≡ false
  pub apart : cut rows (freer k mode) taken n (words ++ more) ≡ cut rows mode taken n words ++ cut rows (freer k (mode_behind rows mode taken n words)) 0 (n + length words) more

module _ (groups : List Group) (rows : List Row) (k : ℕ) (dash : List ℕ) (others : List (Option (List ℕ))) (is_dash : begins_with_dash dash ≡ true) where
  abbrev IsNoEnd : Option (List ℕ) → Type 0
  IsNoEnd word = is_word (codes "--") word ≡ false

  pub apart : (words : List (Option (List ℕ))) (mode : WordMode) (taken n : ℕ) → mode.closed ≡ false → taken ≤ length words → All IsNoEnd words
      → misfit_among groups (cut rows mode taken n words) ≡ None → AreApart rows k mode taken n words (Some dash ∷ others)
  unfolding cut mode_behind
  apart [] mode zero n is_open within ends fit =
      let e : n + 0 ≡ n = omega arith in
      record { stays = is_open; apart = ap (λ (i : ℕ). cut rows (freer k mode) 0 i (Some dash ∷ others)) (sym e) }
  apart [] mode (suc taken) n is_open within ends fit = absurd (omega (arith, within))
  apart (word ∷ words) mode (suc taken) n is_open within ends fit =
      let rest = apart words mode taken (n + 1) is_open (omega (arith, within)) (All-tail IsNoEnd word words ends) fit in
      let e : n + 1 + length words ≡ n + length (word ∷ words) = omega arith in
      record {
        stays = rest.stays;
        apart = rest.apart ∙ ap (λ (i : ℕ). cut rows mode taken (n + 1) words ++ cut rows (freer k (mode_behind rows mode taken (n + 1) words)) 0 i (Some dash ∷ others)) e;
      }
  apart (word ∷ words) mode zero n is_open within ends fit =
      let first = head_of rows mode n word words in
      let own = option_to_list first.group in
      let later = cut rows first.mode first.further (n + 1) words in
      let both : option_or (misfit_among groups own) (misfit_among groups later) ≡ None = sym (among_append groups own later) ∙ fit in
      let same = heads groups k mode n dash others is_dash rows word words (All-head IsNoEnd word words ends) (first_none (misfit_among groups own) (misfit_among groups later) both) in
      let rest = apart words first.mode first.further (n + 1) (same.stays ∙ is_open) same.within (All-tail IsNoEnd word words ends) (then_none (misfit_among groups own) (misfit_among groups later) both) in
      let e : n + 1 + length words ≡ n + length (word ∷ words) = omega arith in
      let whole : ℕ → List Group = λ i. cut rows (freer k (mode_behind rows first.mode first.further (n + 1) words)) 0 i (Some dash ∷ others) in
      record {
        stays = rest.stays;
        apart = ap (λ (h : Head). option_to_list h.group ++ cut rows h.mode h.further (n + 1) (words ++ Some dash ∷ others)) same.same
            ∙ ap (λ (gs : List Group). own ++ gs) (rest.apart ∙ ap (λ (i : ℕ). later ++ whole i) e)
            ∙ sym (append_assoc own later (whole (n + length (word ∷ words))));
      }
