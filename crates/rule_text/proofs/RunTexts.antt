-- The texts of runs of ioctl numbers, as they are written one after the other.
use Rattle.std.proofs.Common.{◌≡◌, ℕ, ◌+◌, ◌-◌, ◌≤◌, List, [], ◌∷◌, ◌++◌, length, map, true, false, refl, ap, ◌∙◌, append_assoc, add-zero, arith}
use Rattle.std.specs.Prelude.{◌==◌, codes, get_or}
use Rattle.std.specs.List.{range_with_len}
use Rattle.std.proofs.lemmas.List.{append-nil}
use Rattle.std.proofs.lemmas.List.FromFn.{length-range_with_len, get_or-range_with_len}
use Rattle.std.proofs.lemmas.Bool.{le-leb}
use Rattle.pol_mls.specs.MlsTexts.{runs_of}
use Rattle.pol_mls.proofs.NumberRuns.{numbers_on, numbers_start, runs_alone, runs_cut, start}
use Rattle.pol_texts.specs.SetTexts.{listed, set_text}
use Rattle.rule_text.proofs.SetTexts.{set_of_two}
use Rattle.rule_text.specs.declared.ioctl_run.Run.{Run}
use Rattle.rule_text.specs.declared.ioctl_run.Unwritten.TheVariants.{Nothing, First, Later}
use Rattle.rule_text.specs.IoctlTexts.{number_text, run_text, runs_text}
use Rattle.rule_text.specs.Inner.IoctlRuns.{numbers_in, text_left}

-- ---- one run

pub text_of_one : (a b : ℕ) → a ≡ b → run_text (range_with_len a (b - a + 1)) ≡ number_text a
unfolding run_text
text_of_one a b e =
    let none : b - a ≡ 0 = omega arith in
    ap (λ (n : ℕ). run_text (range_with_len a (n + 1))) none

long_text : (run : List ℕ) (a b : ℕ) → 2 ≤ length run → get_or run 0 0 ≡ a → get_or run (length run - 1) 0 ≡ b → run_text run ≡ number_text a ++ 45 ∷ number_text b
unfolding run_text
long_text run a b le first last = rw (le-leb 2 (length run) le, first, last) (append_assoc (number_text a) (codes "-") (number_text b))

pub text_of_more : (a b : ℕ) → a ≤ b → (a ≡ b → ⊥) → run_text (range_with_len a (b - a + 1)) ≡ number_text a ++ 45 ∷ number_text b
text_of_more a b le ne =
    let run = range_with_len a (b - a + 1) in
    let len : length run ≡ b - a + 1 = length-range_with_len a (b - a + 1) in
    let at : length run - 1 ≡ b - a = omega arith in
    let last : a + (b - a) ≡ b = omega arith in
    long_text run a b (omega arith) (get_or-range_with_len a (b - a + 1) 0 0 (omega arith) ∙ add-zero a) (ap (λ (i : ℕ). get_or run i 0) at ∙ get_or-range_with_len a (b - a + 1) (b - a) 0 (omega arith) ∙ last)

-- ---- the texts of what is left

set_of_cut : (a : List ℕ) (first : List ℕ) (others runs : List (List ℕ)) → runs ≡ first ∷ others → set_text (map run_text (a ∷ runs)) ≡ codes "{ " ++ (run_text a ++ (listed (map run_text runs) ++ codes " }"))
set_of_cut a first others runs e = rw e (set_of_two (run_text a) (run_text first) (map run_text others))

-- a number goes on with the first run
pub first_goes_on : (run : Run) (v : ℕ) (vs : List ℕ) → (run.last + 1 == v) ≡ true → runs_text (range_with_len run.first (v - run.first + 1) ++ vs) ≡ text_left (First run) (v ∷ vs)
first_goes_on run v vs t = ap runs_text (numbers_on run.first run.last v vs run.rises t)

-- and with a later one
pub later_goes_on : (run : Run) (v : ℕ) (vs : List ℕ) → (run.last + 1 == v) ≡ true → listed (map run_text (runs_of (range_with_len run.first (v - run.first + 1) ++ vs))) ++ codes " }" ≡ text_left (Later run) (v ∷ vs)
later_goes_on run v vs t = ap (λ (numbers : List ℕ). listed (map run_text (runs_of numbers)) ++ codes " }") (numbers_on run.first run.last v vs run.rises t)

-- the first run is written where a number does not go on with it
pub first_is_cut : (out more : List ℕ) (run next : Run) (v : ℕ) (vs : List ℕ) → (run.last + 1 == v) ≡ false → next.first ≡ v → next.last ≡ v → more ≡ out ++ codes "{ " ++ run_text (numbers_in run)
    → more ++ text_left (Later next) vs ≡ out ++ text_left (First run) (v ∷ vs)
unfolding runs_text
first_is_cut out more run next v vs f first last e =
    let s = start v (runs_of vs) in
    rw (e, numbers_start next.first next.last v vs first last, runs_cut run.first run.last v vs run.rises f, set_of_cut (numbers_in run) (v ∷ s.first) s.others (runs_of (v ∷ vs)) s.are) (simp append_assoc)

spaced : (out a others : List ℕ) → out ++ codes " " ++ a ++ (others ++ codes " }") ≡ out ++ (((codes " " ++ a) ++ others) ++ codes " }")
spaced out a others = simp append_assoc

-- and a later one
pub later_is_cut : (out more : List ℕ) (run next : Run) (v : ℕ) (vs : List ℕ) → (run.last + 1 == v) ≡ false → next.first ≡ v → next.last ≡ v → more ≡ out ++ codes " " ++ run_text (numbers_in run)
    → more ++ text_left (Later next) vs ≡ out ++ text_left (Later run) (v ∷ vs)
later_is_cut out more run next v vs f first last e =
    rw (e, numbers_start next.first next.last v vs first last, runs_cut run.first run.last v vs run.rises f) (spaced out (run_text (numbers_in run)) (listed (map run_text (runs_of (v ∷ vs)))))

-- what is left where no number comes any more
pub nothing_left : text_left Nothing [] ≡ codes "{ }"
unfolding runs_text
nothing_left = refl

pub first_left : (run : Run) → text_left (First run) [] ≡ run_text (numbers_in run)
unfolding runs_text
first_left run = rw (runs_alone run.first run.last) refl

pub later_left : (run : Run) → text_left (Later run) [] ≡ 32 ∷ (run_text (numbers_in run) ++ codes " }")
later_left run = rw (runs_alone run.first run.last) (ap (λ (text : List ℕ). text ++ codes " }") (append-nil (codes " " ++ run_text (numbers_in run))))
