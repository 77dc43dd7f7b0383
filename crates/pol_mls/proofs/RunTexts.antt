-- The texts of runs.
use Rattle.std.proofs.Common.{◌≡◌, ℕ, ◌+◌, ◌-◌, ◌≤◌, List, [], ◌∷◌, ◌++◌, length, true, false, refl, ap, ◌∙◌, append_assoc, add-zero, arith}
use Rattle.std.specs.Prelude.{◌==◌, codes, get_or}
use Rattle.std.specs.List.{range_with_len, join_by}
use Rattle.std.proofs.lemmas.List.{append-nil}
use Rattle.std.proofs.lemmas.List.FromFn.{length-range_with_len, get_or-range_with_len}
use Rattle.std.proofs.lemmas.Bool.{le-leb}
use Rattle.pol_cursor.specs.References.{Named, name_of}
use Rattle.pol_fields.specs.declared.table_kind.TableKind.TheVariants.{Categories}
use Rattle.pol_mls.specs.declared.run.Run.{Run}
use Rattle.pol_mls.specs.MlsTexts.{runs_of, run_text, runs_text}
use Rattle.pol_mls.specs.Inner.Runs.{values_of}
use Rattle.pol_mls.proofs.NumberRuns.{numbers_on, runs_alone, runs_cut, start}

-- ---- one run

pub text_of_one : (named : Named) (a b : ℕ) → b - a ≡ 0 → run_text named (range_with_len a (b - a + 1)) ≡ name_of named Categories a
text_of_one named a b e = rw e (append-nil _)

pub text_of_two : (named : Named) (a b : ℕ) → b - a ≡ 1 → run_text named (range_with_len a (b - a + 1)) ≡ name_of named Categories a ++ 44 ∷ name_of named Categories b
text_of_two named a b e =
    let last : a + 1 ≡ b = omega arith in
    rw (e, last) (ap (λ (t : List ℕ). name_of named Categories a ++ 44 ∷ t) (append-nil (name_of named Categories b)))

dotted : (a b : List ℕ) → a ++ codes "." ++ b ≡ a ++ 46 ∷ b
dotted a b = append_assoc a (codes ".") b

long_text : (named : Named) (run : List ℕ) (a b : ℕ) → 3 ≤ length run → get_or run 0 0 ≡ a → get_or run (length run - 1) 0 ≡ b → run_text named run ≡ name_of named Categories a ++ 46 ∷ name_of named Categories b
long_text named run a b le first last = rw (le-leb 3 (length run) le, first, last) (dotted _ _)

pub text_of_more : (named : Named) (a b : ℕ) → 2 ≤ b - a → run_text named (range_with_len a (b - a + 1)) ≡ name_of named Categories a ++ 46 ∷ name_of named Categories b
text_of_more named a b le =
    let run = range_with_len a (b - a + 1) in
    let len : length run ≡ b - a + 1 = length-range_with_len a (b - a + 1) in
    let at : length run - 1 ≡ b - a = omega arith in
    let last : a + (b - a) ≡ b = omega arith in
    long_text named run a b (omega arith) (get_or-range_with_len a (b - a + 1) 0 0 (omega arith) ∙ add-zero a) (ap (λ (i : ℕ). get_or run i 0) at ∙ get_or-range_with_len a (b - a + 1) (b - a) 0 (omega arith) ∙ last)

-- ---- what is left to be written

pub left_goes_on : (named : Named) (first last v : ℕ) (vs : List ℕ) → first ≤ last → (last + 1 == v) ≡ true → runs_text named (range_with_len first (v - first + 1) ++ vs) ≡ runs_text named (range_with_len first (last - first + 1) ++ v ∷ vs)
left_goes_on named first last v vs le t = ap (runs_text named) (numbers_on first last v vs le t)

pub left_starts : (named : Named) (v : ℕ) (vs : List ℕ) → runs_text named (range_with_len v (v - v + 1) ++ vs) ≡ runs_text named (v ∷ vs)
left_starts named v vs = let one : v - v ≡ 0 = omega arith in rw one refl

runs_text_of : (named : Named) (run first : List ℕ) (others runs : List (List ℕ)) → runs ≡ first ∷ others → join_by (run_text named) (codes ",") (run ∷ runs) ≡ run_text named run ++ 44 ∷ join_by (run_text named) (codes ",") runs
runs_text_of named run first others runs e = rw e refl

pub left_is_cut : (named : Named) (first last v : ℕ) (vs : List ℕ) → first ≤ last → (last + 1 == v) ≡ false → runs_text named (range_with_len first (last - first + 1) ++ v ∷ vs) ≡ run_text named (range_with_len first (last - first + 1)) ++ 44 ∷ runs_text named (v ∷ vs)
left_is_cut named first last v vs le f =
    let s = start v (runs_of vs) in
    ap (join_by (run_text named) (codes ",")) (runs_cut first last v vs le f)
    ∙ runs_text_of named (range_with_len first (last - first + 1)) (v ∷ s.first) s.others (runs_of (v ∷ vs)) s.are

pub left_alone : (named : Named) (first last : ℕ) → runs_text named (range_with_len first (last - first + 1) ++ []) ≡ run_text named (range_with_len first (last - first + 1))
left_alone named first last = ap (join_by (run_text named) (codes ",")) (runs_alone first last) ∙ append-nil (run_text named (range_with_len first (last - first + 1)))

-- the step at a value that does not go on with a run
pub cut_step : (named : Named) (out closed more : List ℕ) (run next : Run) (v : ℕ) (vs : List ℕ) → (run.last + 1 == v) ≡ false → closed ≡ out ++ run_text named (values_of run) → more ≡ closed ++ 44 ∷ [] → next.first ≡ v → next.last ≡ v
    → more ++ runs_text named (values_of next ++ vs) ≡ out ++ runs_text named (values_of run ++ v ∷ vs)
cut_step named out closed more run next v vs f e k first last =
    rw (k, e, first, last, left_starts named v vs, left_is_cut named run.first run.last v vs run.rises f) (simp append_assoc)
