-- The lines that are left, line by line.
use Rattle.std.proofs.Common.{◌≡◌, ℕ, zero, suc, ◌+◌, ◌≤◌, Bool, true, false, cond, List, [], ◌∷◌, ◌++◌, Some, length, map, drop, slice_get, refl, sym, ap, ◌∙◌, append_assoc, arith}
use Rattle.std.specs.Prelude.{◌==◌, not}
use Rattle.std.specs.List.{filter, flat_map}
use Rattle.std.proofs.lemmas.List.{length-map}
use Rattle.pol_file.specs.declared.Parts.{Parts}
use Rattle.check_list.specs.Checklists.{Check}
use Rattle.se_verdicts.specs.declared.found.Found.{Found}
use Rattle.se_verdicts.specs.CheckAnswer.{check_line, fails, found_line, lines_of_check, texts_of_check}
use Rattle.se_verdicts.specs.Inner.CheckLines.{AddsLine, IsFoundBy, failed_by, last_left, lines_from, lines_with, text_at}

-- ---- lists

drop_past : {A : Type 0} (n : ℕ) (xs : List A) → length xs ≤ n → drop n xs ≡ []
drop_past zero [] le = refl
drop_past (suc n) [] le = refl
drop_past zero (x ∷ xs) le = absurd (omega (arith, le))
drop_past (suc n) (x ∷ xs) le = drop_past n xs (omega (arith, le))

drop_here : {A : Type 0} (n : ℕ) (xs : List A) (x : A) → slice_get xs n ≡ Some x → drop n xs ≡ x ∷ drop (n + 1) xs
drop_here zero [] x e = absurd (cc)
drop_here (suc n) [] x e = absurd (cc)
drop_here {A} zero (y ∷ ys) x e = let same : y ≡ x = cc in ap (λ (z : A). z ∷ ys) same
drop_here {A} (suc n) (y ∷ ys) x e =
    let next : suc n + 1 ≡ suc (n + 1) = omega arith in
    drop_here n ys x e ∙ ap (λ (m : ℕ). x ∷ drop m (y ∷ ys)) (sym next)

-- ---- one line

counted : (policy : Parts) (check : Check) (checks : List Check) (failed : ℕ) (none : Bool) → failed + length (cond (not none) (check ∷ filter (fails policy) checks) (filter (fails policy) checks)) ≡ failed + cond none 0 1 + length (filter (fails policy) checks)
counted policy check checks failed true = omega arith
counted policy check checks failed false = omega arith

-- the first of a check
check_begun : (policy : Parts) (old new : Found) (list : List Check) (next failed more : ℕ) (check : Check) (ended : Bool) → length old.values.items ≤ old.next → slice_get list next ≡ Some check → IsFoundBy policy check new → more ≡ failed_by (length (texts_of_check policy check))
    → lines_with policy old (drop next list) ended failed ≡ check_line check (length (texts_of_check policy check)) ∷ lines_with policy new (drop (next + 1) list) ended (failed + more)
check_begun policy old new list next failed more check ended none at is counts =
    let rest = drop (next + 1) list in
    let texts = texts_of_check policy check in
    let later = flat_map (lines_of_check policy) rest in
    let one : List (List ℕ) = check_line check (length texts) ∷ map found_line texts in
    ap (λ (values : List ℕ). map found_line (map (text_at old.kind policy) values) ++ lines_from policy (drop next list) ended failed) (drop_past old.next old.values.items none)
    ∙ ap (λ (checks : List Check). lines_from policy checks ended failed) (drop_here next list check at)
    ∙ ap (λ (n : ℕ). (one ++ later) ++ last_left ended n) (counted policy check rest failed (length texts == 0) ∙ ap (λ (m : ℕ). failed + m + length (filter (fails policy) rest)) (sym counts))
    ∙ append_assoc one later (last_left ended (failed + more + length (filter (fails policy) rest)))
    ∙ ap (λ (ts : List (List ℕ)). check_line check (length texts) ∷ (map found_line ts ++ lines_from policy rest ended (failed + more))) (sym is.texts ∙ ap (λ (n : ℕ). map (text_at new.kind policy) (drop n new.values.items)) (sym is.first))

pub line_begun : (policy : Parts) (old new : Found) (list : List Check) (next failed more count : ℕ) (check : Check) (ended : Bool) (had has : List ℕ) → length old.values.items ≤ old.next → slice_get list next ≡ Some check → IsFoundBy policy check new → count ≡ length new.values.items → more ≡ failed_by count
    → has ≡ had ++ check_line check count → AddsLine (lines_with policy old (drop next list) ended failed) (lines_with policy new (drop (next + 1) list) ended (failed + more)) had has
line_begun policy old new list next failed more count check ended had has none at is long counts put =
    let same : count ≡ length (texts_of_check policy check) = long ∙ sym (length-map new.values.items (text_at new.kind policy)) ∙ ap length is.texts in
    record {
      line = check_line check (length (texts_of_check policy check));
      lines = check_begun policy old new list next failed more check ended none at is (counts ∙ ap failed_by same);
      text = put ∙ ap (λ (n : ℕ). had ++ check_line check n) same;
    }
