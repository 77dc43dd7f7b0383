-- The lines of a list, one after the other.
use Rattle.std.proofs.Common.{◌≡◌, ℕ, List, [], ◌∷◌, Ok, Err, Result, refl, sym, ap, ◌∙◌}
use Rattle.std.specs.List.{fold}
use Rattle.text_rows.specs.TextLines.{Row}
use Rattle.check_list.specs.declared.list_fault.ListFault.{ListFault}
use Rattle.check_list.specs.declared.list_fault.ListError.{ListError}
use Rattle.check_list.specs.declared.list_fault.ListError.TheVariants.{Fault, Memory}
use Rattle.check_list.specs.Checklists.{Answers, Check, Written, after_row, all_ended, with_row}
use Rattle.check_list.specs.Inner.LineViews.{AnswersAs}

fault_stays : (fault : ListFault) (rows : List Row) → fold after_row (Err fault) rows ≡ Err fault
fault_stays fault [] = refl
fault_stays fault (row ∷ rows) = fault_stays fault rows

taken : (written : Written) (row : Row) (rows left : List Row) (whole : Result Written ListFault) → rows ≡ row ∷ left → fold after_row (Ok written) rows ≡ whole → fold after_row (with_row written row) left ≡ whole
taken written row rows left whole is stands = sym (ap (fold after_row (Ok written)) is) ∙ stands

-- a faulty line
rows_fail : (written : Written) (fault : ListFault) (row : Row) (rows left : List Row) (whole : Result Written ListFault) → rows ≡ row ∷ left → with_row written row ≡ Err fault → fold after_row (Ok written) rows ≡ whole → whole ≡ Err fault
rows_fail written fault row rows left whole is fails stands =
    sym (taken written row rows left whole is stands) ∙ ap (λ (r : Result Written ListFault). fold after_row r left) fails ∙ fault_stays fault left

-- what is answered for it
pub rows_answer : {A : Type 0} → (shown : A → List Check) (past : ℕ) (written : Written) (error : ListError) (row : Row) (rows left : List Row) (whole : Result Written ListFault) → rows ≡ row ∷ left → Answers (with_row written row) (Err error) → fold after_row (Ok written) rows ≡ whole → AnswersAs shown (all_ended past whole) (Err error)
rows_answer shown past written (Fault fault) row rows left whole is fails stands = ap (all_ended past) (rows_fail written fault row rows left whole is fails stands)
rows_answer shown past written Memory row rows left whole is fails stands = tt
