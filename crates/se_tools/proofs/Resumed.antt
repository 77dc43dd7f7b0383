-- Two command lines give together what one gives.
use Rattle.std.proofs.Common.{◌≡◌, ◌+◌, ◌++◌, ℕ, List, Bool, true, false, true≢false, Option, Some, None, Result, Ok, Err, sym, ◌∙◌, ap, refl}
use Rattle.std.specs.Prelude.{codes, cond, length, nat_lt}
use Rattle.std.specs.List.{All}
use Rattle.pol_fields.specs.declared.Fault.{Fault}
use Rattle.pol_file.specs.Acceptance.{accept}
use Rattle.pol_file.specs.declared.Parts.{Parts}
use Rattle.se_items.specs.Paging.{most_items}
use Rattle.se_words.specs.Values.{number_within}
use Rattle.se_words.specs.Word.{is_word}
use Rattle.se_outside.specs.declared.Slot.{Slot}
use Rattle.se_outside.specs.declared.Slot.TheVariants.{Policy, Map}
use Rattle.se_status.specs.Conclusion.{Answer, refusal}
use Rattle.se_status.specs.declared.Status.TheVariants.{TooLarge}
use Rattle.se_options.specs.Request.{About, Question, Info, Search, Dom, Flow, Convert, Check, comes_by_pages, limit_of, paged, request_of}
use Rattle.se_options.specs.Window.{from_words, page_words}
use Rattle.se_options.proofs.LaterPages.{from_behind, page_behind}
use Rattle.se_search.proofs.Resumed.{answer_then as search_then}
use Rattle.se_dom.proofs.Resumed.{answer_then as dom_then}
use Rattle.se_flow.proofs.Resumed.{answer_then as flow_then}
use Rattle.se_tools.specs.Answer.{Contents, answer_about, answer_of, by_file, file_limit, policy_answer}

-- an answer goes on in another, and the two are a whole one
abbrev GoesOn : Answer → Answer → Answer → Type 0
GoesOn front rest whole = front.text ++ rest.text ≡ whole.text

-- the answer about a file goes on, whatever is there
file_then : (slot : Slot) (file : Option (List ℕ)) (front rest whole : List ℕ → Answer) → ((bytes : List ℕ) → GoesOn (front bytes) (rest bytes) (whole bytes))
    → GoesOn (by_file slot file front) (by_file slot file rest) (by_file slot file whole)
unfolding by_file
file_then slot None front rest whole each = refl
file_then slot (Some bytes) front rest whole each = by (nat_lt (file_limit slot) (length bytes))
  where
    by : (large : Bool) → GoesOn (cond large (refusal (TooLarge slot)) (front bytes)) (cond large (refusal (TooLarge slot)) (rest bytes)) (cond large (refusal (TooLarge slot)) (whole bytes))
    by true = refl
    by false = each bytes

-- the answers about a policy that was accepted
about_then : (question : Question) (policy : Parts) (contents : Contents) (from limit : ℕ) → comes_by_pages question ≡ true
    → GoesOn (answer_about (paged from (Some limit) question) policy contents) (answer_about (paged (from + limit) None question) policy contents) (answer_about (paged from None question) policy contents)
about_then (Info asks) policy contents from limit pages = absurd (true≢false (sym pages))
about_then (Search asks) policy contents from limit pages = search_then (record asks { from = from }) policy limit
about_then (Dom asks) policy contents from limit pages = dom_then (record asks { from = from }) policy limit
about_then (Convert asks) policy contents from limit pages = absurd (true≢false (sym pages))
about_then (Check asks) policy contents from limit pages = absurd (true≢false (sym pages))
about_then (Flow asks) policy contents from limit pages = file_then Map (contents Map) _ _ _ (λ bytes. flow_then (record asks { from = from }) policy bytes limit)

policy_then : (question : Question) (accepted : Result Parts Fault) (contents : Contents) (from limit : ℕ) → comes_by_pages question ≡ true
    → GoesOn (policy_answer (paged from (Some limit) question) accepted contents) (policy_answer (paged (from + limit) None question) accepted contents) (policy_answer (paged from None question) accepted contents)
policy_then question (Ok policy) contents from limit pages = about_then question policy contents from limit pages
policy_then question (Err fault) contents from limit pages = refl

pub lines_then : (words : List (Option (List ℕ))) (question : Question) (contents : Contents) (first most next : List ℕ) (from limit : ℕ) → All (λ word. is_word (codes "--") word ≡ false) words
    → request_of words ≡ Ok (About question) → comes_by_pages question ≡ true → limit_of question ≡ None
    → number_within 0 most_items first ≡ Some from → number_within 1 most_items most ≡ Some limit → number_within 0 most_items next ≡ Some (from + limit)
    → (answer_of (request_of (words ++ page_words first most)) contents).text ++ (answer_of (request_of (words ++ from_words next)) contents).text ≡ (answer_of (request_of (words ++ from_words first)) contents).text
lines_then words question contents first most next from limit ends asked pages unlimited from_is limit_is next_is =
    let front = page_behind words question first most from limit ends asked pages from_is limit_is in
    let rest = from_behind words question next (from + limit) ends asked pages next_is ∙ ap (λ most. Ok (About (paged (from + limit) most question))) unlimited in
    let whole = from_behind words question first from ends asked pages from_is ∙ ap (λ most. Ok (About (paged from most question))) unlimited in
    rw (front, rest, whole) (file_then Policy (contents Policy) _ _ _ (λ bytes. policy_then question (accept bytes) contents from limit pages))
