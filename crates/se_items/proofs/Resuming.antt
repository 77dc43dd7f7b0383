-- Parts of a list of items, and those after them.
use Rattle.std.proofs.Common.{◌≡◌, ◌+◌, ◌++◌, [], ℕ, zero, suc, List, take, drop, Option, Some, None, sym, ◌∙◌, ap, refl}
use Rattle.std.specs.List.{concat}
use Rattle.std.proofs.lemmas.List.{take-append-drop, drop-drop}
use Rattle.std.proofs.lemmas.List.Folds.{concat-append}
use Rattle.se_items.specs.Paging.{page}
use Rattle.se_items.specs.declared.window.TheConstants.{MOST_ITEMS}

pub page_then : (from count : ℕ) (items : List (List ℕ)) → page from (Some count) items ++ page (from + count) None items ≡ page from None items
unfolding page
page_then from count items =
    let all : List (List ℕ) = take MOST_ITEMS items in
    ap (λ rest. take count (drop from all) ++ rest) (sym (drop-drop count from all)) ∙ take-append-drop count (drop from all)

-- and so of their texts
pub texts_then : (from count : ℕ) (items : List (List ℕ)) → concat (page from (Some count) items) ++ concat (page (from + count) None items) ≡ concat (page from None items)
texts_then from count items = sym (concat-append (page from (Some count) items) (page (from + count) None items)) ∙ ap concat (page_then from count items)

take-none : {A : Type 0} (count : ℕ) → take {A = A} count [] ≡ []
take-none zero = refl
take-none (suc count) = refl

drop-none : {A : Type 0} (count : ℕ) → drop {A = A} count [] ≡ []
drop-none zero = refl
drop-none (suc count) = refl

-- of no items none are asked for
pub page-none : (from : ℕ) (limit : Option ℕ) → page {A = List ℕ} from limit [] ≡ []
unfolding page
page-none from None = rw (take-none {A = List ℕ} MOST_ITEMS) (drop-none {A = List ℕ} from)
page-none from (Some count) = rw (take-none {A = List ℕ} MOST_ITEMS, drop-none {A = List ℕ} from) (take-none {A = List ℕ} count)
