-- The part of a list that a window gives.
use Rattle.std.proofs.Common.{◌≡◌, ◌∙◌, ℕ, List, Option, ap}
use Rattle.se_items.specs.Paging.{page}
use Rattle.se_items.specs.declared.Window.{Window}

-- the part that a window gives, of the same items
pub paged : {A : Type 0} (window : Window) (from : ℕ) (limit : Option ℕ) → window ≡ record { from = from; limit = limit } → {xs ys : List A} → xs ≡ ys
    → page window.from window.limit xs ≡ page from limit ys
paged window from limit is {xs} {ys} same = ap (λ (w : Window). page w.from w.limit xs) is ∙ ap (page from limit) same
