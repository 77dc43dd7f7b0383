-- Look-ups in the table of words.
use Rattle.std.proofs.Common.{◌≡◌, ℕ, zero, suc, ◌-◌, ◌<◌, ◌≤◌, List, [], ◌∷◌, length, map, get_or, slice_get, unwrap_or, ap, arith}
use Rattle.std.proofs.lemmas.Option.{slice_get_past}
use Rattle.pol_fields.specs.FieldWords.{all_words, numbered, record_words}

pub record_words_past : (row : ℕ) → 37 ≤ row → record_words row ≡ []
record_words_past zero past = absurd (omega arith)
record_words_past (suc row) past = ap (λ words. unwrap_or words []) (slice_get_past all_words row (omega arith))

item_at : {A : Type 0} (f : A → List ℕ) (xs : List A) (n : ℕ) (x : A) → n < length xs → x ≡ get_or xs n x → f x ≡ unwrap_or (slice_get (map f xs) n) []
item_at f [] n x within is = absurd (omega arith)
item_at f (y ∷ ys) zero x within is = ap f is
item_at f (y ∷ ys) (suc n) x within is = item_at f ys n x (omega arith) is

-- the item of a number, by the text of it
pub item_numbered : {A : Type 0} (f : A → List ℕ) (xs : List A) (n : ℕ) (x : A) → 0 < n → n - 1 < length xs → x ≡ get_or xs (n - 1) x → f x ≡ unwrap_or (numbered (map f xs) n) []
item_numbered f xs zero x some within is = absurd (omega arith)
item_numbered f xs (suc n) x some within is =
    let e : suc n - 1 ≡ n = omega arith in
    item_at f xs n x (omega arith) (rw e at is)
