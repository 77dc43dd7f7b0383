-- Words that end at zero bytes, one after the other.
use Rattle.std.proofs.Common.{◌≡◌, ◌<◌, ◌≤◌, ◌+◌, ◌-◌, ◌++◌, ◌∷◌, [], ℕ, suc, List, length, take, drop, map, Bool, true, false, Option, Some, None, nat_lt, if◌then◌else◌, refl, sym, ◌∙◌, append_assoc, arith}
use Rattle.std.specs.List.{position_from, position_or_len, slice_split}
use Rattle.std.proofs.lemmas.Iterator.Adapters.{position_from-zero}
use Rattle.std.proofs.lemmas.List.{append-nil}
use Rattle.std.proofs.lemmas.List.Sums.{fails_before_first}
use Rattle.std.proofs.lemmas.List.Splits.{length-slice_split, slice_split_first, slice_split_none}
use Rattle.se_words.specs.Word.{text_in}
use Rattle.se_options.specs.ProcessWords.{ended, is_zero, process_words}

ended-none : (bytes : List ℕ) → length bytes ≤ position_or_len is_zero bytes → ended bytes ≡ []
ended-none bytes le =
    let one = slice_split_none is_zero bytes (λ k d lt. fails_before_first is_zero bytes k d (omega (arith, le, lt))) in
    rw one refl

but-last : {A : Type 0} (x : A) (parts : List A) → 0 < length parts → take (length (x ∷ parts) - 1) (x ∷ parts) ≡ x ∷ take (length parts - 1) parts
but-last x [] some = absurd (omega (arith, some))
but-last x (y ∷ parts) some = let e : length (x ∷ y ∷ parts) - 1 ≡ suc (length (y ∷ parts) - 1) = omega arith in rw e refl

ended-some : (bytes : List ℕ) → position_or_len is_zero bytes < length bytes
    → ended bytes ≡ take (position_or_len is_zero bytes) bytes ∷ ended (drop (position_or_len is_zero bytes + 1) bytes)
ended-some bytes lt =
    let others = drop (position_or_len is_zero bytes + 1) bytes in
    rw (slice_split_first is_zero bytes 0 lt) (but-last (take (position_or_len is_zero bytes) bytes) (slice_split is_zero others) (omega (arith, length-slice_split is_zero others)))

-- What the search for a zero byte finds.
abbrev pub Finds : List ℕ → Option ℕ → Type 0
Finds bytes None = ended bytes ≡ []
Finds bytes (Some index) = ended bytes ≡ take index bytes ∷ ended (drop (index + 1) bytes)

finds : (bytes : List ℕ) (b : Bool) → nat_lt (position_or_len is_zero bytes) (length bytes) ≡ b → Finds bytes (if b then Some (position_or_len is_zero bytes) else None)
finds bytes true e = ended-some bytes (grind (arith, e))
finds bytes false e = ended-none bytes (grind (arith, e))

pub found : (bytes : List ℕ) (index : Option ℕ) → index ≡ position_from is_zero 0 bytes → Finds bytes index
found bytes index is = rw (is ∙ sym (position_from-zero is_zero bytes)) (finds bytes _ refl)

-- The words so far and those that are left are all words.
abbrev pub Left : List ℕ → List (Option (List ℕ)) → List ℕ → Type 0
Left bytes words rest = words ++ map text_in (ended rest) ≡ process_words bytes

pub left-start : (bytes name rest : List ℕ) → ended bytes ≡ name ∷ ended rest → Left bytes [] rest
unfolding process_words
left-start bytes name rest is = rw is refl

pub left-next : (bytes rest word after : List ℕ) (words more : List (Option (List ℕ))) → ended rest ≡ word ∷ ended after → more ≡ words ++ text_in word ∷ [] → Left bytes words rest → Left bytes more after
left-next bytes rest word after words more is added left = rw added (append_assoc words (text_in word ∷ []) (map text_in (ended after)) ∙ rw is at left)

pub left-end : (bytes rest : List ℕ) (words : List (Option (List ℕ))) → ended rest ≡ [] → Left bytes words rest → words ≡ process_words bytes
left-end bytes rest words is left = sym (append-nil words) ∙ rw is at left
