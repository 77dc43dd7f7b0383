-- Laws of what a sink gains.
use Rattle.std.proofs.Common.{◌≡◌, ℕ, ◌+◌, subst, ◌-◌, List, [], ◌∷◌, ◌++◌, Option, Some, None, length, take, drop, refl, sym, ◌∙◌, ap, append_assoc, arith}
use Rattle.std.specs.Io.KnownBytes.{Appends, Keeps}
use Rattle.std.specs.List.{flat_map}
use Rattle.std.proofs.lemmas.Grind.{flat_map-append}
use Rattle.std.proofs.lemmas.List.{take-append-drop, take-take, drop-take, take_rest}
use Rattle.se_items.specs.Writing.{GainsPart, Moves}

pub append_nil : (xs : List ℕ) → xs ++ [] ≡ xs
append_nil [] = refl
append_nil (x ∷ xs) = ap (λ ys. x ∷ ys) (append_nil xs)

pub gains-none : (a : Option (List ℕ)) → Appends a a []
gains-none None = tt
gains-none (Some xs) = sym (append_nil xs)

pub gains-then : (a b c : Option (List ℕ)) (s t : List ℕ) → Appends a b s → Appends b c t → Appends a c (s ++ t)
gains-then None b c s t h k = tt
gains-then (Some xs) None c s t h k = absurd h
gains-then (Some xs) (Some ys) None s t h k = absurd k
gains-then (Some xs) (Some ys) (Some zs) s t h k = k ∙ ap (λ vs. vs ++ t) h ∙ append_assoc xs s t

pub gains-kept : (a b c : Option (List ℕ)) (s : List ℕ) → Appends a b s → Keeps b c → Appends a c s
gains-kept None b c s h k = tt
gains-kept (Some xs) None c s h k = absurd h
gains-kept (Some xs) (Some ys) None s h k = absurd k
gains-kept (Some xs) (Some ys) (Some zs) s h k = k ∙ h

-- a front of the front is a front of the whole
pub part-wider : (a b : Option (List ℕ)) (s t : List ℕ) → GainsPart a b s → GainsPart a b (s ++ t)
part-wider a b s t (front, rest, e, gained) = (front, rest ++ t, ap (λ vs. vs ++ t) e ∙ append_assoc front rest t, gained)

-- a whole front, and then a front of the rest
pub part-after : (a b c : Option (List ℕ)) (s t : List ℕ) → Appends a b s → GainsPart b c t → GainsPart a c (s ++ t)
part-after a b c s t h (front, rest, e, gained) =
    (s ++ front, rest, ap (λ vs. s ++ vs) e ∙ sym (append_assoc s front rest), gains-then a b c s front h gained)

-- a front by its length
pub part-taken : (a b : Option (List ℕ)) (k : ℕ) (s : List ℕ) → Appends a b (take k s) → GainsPart a b s
part-taken a b k s h = (take k s, drop k s, sym (take-append-drop k s), h)

-- a front, and a front of what stands after it
pub take-more-of : {A : Type 0} (xs : List A) (i k : ℕ) → take i xs ++ take k (drop i xs) ≡ take (i + k) xs
take-more-of xs i k =
    let a : take i xs ≡ take i (take (i + k) xs) = sym (take-take i (i + k) xs (omega arith)) in
    let b : take k (drop i xs) ≡ drop i (take (i + k) xs) = sym (drop-take i k xs) in
    rw (a, b) (take-append-drop i (take (i + k) xs))

-- one piece more of a text that is written piece by piece
pub gains-piece : (a b c : Option (List ℕ)) (xs : List ℕ) (i k : ℕ) → Appends a b (take i xs) → Appends b c (take k (take (length xs - i) (drop i xs))) → Appends a c (take (i + k) xs)
gains-piece a b c xs i k h next =
    let e : take k (take (length xs - i) (drop i xs)) ≡ take k (drop i xs) = ap (λ vs. take k vs) (take_rest xs i) in
    rw (← take-more-of xs i k) (gains-then a b c (take i xs) (take k (drop i xs)) h (rw e at next))

-- two texts, one after the other
pub moves-then : (a b c : Option (List ℕ)) (h1 h2 h3 s t : List ℕ) → Moves a b h1 h2 s → Moves b c h2 h3 t → Moves a c h1 h3 (s ++ t)
moves-then a b c h1 h2 h3 s t (front, e, gained) (more, k, then) =
    (front ++ more, sym (append_assoc h1 s t) ∙ ap (λ vs. vs ++ t) e ∙ append_assoc front h2 t ∙ ap (λ vs. front ++ vs) k ∙ sym (append_assoc front more h3), gains-then a b c front more gained then)

-- what the sink has is a front of the text so far and of what comes after it
pub part-so-far : (a b : Option (List ℕ)) (h1 h2 s t : List ℕ) → Moves a b h1 h2 s → GainsPart a b (h1 ++ (s ++ t))
part-so-far a b h1 h2 s t (front, e, gained) =
    (front, h2 ++ t, sym (append_assoc h1 s t) ∙ ap (λ vs. vs ++ t) e ∙ append_assoc front h2 t, gained)

-- the text so far, and a front of the rest
pub part-then : (a b c : Option (List ℕ)) (h1 h2 s u : List ℕ) → Moves a b h1 h2 s → GainsPart b c (h2 ++ u) → GainsPart a c (h1 ++ (s ++ u))
part-then a b c h1 h2 s u (front, e, gained) (more, rest, k, then) =
    (front ++ more, rest, sym (append_assoc h1 s u) ∙ ap (λ vs. vs ++ u) e ∙ append_assoc front h2 u ∙ ap (λ vs. front ++ vs) k ∙ sym (append_assoc front more rest), gains-then a b c front more gained then)

-- a line that was put into the buffer, which was then spilled
pub spilled : (b c : Option (List ℕ)) (h2 h h3 l : List ℕ) → h ≡ h2 ++ l → Moves b c h h3 [] → Moves b c h2 h3 l
spilled b c h2 h h3 l put (front, e, gained) = (front, sym put ∙ sym (append_nil h) ∙ e, gained)

pub spilled-part : (b c : Option (List ℕ)) (h2 h l : List ℕ) → h ≡ h2 ++ l → GainsPart b c (h ++ []) → GainsPart b c (h2 ++ l)
spilled-part b c h2 h l put part = let e : h ++ [] ≡ h2 ++ l = append_nil h ∙ put in subst (λ vs. GainsPart b c vs) e part

-- the texts of a list, one item more
pub texts-more : {A : Type 0} (f : A → List ℕ) (done : List A) (x : A) → flat_map f (done ++ x ∷ []) ≡ flat_map f done ++ f x
texts-more f done x = rw (flat_map-append f done (x ∷ [])) (ap (λ vs. flat_map f done ++ vs) (append_nil (f x)))

-- The texts of a list went through a buffer, and then that of one item more.
pub list-more : {A : Type 0} (f : A → List ℕ) (done : List A) (x : A) (a b c : Option (List ℕ)) (h1 h2 h3 : List ℕ)
    → Moves a b h1 h2 (flat_map f done) → Moves b c h2 h3 (f x) → Moves a c h1 h3 (flat_map f (done ++ x ∷ []))
list-more f done x a b c h1 h2 h3 so_far next = rw (texts-more f done x) (moves-then a b c h1 h2 h3 _ _ so_far next)

-- Where no further item was put, the sink has a front of all.
pub list-part : {A : Type 0} (f : A → List ℕ) (done rest : List A) (a b : Option (List ℕ)) (h1 h2 : List ℕ)
    → Moves a b h1 h2 (flat_map f done) → GainsPart a b (h1 ++ flat_map f (done ++ rest))
list-part f done rest a b h1 h2 so_far = rw (flat_map-append f done rest) (part-so-far a b h1 h2 _ (flat_map f rest) so_far)

-- Where the next item was written in part, too.
pub list-part-then : {A : Type 0} (f : A → List ℕ) (done : List A) (x : A) (rest : List A) (a b c : Option (List ℕ)) (h1 h2 : List ℕ)
    → Moves a b h1 h2 (flat_map f done) → GainsPart b c (h2 ++ f x) → GainsPart a c (h1 ++ flat_map f (done ++ x ∷ rest))
list-part-then f done x rest a b c h1 h2 so_far next =
    let now : GainsPart b c (h2 ++ (f x ++ flat_map f rest)) = subst (λ vs. GainsPart b c vs) (append_assoc h2 (f x) (flat_map f rest)) (part-wider b c _ (flat_map f rest) next) in
    rw (flat_map-append f done (x ∷ rest)) (part-then a b c h1 h2 _ _ so_far now)

-- What a text left in the buffer was written, too.
pub moved-whole : (a b c : Option (List ℕ)) (had has text : List ℕ) → Moves a b had has text → Appends b c has → Appends a c (had ++ text)
moved-whole a b c had has text (front, e, gained) then = rw e (gains-then a b c front has gained then)

-- Of what it left a front was written.
pub moved-part : (a b c : Option (List ℕ)) (had has text : List ℕ) → Moves a b had has text → GainsPart b c has → GainsPart a c (had ++ text)
moved-part a b c had has text (front, e, gained) then = rw e (part-after a b c front has gained then)
