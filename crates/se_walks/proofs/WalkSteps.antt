-- From a walk that is next to the one after it.
use Rattle.std.proofs.Common.{◌≡◌, ◌≤◌, ◌<◌, ◌+◌, ℕ, zero, suc, Bool, true, false, List, [], ◌∷◌, None, Some, length, take, drop, slice_get, refl, sym, ◌∙◌, length-drop, ap, add-one, arith, subst}
use Rattle.std.specs.Prelude.{if◌then◌else◌}
use Rattle.std.specs.List.{All, Contains}
use Rattle.std.proofs.lemmas.List.{drop-drop, drop_all}
use Rattle.std.proofs.lemmas.List.Elements.{All-contains}
use Rattle.walk_enum.specs.Moving.{Moves}
use Rattle.walk_enum.specs.Walks.{successors_of}
use Rattle.walk_simple.specs.SimpleWalks.{simple_walks}
use Rattle.walk_simple.proofs.Walking.{starts}
use Rattle.se_walks.specs.Numbered.{numbered}

-- an item of a list, and what stands after it, also of a front of the list
front-at : (all : List (List ℕ)) (most number : ℕ) (walk : List ℕ) → slice_get all number ≡ Some walk → number < most → drop number (take most all) ≡ walk ∷ drop (suc number) (take most all)
front-at [] most number walk there lt = absurd (cc there)
front-at (first ∷ others) zero number walk there lt = absurd (omega (arith, lt))
front-at (first ∷ others) (suc most) zero walk there lt = let e : first ≡ walk = cc in ap (λ x. x ∷ take most others) e
front-at (first ∷ others) (suc most) (suc number) walk there lt = front-at others most number walk there (omega (arith, lt))

-- an item of a front of the list, and what stands behind the next number
pub front-next : (all : List (List ℕ)) (most number : ℕ) (walk : List ℕ) → slice_get all number ≡ Some walk → number < most → drop number (take most all) ≡ walk ∷ drop (number + 1) (take most all)
front-next all most number walk there lt = rw add-one (front-at all most number walk there lt)

short : (all : List (List ℕ)) (most : ℕ) → length (take most all) ≤ most
short [] zero = omega arith
short [] (suc most) = omega arith
short (first ∷ others) zero = omega arith
short (first ∷ others) (suc most) = let le = short others most in omega (arith, le)

shorter : (all : List (List ℕ)) (most : ℕ) → length (take most all) ≤ length all
shorter [] zero = omega arith
shorter [] (suc most) = omega arith
shorter (first ∷ others) zero = omega arith
shorter (first ∷ others) (suc most) = let le = shorter others most in omega (arith, le)

-- what is left where there is no further walk
rest-of : (f : ℕ → List ℕ → List ℕ) (more : Bool) (number : ℕ) (listed : List (List ℕ)) → (more ≡ false → length listed ≤ number)
    → (if more then numbered f (number + 1) (drop number listed) else []) ≡ numbered f (number + 1) (drop number listed)
rest-of f true number listed none = refl
rest-of f false number listed none = ap (numbered f (number + 1)) (sym (drop_all number listed (none refl)))

-- The walk of a number was next, and then the one after it is, if there is one.
pub left-after : (f : ℕ → List ℕ → List ℕ) (listed : List (List ℕ)) (walk : List ℕ) (number : ℕ) (old more : Bool) → old ≡ true → drop number listed ≡ walk ∷ drop (number + 1) listed
    → (more ≡ false → length listed ≤ number + 1)
    → (if old then numbered f (number + 1) (drop number listed) else []) ≡ f (number + 1) walk ∷ (if more then numbered f (number + 1 + 1) (drop (number + 1) listed) else [])
left-after f listed walk number old more is next none =
    rw (is, rest-of f more (number + 1) listed none) (ap (numbered f (number + 1)) next)

pub none-past : (all : List (List ℕ)) (end after : ℕ) → end ≤ after → length (take end all) ≤ after
none-past all end after le = let s = short all end in omega (arith, le, s)

pub none-left : (all : List (List ℕ)) (end : ℕ) (walk new : List ℕ) (number after : ℕ) (more : Bool) → slice_get all number ≡ Some walk → after ≡ number + 1 → Moves all walk new more → more ≡ false → length (take end all) ≤ after
none-left all end walk new number after more there follows moves none = let s = shorter all end in let e = moves.last none number there in omega (arith, s, e, follows)

-- a walk of so many steps has a node
pub has-nodes : (all : List (List ℕ)) (walk : List ℕ) (count : ℕ) → Contains all walk → All (λ w. length w ≡ count + 1) all → 0 < length walk
has-nodes all walk count has each = let e = All-contains (λ w. length w ≡ count + 1) all walk each has in omega (arith, e)

-- and so has a simple walk
pub simple-nodes : (edge : ℕ → ℕ → Bool) (size a b most : ℕ) (all : List (List ℕ)) (walk : List ℕ) → all ≡ simple_walks edge size a b most → Contains all walk → 0 < length walk
simple-nodes edge size a b most all walk is has =
    let first = starts (successors_of edge size) [] a b most walk (subst (λ (walks : List (List ℕ)). Contains walks walk) is has) in
    omega (arith, ap length first.1)

-- so many walks were passed over, and one more
pub passed-next : (all left rest : List (List ℕ)) (text : List ℕ) (number : ℕ) → left ≡ drop number all → left ≡ text ∷ rest → rest ≡ drop (number + 1) all
passed-next all left rest text number is next =
    let e : drop 1 (drop number all) ≡ rest = ap (drop 1) (sym is ∙ next) in
    sym (sym (drop-drop 1 number all) ∙ e)

-- none was left to pass over
pub passed-end : (all left : List (List ℕ)) (number count : ℕ) → number ≤ count → left ≡ drop number all → left ≡ [] → left ≡ drop count all
passed-end all left number count le is none =
    let e : length (drop number all) ≡ 0 = ap length (sym is ∙ none) in
    none ∙ sym (drop_all count all (omega (arith, le, e, length-drop number all)))

-- where there is no further walk none is left
pub no-walks : (f : ℕ → List ℕ → List ℕ) (more : Bool) (number : ℕ) (listed : List (List ℕ)) → more ≡ false → (if more then numbered f (number + 1) (drop number listed) else []) ≡ []
no-walks f more number listed none = rw none refl

drop-numbered : (f : ℕ → List ℕ → List ℕ) (n k : ℕ) (xs : List (List ℕ)) → drop k (numbered f n xs) ≡ numbered f (n + k) (drop k xs)
drop-numbered f n zero xs = let e : n + 0 ≡ n = omega arith in rw e refl
drop-numbered f n (suc k) [] = refl
drop-numbered f n (suc k) (x ∷ xs) = let e : n + suc k ≡ n + 1 + k = omega arith in rw e (drop-numbered f (n + 1) k xs)

-- Of the walks from a number on so many were passed over: the walk behind them is next, if there is one.
pub passed-to : (f : ℕ → List ℕ → List ℕ) (listed : List (List ℕ)) (number count after : ℕ) (old more : Bool) → old ≡ true → after ≡ number + count → (more ≡ false → length listed ≤ after)
    → (if more then numbered f (after + 1) (drop after listed) else []) ≡ drop count (if old then numbered f (number + 1) (drop number listed) else [])
passed-to f listed number count after old more is at none =
    let begin : after + 1 ≡ number + 1 + count = omega (arith, at) in
    let rest : drop after listed ≡ drop count (drop number listed) = ap (λ n. drop n listed) at ∙ sym (drop-drop count number listed) in
    rw is (rest-of f more after listed none ∙ ap (λ n. numbered f n (drop after listed)) begin ∙ ap (numbered f (number + 1 + count)) rest ∙ sym (drop-numbered f (number + 1) count (drop number listed)))

-- it is next
pub passed-on : (f : ℕ → List ℕ → List ℕ) (listed : List (List ℕ)) (number count : ℕ) (more : Bool) → more ≡ true
    → (if more then numbered f (number + count + 1) (drop (number + count) listed) else []) ≡ drop count (if more then numbered f (number + 1) (drop number listed) else [])
passed-on f listed number count more is = passed-to f listed number count (number + count) more more is refl (λ none. let e : true ≡ false = sym is ∙ none in absurd (cc e))

-- as many as there are to the end were passed over
pub passed-all : (f : ℕ → List ℕ → List ℕ) (all : List (List ℕ)) (end number count : ℕ) (old : Bool) → end ≤ number + count
    → [] ≡ drop count (if old then numbered f (number + 1) (drop number (take end all)) else [])
passed-all f all end number count false le = sym (drop_all count [] (omega arith))
passed-all f all end number count true le =
    let s = short all end in
    let long = length-drop number (take end all) in
    let none : drop count (drop number (take end all)) ≡ [] = drop_all count (drop number (take end all)) (omega (arith, s, long, le)) in
    sym (drop-numbered f (number + 1) count (drop number (take end all)) ∙ ap (numbered f (number + 1 + count)) none)

none-at : (all : List (List ℕ)) (before : ℕ) → slice_get all before ≡ None → length all ≤ before
none-at [] before none = omega arith
none-at (first ∷ others) zero none = absurd (cc none)
none-at (first ∷ others) (suc before) none = let le = none-at others before none in omega (arith, le)

-- there is no walk of a number, and so none is left
pub passed-far : (f : ℕ → List ℕ → List ℕ) (all : List (List ℕ)) (end number count : ℕ) (old : Bool) → old ≡ true → slice_get all (number + count) ≡ None
    → [] ≡ drop count (if old then numbered f (number + 1) (drop number (take end all)) else [])
passed-far f all end number count old is none =
    let few = none-at all (number + count) none in
    let s = shorter all end in
    passed-to f (take end all) number count (number + count) old false is refl (λ e. omega (arith, few, s))
