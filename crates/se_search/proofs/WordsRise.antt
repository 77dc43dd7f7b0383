-- Criteria in the order of their words rise by them.
use Rattle.std.proofs.Common.{◌≡◌, ℕ, ◌≤◌, Bool, true, false, cond, List, [], ◌∷◌, ◌++◌, refl, arith, nat_lt}
use Rattle.std.specs.List.{All}
use Rattle.std.specs.Prelude.{⊤}
use Rattle.std.proofs.lemmas.Bool.{ltb-true, ltb-false}
use Rattle.std.proofs.lemmas.List.Elements.{All-cons}
use Rattle.rule_criteria.specs.declared.Criteria.{Criteria}
use Rattle.rule_query.specs.declared.Aspect.TheVariants.{Source, Target, Class, Permissions, Numbers, Default, Booleans}
use Rattle.rule_query.specs.GivenCriteria.{Given, in_word_order, with_given, with_all, given_as}
use Rattle.std.proofs.lemmas.List.Elements.{All-head, All-nil, All-tail}
use Rattle.se_search.specs.SearchPatterns.{ComesAfter, ComesBefore}

-- each comes after those before it
abbrev pub Rises : List Given → Type 0
Rises [] = ⊤
Rises (given ∷ others) = All (ComesAfter given.criterion.word) others × Rises others

later : (a b : ℕ) (gs : List Given) → a ≤ b → All (ComesAfter b) gs → All (ComesAfter a) gs
later a b gs le h k d lt = let at = h k d lt in omega (arith, le, at)

among : (P : Given → Type 0) (gs : List Given) (one : Given) → P one → All P gs → All P (with_given gs one)
among P [] one p h = All-cons P one [] p h
among P (first ∷ others) one p h =
    elim (nat_lt one.criterion.word first.criterion.word) as (λ b. All P (cond b (one ∷ first ∷ others) (first ∷ with_given others one))) [
      | true ↦ All-cons P one (first ∷ others) p h
      | false ↦ All-cons P first (with_given others one) (All-head P first others h) (among P others one p (All-tail P first others h))
    ]

put : (one first : Given) (others : List Given) → Rises (first ∷ others) → Rises (with_given others one) → (b : Bool) → nat_lt one.criterion.word first.criterion.word ≡ b
    → Rises (cond b (one ∷ first ∷ others) (first ∷ with_given others one))
put one first others rises then true is =
    let lt = ltb-true _ _ is in
    let le : one.criterion.word ≤ first.criterion.word = omega (arith, lt) in
    (All-cons (ComesAfter one.criterion.word) first others le (later _ _ others le rises.0), rises)
put one first others rises then false is =
    let le : first.criterion.word ≤ one.criterion.word = ltb-false _ _ is in
    (among (ComesAfter first.criterion.word) others one le rises.0, then)

with_given-rises : (gs : List Given) (one : Given) → Rises gs → Rises (with_given gs one)
with_given-rises [] one rises = (All-nil (ComesAfter one.criterion.word), tt)
with_given-rises (first ∷ others) one rises = put one first others rises (with_given-rises others one rises.1) (nat_lt one.criterion.word first.criterion.word) refl

with_all-rises : (more gs : List Given) → Rises gs → Rises (with_all gs more)
with_all-rises [] gs rises = rises
with_all-rises (one ∷ more) gs rises = with_all-rises more (with_given gs one) (with_given-rises gs one rises)

pub order-rises : (criteria : Criteria) → Rises (in_word_order criteria)
unfolding in_word_order
order-rises criteria =
    let one : List Given = with_all [] (given_as Source criteria.source) in
    let two : List Given = with_all one (given_as Target criteria.target) in
    let three : List Given = with_all two (given_as Class criteria.class) in
    let four : List Given = with_all three (given_as Permissions criteria.perms) in
    let five : List Given = with_all four (given_as Numbers criteria.xperms) in
    let six : List Given = with_all five (given_as Default criteria.default) in
    with_all-rises (given_as Booleans criteria.bools) six (with_all-rises (given_as Default criteria.default) five (with_all-rises (given_as Numbers criteria.xperms) four
    (with_all-rises (given_as Permissions criteria.perms) three (with_all-rises (given_as Class criteria.class) two (with_all-rises (given_as Target criteria.target) one (with_all-rises (given_as Source criteria.source) [] tt))))))

pub after-rises : (before : List Given) (given : Given) (after : List Given) → Rises (before ++ given ∷ after) → All (ComesAfter given.criterion.word) after
after-rises [] given after rises = rises.0
after-rises (one ∷ before) given after rises = after-rises before given after rises.1

at-middle : (P : Given → Type 0) (before : List Given) (given : Given) (after : List Given) → All P (before ++ given ∷ after) → P given
at-middle P [] given after h = All-head P given after h
at-middle P (one ∷ before) given after h = at-middle P before given after (All-tail P one (before ++ given ∷ after) h)

-- and those before it come before it
pub before-rises : (before : List Given) (given : Given) (after : List Given) → Rises (before ++ given ∷ after) → All (ComesBefore given.criterion.word) before
before-rises [] given after rises = All-nil (ComesBefore given.criterion.word)
before-rises (one ∷ before) given after rises =
    All-cons (ComesBefore given.criterion.word) one before (at-middle (ComesAfter one.criterion.word) before given after rises.0) (before-rises before given after rises.1)
