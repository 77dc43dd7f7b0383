-- The lines of rows, and of all rows that are left.
use Rattle.std.proofs.Common.{inl, inr, ◌≡◌, ◌∙◌, ◌≤◌, ◌<◌, ◌+◌, ◌-◌, ◌++◌, ℕ, zero, suc, List, [], ◌∷◌, Option, Some, None, length, map, take, drop, refl, sym, ap, arith, subst, append-nil, append_assoc, length-drop}
use Rattle.std.specs.Prelude.{min, slice_get}
use Rattle.std.specs.List.{All, concat, flat_map}
use Rattle.std.proofs.lemmas.Bool.{cases_lt}
use Rattle.std.proofs.lemmas.List.{drop-take, drop_min, length-map, length-take-le, take-take, take_all, take_min}
use Rattle.std.proofs.lemmas.Option.{slice_get_within, get_or_from_slice_get}
use Rattle.std.proofs.lemmas.List.Elements.{All-append, All-contains, All-cons, All-head, All-nil, All-tail}
use Rattle.pol_file.specs.declared.Parts.{Parts}
use Rattle.set_products.specs.declared.Place.{Place}
use Rattle.set_products.specs.declared.Row.{Row}
use Rattle.set_products.specs.declared.Single.{Single}
use Rattle.set_products.specs.Members.{Product, members, members_of}
use Rattle.set_products.specs.Standing.{IsRowAt, RowGives, StandsAt, member_in}
use Rattle.set_products.proofs.Products.{get_dropped}
use Rattle.pol_read.specs.StoredRules.{stored_rules}
use Rattle.rule_text.specs.RuleFrames.{frame_target}
use Rattle.se_items.specs.Paging.{limited, most_items, page}
use Rattle.se_search.specs.declared.row_lines.RowLines.{RowLines}
use Rattle.se_search.specs.declared.row_lines.SourceFrame.{SourceFrame}
use Rattle.se_search.specs.Inner.RowLines.{IsFrameOf, IsHeadOf, PushesTargets}
use Rattle.se_search.specs.SearchAnswer.{single_line}
use Rattle.se_search.specs.Inner.SingleLines.{AreOfRules, IsAtRow, IsRow, end_of, lines_between, turns_to_line, turns_to_targets}

-- ---- members

abbrev IsRuleOf : ℕ → Single → Type 0
IsRuleOf n single = single.rule < n

to_targets : (n rule source : ℕ) (targets : List ℕ) → rule < n → All (IsRuleOf n) (map (λ t. record { rule = rule; source = source; target = t }) targets)
to_targets n rule source [] lt = All-nil (IsRuleOf n)
to_targets n rule source (t ∷ targets) lt = All-cons (IsRuleOf n) (record { rule = rule; source = source; target = t }) (map (λ t. record { rule = rule; source = source; target = t }) targets) lt (to_targets n rule source targets lt)

from_sources : (n rule : ℕ) (targets sources : List ℕ) → rule < n → All (IsRuleOf n) (flat_map (λ s. map (λ t. record { rule = rule; source = s; target = t }) targets) sources)
from_sources n rule targets [] lt = All-nil (IsRuleOf n)
from_sources n rule targets (s ∷ sources) lt =
    All-append (IsRuleOf n) (map (λ t. record { rule = rule; source = s; target = t }) targets) (flat_map (λ s. map (λ t. record { rule = rule; source = s; target = t }) targets) sources)
    (to_targets n rule s targets lt) (from_sources n rule targets sources lt)

all_members : (n : ℕ) (ps : List Product) → All (λ p. p.rule < n) ps → All (IsRuleOf n) (members ps)
unfolding members
all_members n [] h = All-nil (IsRuleOf n)
all_members n (p ∷ ps) h =
    All-append (IsRuleOf n) (members_of p) (flat_map members_of ps) (from_sources n p.rule p.targets p.sources (All-head (λ (p : Product). p.rule < n) p ps h)) (all_members n ps (All-tail (λ (p : Product). p.rule < n) p ps h))

-- a member is of a rule
pub member_rule : (policy : Parts) (ps : List Product) (k : ℕ) (single : Single) → AreOfRules policy ps → slice_get (members ps) k ≡ Some single → single.rule < length (stored_rules policy)
member_rule policy ps k single h e =
    let lt = slice_get_within (members ps) k single e in
    All-contains (IsRuleOf (length (stored_rules policy))) (members ps) single (all_members (length (stored_rules policy)) ps h) (k, lt, get_or_from_slice_get (members ps) k single single e)

-- ---- lists

at_front : {A : Type 0} (m k : ℕ) (xs : List A) (x : A) → k < m → slice_get xs k ≡ Some x → drop k (take m xs) ≡ x ∷ drop (suc k) (take m xs)
at_front m k [] x lt e = absurd cc
at_front zero k (y ∷ ys) x lt e = absurd (omega (arith, lt))
at_front (suc m) zero (y ∷ ys) x lt e = let same : y ≡ x = cc in ap (λ z. z ∷ take m ys) same
at_front (suc m) (suc k) (y ∷ ys) x lt e = at_front m k ys x (omega (arith, lt)) e

none_beyond : {A : Type 0} (m k : ℕ) (xs : List A) → m ≤ k → drop k (take m xs) ≡ []
none_beyond zero zero xs le = refl
none_beyond zero (suc k) xs le = refl
none_beyond (suc m) zero xs le = absurd (omega (arith, le))
none_beyond (suc m) (suc k) [] le = refl
none_beyond (suc m) (suc k) (x ∷ xs) le = none_beyond m k xs (omega (arith, le))

get_mapped : {A B : Type 0} (f : A → B) (xs : List A) (k : ℕ) (x : A) → slice_get xs k ≡ Some x → slice_get (map f xs) k ≡ Some (f x)
get_mapped f [] k x e = absurd cc
get_mapped f (y ∷ ys) zero x e = let same : y ≡ x = cc in ap (λ z. Some (f z)) same
get_mapped f (y ∷ ys) (suc k) x e = get_mapped f ys k x e

get_taken : (xs : List ℕ) (n i t : ℕ) → slice_get (take n xs) i ≡ Some t → slice_get xs i ≡ Some t
get_taken xs zero i t e = absurd cc
get_taken [] (suc n) i t e = absurd cc
get_taken (x ∷ xs) (suc n) zero t e = e
get_taken (x ∷ xs) (suc n) (suc i) t e = get_taken xs n i t e

-- Texts that are the elements from a place on come first of all that are left there.
texts_first : (f : ℕ → List ℕ) (ts : List ℕ) (all : List (List ℕ)) (k end : ℕ) → ((i t : ℕ) → slice_get ts i ≡ Some t → slice_get all (k + i) ≡ Some (f t)) → k + length ts ≤ end
    → concat (drop k (take end all)) ≡ flat_map f ts ++ concat (drop (k + length ts) (take end all))
texts_first f [] all k end each le = let e : k + 0 ≡ k = omega arith in rw e refl
texts_first f (t ∷ ts) all k end each le =
    let at : k + 0 ≡ k = omega arith in
    let here : slice_get all k ≡ Some (f t) = ap (slice_get all) (sym at) ∙ each 0 t refl in
    let long : length (t ∷ ts) ≡ suc (length ts) = refl in
    let lt : k < end = omega (arith, le, long) in
    let on : suc k + length ts ≡ k + length (t ∷ ts) = omega (arith, long) in
    let within : suc k + length ts ≤ end = omega (arith, le, long) in
    let rest = texts_first f ts all (suc k) end (λ i u is. let e : k + suc i ≡ suc k + i = omega arith in ap (slice_get all) (sym e) ∙ each (suc i) u is) within in
    ap (λ (xs : List (List ℕ)). concat xs) (at_front end k all (f t) lt here) ∙ ap (λ (x : List ℕ). f t ++ x) rest
    ∙ sym (append_assoc (f t) (flat_map f ts) (concat (drop (suc k + length ts) (take end all)))) ∙ ap (λ (n : ℕ). (f t ++ flat_map f ts) ++ concat (drop n (take end all))) on

-- ---- the part that is asked for

-- The part up to the end is that of a page.
pub part_is : (from : ℕ) (limit : Option ℕ) (most all passed end : ℕ) (xs : List (List ℕ)) → all ≡ min most (length xs) → passed ≡ min from all → end ≡ end_of all passed limit
    → drop passed (take end xs) ≡ limited limit (drop from (take most xs))
part_is from limit most all passed end xs is_all is_passed is_end = rest limit is_end
  where
    taken : take all xs ≡ take most xs
    taken = ap (λ (n : ℕ). take n xs) is_all ∙ take_min most xs

    long : length (take all xs) ≡ all
    long = length-take-le all xs (omega (arith, is_all))

    dropped : drop passed (take all xs) ≡ drop from (take most xs)
    dropped = ap (λ (n : ℕ). drop n (take all xs)) (is_passed ∙ ap (λ (n : ℕ). min from n) (sym long)) ∙ drop_min from (take all xs) ∙ ap (drop from) taken

    cut : (count : ℕ) → take (min (passed + count) all) xs ≡ take (passed + count) (take all xs)
    cut count = elim (cases_lt (passed + count) all) [
      | inl lt ↦ let e : min (passed + count) all ≡ passed + count = omega (arith, lt) in ap (λ (n : ℕ). take n xs) e ∙ sym (take-take (passed + count) all xs (omega (arith, lt)))
      | inr le ↦ let e : min (passed + count) all ≡ all = omega (arith, le) in ap (λ (n : ℕ). take n xs) e ∙ sym (take_all (passed + count) (take all xs) (omega (arith, le, long)))
    ]

    rest : (limit : Option ℕ) → end ≡ end_of all passed limit → drop passed (take end xs) ≡ limited limit (drop from (take most xs))
    rest None e = ap (λ (n : ℕ). drop passed (take n xs)) e ∙ dropped
    rest (Some count) e = ap (λ (n : ℕ). drop passed (take n xs)) e ∙ ap (drop passed) (cut count) ∙ drop-take passed count (take all xs) ∙ ap (take count) dropped

pub page_is : (policy : Parts) (ps : List Product) (from : ℕ) (limit : Option ℕ) (all passed end : ℕ) → all ≡ min most_items (length (members ps)) → passed ≡ min from all → end ≡ end_of all passed limit
    → lines_between policy ps passed end ≡ page from limit (map (single_line policy) (members ps))
unfolding page
page_is policy ps from limit all passed end is_all is_passed is_end =
    let long = length-map (members ps) (single_line policy) in
    part_is from limit most_items all passed end (map (single_line policy) (members ps)) (is_all ∙ ap (λ (n : ℕ). min most_items n) (sym long)) is_passed is_end

-- how far it goes
pub end_within : (all passed end : ℕ) (limit : Option ℕ) → passed ≤ all → end ≡ end_of all passed limit → (passed ≤ end) × (end ≤ all)
end_within all passed end None le e = (omega (arith, le, e), omega (arith, e))
end_within all passed end (Some count) le e = (omega (arith, le, e), omega (arith, e))

-- the place that is skipped to
pub stands_there : (ps : List Product) (at : Place) (k w : ℕ) → k ≡ min w (min most_items (length (members ps))) → StandsAt ps at (min k (length (members ps))) → StandsAt ps at k
stands_there ps at k w e h = subst (StandsAt ps at) (all most_items k w (length (members ps)) e) h
  where
    all : (m k w n : ℕ) → k ≡ min w (min m n) → min k n ≡ k
    all m k w n e = omega (arith, e)

-- ---- rows

-- the line of a target
row_line : (policy : Parts) (lines : RowLines) (target : ℕ) → IsFrameOf policy lines.row.rule lines.frame → IsHeadOf lines.row.source lines.frame
    → single_line policy (member_in lines.row target) ≡ lines.frame.head.items ++ frame_target lines.frame.frame target ++ lines.frame.frame.rest.items
unfolding single_line
row_line policy lines target of head =
    sym (ap (λ (before : List ℕ). before ++ frame_target lines.frame.frame target ++ lines.frame.frame.rest.items) head.head ∙ of.line lines.row.source target)

-- What is at hand and left after targets of a row.
pub record PushedRow (policy : Parts) (ps : List Product) (passed end : ℕ) (behind : Place) (lines : RowLines) (targets had has : List ℕ) (count : ℕ) : Type 0 where
  pub row : IsRow policy ps (passed + count) behind (record { row = record { rule = lines.row.rule; source = lines.row.source; targets = targets }; frame = lines.frame })
  pub text : List ℕ
  pub left : concat (lines_between policy ps passed end) ≡ text ++ concat (lines_between policy ps (passed + count) end)
  pub added : has ≡ had ++ text
  pub within : passed + count ≤ end

pub row_pushed : (policy : Parts) (ps : List Product) (passed end most count : ℕ) (behind : Place) (lines : RowLines) (targets had has : List ℕ) → IsRow policy ps passed behind lines → passed + most ≤ end
    → PushesTargets (λ target. lines.frame.head.items ++ frame_target lines.frame.frame target ++ lines.frame.frame.rest.items) most lines.row.targets targets had has count
    → PushedRow policy ps passed end behind lines targets had has count
row_pushed policy ps passed end most count behind lines targets had has row room pushed =
    let old : List ℕ = lines.row.targets in
    let line_of : ℕ → List ℕ = λ target. lines.frame.head.items ++ frame_target lines.frame.frame target ++ lines.frame.frame.rest.items in
    let few : count ≤ length old = omega (arith, pushed.count_is) in
    let fits : passed + count ≤ end = omega (arith, pushed.count_is, room) in
    let taken : length (take count old) ≡ count = length-take-le count old few in
    let dropped : length targets ≡ length old - count = ap (λ (xs : List ℕ). length xs) pushed.left ∙ length-drop count old in
    let behind_is : passed + length old ≡ passed + count + length targets = omega (arith, few, dropped) in
    let first = texts_first line_of (take count old) (map (single_line policy) (members ps)) passed end
    (λ i target is. get_mapped (single_line policy) (members ps) (passed + i) (member_in lines.row target) (row.each i target (get_taken old count i target is)) ∙ ap (λ (text : List ℕ). Some text) (row_line policy lines target row.frame row.head))
    (omega (arith, taken, fits)) in
    record {
      row = record {
        frame = row.frame;
        head = row.head;
        each = λ i target is.
            let at : passed + (count + i) ≡ passed + count + i = omega arith in
            ap (slice_get (members ps)) (sym at) ∙ row.each (count + i) target (sym (get_dropped old count i) ∙ ap (λ (xs : List ℕ). slice_get xs i) (sym pushed.left) ∙ is);
        after = subst (StandsAt ps behind) behind_is row.after;
      };
      text = flat_map line_of (take count old);
      left = first ∙ ap (λ (n : ℕ). flat_map line_of (take count old) ++ concat (lines_between policy ps (passed + n) end)) taken;
      added = pushed.text;
      within = fits;
    }

-- no row is at hand
pub at_none : (policy : Parts) (ps : List Product) (passed : ℕ) (behind : Place) (row : Option RowLines) → IsAtRow policy ps passed behind row → ((lines : RowLines) → row ≡ Some lines → ⊥) → StandsAt ps behind passed × (turns_to_line row ≡ 1)
at_none policy ps passed behind None at none = (at, refl)
at_none policy ps passed behind (Some lines) at none = absurd (none lines refl)

pub at_some : (policy : Parts) (ps : List Product) (passed : ℕ) (behind : Place) (row : Option RowLines) (lines : RowLines) → IsAtRow policy ps passed behind row → row ≡ Some lines → IsRow policy ps passed behind lines × (turns_to_line row ≡ turns_to_targets lines.row.targets)
at_some policy ps passed behind row lines at is = (subst (IsAtRow policy ps passed behind) is at, ap turns_to_line is)

-- the row at hand has no target left
pub row_ends : (policy : Parts) (ps : List Product) (passed most : ℕ) (behind : Place) (lines : RowLines) (text_of : ℕ → List ℕ) (new had has : List ℕ) (count : ℕ) → 0 < most → count ≡ 0 → IsRow policy ps passed behind lines
    → PushesTargets text_of most lines.row.targets new had has count → StandsAt ps behind passed × (turns_to_targets lines.row.targets ≡ 1) × (has ≡ had)
row_ends policy ps passed most behind lines text_of new had has count some none row pushed =
    let short : length lines.row.targets ≡ 0 = omega (arith, some, none, pushed.count_is) in
    let here : passed + length lines.row.targets ≡ passed = omega (arith, short) in
    (subst (StandsAt ps behind) here row.after, no_targets lines.row.targets short, pushed.text ∙ ap (λ (n : ℕ). had ++ flat_map text_of (take n lines.row.targets)) none ∙ append-nil had)
  where
    no_targets : (targets : List ℕ) → length targets ≡ 0 → turns_to_targets targets ≡ 1
    no_targets [] short = refl
    no_targets (t ∷ ts) short = absurd (let long : length (t ∷ ts) ≡ suc (length ts) = refl in omega (arith, short, long))

pub few_turns : (targets : List ℕ) → turns_to_targets targets ≤ 1
few_turns [] = omega arith
few_turns (t ∷ ts) = omega arith

pub no_turn : (targets : List ℕ) → 0 < length targets → turns_to_targets targets ≡ 0
no_turn [] some = absurd (omega (arith, some))
no_turn (t ∷ ts) some = refl

-- none is left at the end
pub none_left : (policy : Parts) (ps : List Product) (passed end : ℕ) → end ≤ passed → concat (lines_between policy ps passed end) ≡ []
none_left policy ps passed end le = ap (λ (xs : List (List ℕ)). concat xs) (none_beyond end passed (map (single_line policy) (members ps)) le)

-- ---- the next row

-- there is one where a member is left
pub row_there : (ps : List Product) (k : ℕ) (step : Option (Row × Place)) → k < length (members ps) → RowGives ps k step → ((x : Row × Place) → step ≡ Some x → ⊥) → ⊥
row_there ps k None lt gives none = omega (arith, lt, gives)
row_there ps k (Some x) lt gives none = none x refl

-- it is of a rule
pub row_rule : (policy : Parts) (ps : List Product) (k : ℕ) (row : Row) (after : Place) → AreOfRules policy ps → IsRowAt ps k row after → row.rule < length (stored_rules policy)
row_rule policy ps k row after are at = by row.targets refl
  where
    by : (targets : List ℕ) → row.targets ≡ targets → row.rule < length (stored_rules policy)
    by [] e = let short : length row.targets ≡ 0 = ap (λ (xs : List ℕ). length xs) e in absurd (omega (arith, short, at.some))
    by (t ∷ ts) e = member_rule policy ps (k + 0) (member_in row t) are (at.each 0 t (ap (λ (xs : List ℕ). slice_get xs 0) e))

-- it begins
pub row_begun : (policy : Parts) (ps : List Product) (k : ℕ) (row : Row) (after : Place) (frame : SourceFrame) → IsRowAt ps k row after → IsFrameOf policy row.rule frame → IsHeadOf row.source frame
    → IsRow policy ps k after (record { row = row; frame = frame })
row_begun policy ps k row after frame at of head = record { frame = of; head = head; each = at.each; after = at.after }

-- its frame may serve again
pub is_last : (policy : Parts) (rule : ℕ) (frame : SourceFrame) → IsFrameOf policy rule frame → IsFrameOf policy frame.rule frame
is_last policy rule frame of = subst (λ (r : ℕ). IsFrameOf policy r frame) (sym of.rule_is) of
