-- The texts of targets that are added one after the other.
use Rattle.std.proofs.Common.{◌≡◌, ◌∙◌, ◌≤◌, ◌<◌, ◌+◌, ◌-◌, ◌++◌, ℕ, suc, List, [], ◌∷◌, Option, Some, None, length, take, drop, get_or, refl, sym, ap, arith, add-one, append-nil, append_assoc, drop-cons, length-drop}
use Rattle.std.specs.List.{flat_map}
use Rattle.std.specs.Iterator.{YieldsFirst}
use Rattle.std.proofs.lemmas.List.{take_more}
use Rattle.se_items.proofs.Gains.{texts-more}
use Rattle.se_search.specs.Inner.RowLines.{PushesTargets}

-- nothing was given, and nothing was left
pub none_given : (old new : List ℕ) (given : Option ℕ) → YieldsFirst (λ (targets : List ℕ). targets) old given new → ((x : ℕ) → given ≡ Some x → ⊥) → (old ≡ []) × (new ≡ [])
none_given old new None yields none = yields
none_given old new (Some x) yields none = absurd (none x refl)

-- Of so many targets the texts were added, and the others are left.
pub record OthersPushed (text_of : ℕ → List ℕ) (number : ℕ) (old left had has : List ℕ) : Type 0 where
  pub within : number ≤ length old
  pub left_is : left ≡ drop number old
  pub text : has ≡ had ++ flat_map text_of (take number old)

-- the target that is next
record Next (old rest : List ℕ) (number target : ℕ) : Type 0 where
  within : number < length old
  front : take (number + 1) old ≡ take number old ++ (target ∷ [])
  back : rest ≡ drop (number + 1) old

next_of : (old left rest : List ℕ) (number target : ℕ) → left ≡ drop number old → left ≡ target ∷ rest → Next old rest number target
next_of old left rest number target is next =
    let long : length (drop number old) ≡ length (target ∷ rest) = ap (λ (xs : List ℕ). length xs) (sym is ∙ next) in
    let lt : number < length old = omega (arith, length-drop number old, long) in
    let e : target ∷ rest ≡ get_or old number target ∷ drop (suc number) old = sym next ∙ is ∙ drop-cons old number target lt in
    let here : target ≡ get_or old number target = cc in
    record {
      within = lt;
      front = take_more old number target lt ∙ ap (λ (x : ℕ). take number old ++ (x ∷ [])) (sym here);
      back = rw add-one (cc);
    }

pub others_next : (between : List ℕ) (name : ℕ → List ℕ) (number target : ℕ) (old left rest had has mid put : List ℕ)
    → OthersPushed (λ t. between ++ name t) number old left had has → left ≡ target ∷ rest → mid ≡ has ++ between → put ≡ mid ++ name target
    → OthersPushed (λ t. between ++ name t) (number + 1) old rest had put
others_next between name number target old left rest had has mid put pushed next first second =
    let n = next_of old left rest number target pushed.left_is next in
    let text_of : ℕ → List ℕ = λ t. between ++ name t in
    let so_far : List ℕ = flat_map text_of (take number old) in
    record {
      within = omega (arith, n.within);
      left_is = n.back;
      text = second ∙ ap (λ (x : List ℕ). x ++ name target) first ∙ append_assoc has between (name target) ∙ ap (λ (x : List ℕ). x ++ (between ++ name target)) pushed.text
          ∙ append_assoc had so_far (between ++ name target) ∙ ap (λ (x : List ℕ). had ++ x) (sym (texts-more text_of (take number old) target) ∙ ap (λ (ts : List ℕ). flat_map text_of ts) (sym n.front));
    }

pub others_end : (text_of : ℕ → List ℕ) (number most : ℕ) (old left rest had has : List ℕ) → number ≤ most → OthersPushed text_of number old left had has → (left ≡ []) × (rest ≡ [])
    → PushesTargets text_of most old rest had has number
others_end text_of number most old left rest had has le pushed none =
    let long : length (drop number old) ≡ 0 = ap (λ (xs : List ℕ). length xs) (sym pushed.left_is ∙ none.0) in
    let all : length old ≡ number = omega (arith, length-drop number old, long, pushed.within) in
    record { count_is = omega (arith, all, le); left = none.1 ∙ sym none.0 ∙ pushed.left_is; text = pushed.text }

pub others_all : (text_of : ℕ → List ℕ) (number most : ℕ) (old left had has : List ℕ) → number ≡ most → OthersPushed text_of number old left had has → PushesTargets text_of most old left had has most
others_all text_of number most old left had has same pushed =
    record { count_is = omega (arith, same, pushed.within); left = pushed.left_is ∙ ap (λ (n : ℕ). drop n old) same; text = pushed.text ∙ ap (λ (n : ℕ). had ++ flat_map text_of (take n old)) same }

-- no target was there
pub none_pushed : (text_of : ℕ → List ℕ) (most : ℕ) (old rest had : List ℕ) → (old ≡ []) × (rest ≡ []) → PushesTargets text_of most old rest had had 0
none_pushed text_of most old rest had none =
    let long : length old ≡ 0 = ap (λ (xs : List ℕ). length xs) none.0 in
    record { count_is = omega (arith, long); left = none.1 ∙ sym none.0; text = sym (append-nil had) }

-- What stands between two targets is the end of a line and the head of the next.
shape : (head rest name all : List ℕ) → ((rest ++ head) ++ name) ++ (rest ++ all) ≡ rest ++ ((head ++ name ++ rest) ++ all)
shape head rest name all = simp append_assoc refl

joined : (head rest : List ℕ) (name : ℕ → List ℕ) (ts : List ℕ) → flat_map (λ t. (rest ++ head) ++ name t) ts ++ rest ≡ rest ++ flat_map (λ t. head ++ name t ++ rest) ts
joined head rest name [] = sym (append-nil rest)
joined head rest name (t ∷ ts) =
    let before : List ℕ = (rest ++ head) ++ name t in
    append_assoc before (flat_map (λ t. (rest ++ head) ++ name t) ts) rest ∙ ap (λ (x : List ℕ). before ++ x) (joined head rest name ts) ∙ shape head rest (name t) (flat_map (λ t. head ++ name t ++ rest) ts)

shape_first : (had head name rest all : List ℕ) → ((had ++ head) ++ name) ++ (rest ++ all) ≡ had ++ ((head ++ name ++ rest) ++ all)
shape_first had head name rest all = simp append_assoc refl

-- The first target stands behind the head, and the end of a line behind the last.
pub targets_pushed : (head rest between : List ℕ) (name : ℕ → List ℕ) (most first others : ℕ) (old mid new had one two more has : List ℕ)
    → between ≡ rest ++ head → 0 < most → old ≡ first ∷ mid → one ≡ had ++ head → two ≡ one ++ name first → PushesTargets (λ t. between ++ name t) (most - 1) mid new two more others → has ≡ more ++ rest
    → PushesTargets (λ t. head ++ name t ++ rest) most old new had has (others + 1)
targets_pushed head rest between name most first others old mid new had one two more has is some next put_head put_name pushed put_rest =
    let long : length old ≡ suc (length mid) = ap (λ (xs : List ℕ). length xs) next in
    let on : others + 1 ≡ suc others = omega arith in
    let ts : List ℕ = take others mid in
    let text_of : ℕ → List ℕ = λ t. head ++ name t ++ rest in
    let taken : take (others + 1) old ≡ first ∷ ts = ap (λ (n : ℕ). take n old) on ∙ ap (λ (xs : List ℕ). take (suc others) xs) next in
    let put : two ≡ (had ++ head) ++ name first = put_name ∙ ap (λ (x : List ℕ). x ++ name first) put_head in
    let rows : flat_map (λ t. between ++ name t) ts ++ rest ≡ rest ++ flat_map text_of ts = ap (λ (b : List ℕ). flat_map (λ t. b ++ name t) ts ++ rest) is ∙ joined head rest name ts in
    record {
      count_is = omega (arith, pushed.count_is, long, some);
      left = pushed.left ∙ ap (λ (xs : List ℕ). drop (suc others) xs) (sym next) ∙ ap (λ (n : ℕ). drop n old) (sym on);
      text = put_rest ∙ ap (λ (x : List ℕ). x ++ rest) pushed.text ∙ append_assoc two (flat_map (λ t. between ++ name t) ts) rest ∙ ap (λ (x : List ℕ). two ++ x) rows
          ∙ ap (λ (x : List ℕ). x ++ (rest ++ flat_map text_of ts)) put ∙ shape_first had head (name first) rest (flat_map text_of ts) ∙ ap (λ (xs : List ℕ). had ++ flat_map text_of xs) (sym taken);
    }
