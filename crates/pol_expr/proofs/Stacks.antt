-- A list of symbols, read with a stack of meanings, gives the meaning of the tree that it stands for.
use Rattle.std.proofs.Common.{◌≡◌, ℕ, ◌+◌, ◌≤◌, Some, List, [], ◌∷◌, ◌++◌, length, drop, map, refl, sym, ap, subst, ◌∙◌, append_assoc, arith}
use Rattle.std.specs.Prelude.{reverse, slice_get}
use Rattle.std.specs.List.{fold}
use Rattle.std.proofs.lemmas.List.{append-nil, reverse-append, drop_all}
use Rattle.pol_expr.specs.declared.symbol.Symbol.{Symbol}
use Rattle.pol_expr.specs.declared.symbol.Symbol.TheVariants as symbols
use Rattle.pol_expr.specs.Postfix.{values_after, IsPostfix}
use Rattle.pol_expr.specs.Trees.{Tree, Leaf, Not, Binary, postorder, operand_count, applied, trees_after}
use Rattle.pol_expr.specs.Infix.{Words, is_binary, infix_of, tree_text, symbols_text, leaf_operand, negated_operand, joined_operands}
use Rattle.pol_expr.proofs.Dropped.{dropped}

pub reverse_push : {A : Type 0} (xs : List A) (x : A) → reverse (xs ++ x ∷ []) ≡ x ∷ reverse xs
reverse_push xs x = reverse-append xs (x ∷ [])

-- ---- meanings in general: one for each tree, made from those of its parts

module _ {V O B : Type 0} (leaf : V → B) (negated : B → B) (joined : O → B → B → B) where
  -- the meanings after some symbols, the latest first
  abbrev pub after : List (Symbol V O) → List B → List B
  after ss xs = fold (λ (ys : List B) (s : Symbol V O). applied leaf negated joined s ys) xs ss

  pub after-append : (ss us : List (Symbol V O)) (xs : List B) → after (ss ++ us) xs ≡ after us (after ss xs)
  after-append [] us xs = refl
  after-append (s ∷ ss) us xs = after-append ss us (applied leaf negated joined s xs)

  -- what gives each tree its meaning
  pub record IsMeaning (f : Tree V O → B) : Type 0 where
    pub leaf_is : (v : V) → f (Leaf v) ≡ leaf v
    pub not_is : (t : Tree V O) → f (Not t) ≡ negated (f t)
    pub binary_is : (o : O) (l r : Tree V O) → f (Binary o l r) ≡ joined o (f l) (f r)

  pub after-postorder : (f : Tree V O → B) → IsMeaning f → (t : Tree V O) (xs : List B) → after (postorder t) xs ≡ f t ∷ xs
  unfolding postorder
  after-postorder f m (Leaf v) xs = ap (λ (x : B). x ∷ xs) (sym (m.leaf_is v))
  after-postorder f m (Not t) xs = after-append (postorder t) (symbols.Not ∷ []) xs ∙ ap (after (symbols.Not ∷ [])) (after-postorder f m t xs) ∙ ap (λ (x : B). x ∷ xs) (sym (m.not_is t))
  after-postorder f m (Binary o l r) xs =
      let operands = after-append (postorder l) (postorder r) xs ∙ ap (after (postorder r)) (after-postorder f m l xs) ∙ after-postorder f m r (f l ∷ xs) in
      after-append (postorder l ++ postorder r) (symbols.Binary o ∷ []) xs ∙ ap (after (symbols.Binary o ∷ [])) operands ∙ ap (λ (x : B). x ∷ xs) (sym (m.binary_is o l r))

  pub length-applied : (s : Symbol V O) (xs : List B) → operand_count s ≤ length xs → length (applied leaf negated joined s xs) ≡ values_after (length xs) (operand_count s)
  length-applied (symbols.Leaf v) xs le = omega arith
  length-applied symbols.Not [] le = absurd (omega arith)
  length-applied symbols.Not (x ∷ xs) le = omega arith
  length-applied (symbols.Binary o) [] le = absurd (omega arith)
  length-applied (symbols.Binary o) (x ∷ []) le = absurd (omega arith)
  length-applied (symbols.Binary o) (r ∷ l ∷ xs) le = omega arith

  -- A loop has read i symbols, and holds these meanings: those left lead to the same as all do.
  pub record Reading (limit : ℕ) (ss : List (Symbol V O)) (i : ℕ) (xs : List B) : Type 0 where
    pub rest : after (drop i ss) xs ≡ after ss []
    pub postfix : IsPostfix operand_count limit (length xs) (drop i ss)

  pub Reading-start : (limit : ℕ) (ss : List (Symbol V O)) → IsPostfix operand_count limit 0 ss → Reading limit ss 0 []
  Reading-start limit ss h = record { rest = refl; postfix = h }

  -- the next symbol has its operands, and its meaning fits
  pub Reading-fits : (limit : ℕ) (ss : List (Symbol V O)) (i : ℕ) (xs : List B) (s : Symbol V O) → slice_get ss i ≡ Some s → Reading limit ss i xs → (operand_count s ≤ length xs) × (values_after (length xs) (operand_count s) ≤ limit)
  Reading-fits limit ss i xs s e h =
      let p = subst (IsPostfix operand_count limit (length xs)) (dropped ss i s e) h.postfix in
      (p.0, p.1)

  pub Reading-next : (limit : ℕ) (ss : List (Symbol V O)) (i : ℕ) (xs ys : List B) (s : Symbol V O) → slice_get ss i ≡ Some s → ys ≡ applied leaf negated joined s xs → Reading limit ss i xs → Reading limit ss (i + 1) ys
  Reading-next limit ss i xs ys s e is h =
      let p = subst (IsPostfix operand_count limit (length xs)) (dropped ss i s e) h.postfix in
      let len : length ys ≡ values_after (length xs) (operand_count s) = ap length is ∙ length-applied s xs p.0 in
      record {
        rest = ap (after (drop (i + 1) ss)) is ∙ ap (λ (us : List (Symbol V O)). after us xs) (sym (dropped ss i s e)) ∙ h.rest;
        postfix = subst (λ (n : ℕ). IsPostfix operand_count limit n (drop (i + 1) ss)) (sym len) p.2;
      }

  -- no symbol is left
  pub Reading-one : (limit : ℕ) (ss : List (Symbol V O)) (i : ℕ) (xs : List B) → length ss ≤ i → Reading limit ss i xs → length xs ≡ 1
  Reading-one limit ss i xs le h = subst (IsPostfix operand_count limit (length xs)) (drop_all i ss le) h.postfix

  pub Reading-end : (limit : ℕ) (ss : List (Symbol V O)) (i : ℕ) (xs : List B) → length ss ≤ i → Reading limit ss i xs → (f : Tree V O → B) → IsMeaning f → (t : Tree V O) → postorder t ≡ ss → xs ≡ f t ∷ []
  Reading-end limit ss i xs le h f m t e =
      ap (λ (us : List (Symbol V O)). after us xs) (sym (drop_all i ss le)) ∙ h.rest ∙ ap (λ (us : List (Symbol V O)). after us []) (sym e) ∙ after-postorder f m t []

-- the one meaning that is left
pub one_left : {A : Type 0} (xs rest : List A) (x y : A) → xs ≡ rest ++ x ∷ [] → reverse xs ≡ y ∷ [] → x ≡ y
one_left xs rest x y e end = let top = sym (reverse_push rest x) ∙ ap reverse (sym e) ∙ end in cc

pub IsPostfix-map : {A B : Type 0} (g : A → B) (f : A → ℕ) (h : B → ℕ) (limit values : ℕ) (xs : List A) → ((x : A) → f x ≡ h (g x)) → IsPostfix f limit values xs → IsPostfix h limit values (map g xs)
IsPostfix-map g f h limit values [] same p = p
IsPostfix-map g f h limit values (x ∷ xs) same p =
    let e = same x in
    (rw (← e) p.0, rw (← e) p.1, rw (← e) (IsPostfix-map g f h limit (values_after values (f x)) xs same p.2))

-- ---- the tree that symbols stand for

module _ {V O : Type 0} where
  own : IsMeaning {V = V} {O = O} Leaf Not Binary (λ t. t)
  own = record { leaf_is = λ v. refl; not_is = λ t. refl; binary_is = λ o l r. refl }

  -- the symbols of a tree leave it alone
  one_tree_left : (t : Tree V O) → trees_after (postorder t) [] ≡ t ∷ []
  one_tree_left t = after-postorder Leaf Not Binary (λ t. t) own t []

  pub one_tree : (t u : Tree V O) → postorder t ≡ postorder u → t ≡ u
  one_tree t u e = let both = sym (one_tree_left t) ∙ ap (λ (ss : List (Symbol V O)). trees_after ss []) e ∙ one_tree_left u in cc

  -- the symbols of trees, the latest of them last
  abbrev spelled : List (Tree V O) → List (Symbol V O)
  spelled [] = []
  spelled (t ∷ ts) = spelled ts ++ postorder t

  spelled-applied : (s : Symbol V O) (ts : List (Tree V O)) → operand_count s ≤ length ts → spelled (applied Leaf Not Binary s ts) ≡ spelled ts ++ s ∷ []
  unfolding postorder
  spelled-applied (symbols.Leaf v) ts le = refl
  spelled-applied symbols.Not [] le = absurd (omega arith)
  spelled-applied symbols.Not (t ∷ ts) le = sym (append_assoc (spelled ts) (postorder t) (symbols.Not ∷ []))
  spelled-applied (symbols.Binary o) [] le = absurd (omega arith)
  spelled-applied (symbols.Binary o) (t ∷ []) le = absurd (omega arith)
  spelled-applied (symbols.Binary o) (r ∷ l ∷ ts) le = simp append_assoc

  one_spelled : (ts : List (Tree V O)) → length ts ≡ 1 → (t : Tree V O) × (postorder t ≡ spelled ts ++ [])
  one_spelled [] e = absurd (omega arith)
  one_spelled (t ∷ []) e = (t, sym (append-nil (postorder t)))
  one_spelled (t ∷ u ∷ ts) e = absurd (omega arith)

  tree_after : (limit : ℕ) (ss : List (Symbol V O)) (ts : List (Tree V O)) → IsPostfix operand_count limit (length ts) ss → (t : Tree V O) × (postorder t ≡ spelled ts ++ ss)
  tree_after limit [] ts h = one_spelled ts h
  tree_after limit (s ∷ ss) ts h =
      let len = length-applied Leaf Not Binary s ts h.0 in
      let rest = tree_after limit ss (applied Leaf Not Binary s ts) (subst (λ (n : ℕ). IsPostfix operand_count limit n ss) (sym len) h.2) in
      (rest.0, rest.1 ∙ ap (λ (us : List (Symbol V O)). us ++ ss) (spelled-applied s ts h.0) ∙ append_assoc (spelled ts) (s ∷ []) ss)

  pub some_tree : (limit : ℕ) (ss : List (Symbol V O)) → IsPostfix operand_count limit 0 ss → (t : Tree V O) × (postorder t ≡ ss)
  some_tree limit ss h = tree_after limit ss [] h

  -- the text of the symbols of a tree is that of the tree
  pub tree_of_symbols : (words : Words V O) (t : Tree V O) → symbols_text words (postorder t) ≡ infix_of words t
  tree_of_symbols words t = ap (tree_text words) (one_tree_left t)

-- ---- texts

pub text_meaning : {V O : Type 0} (words : Words V O) → IsMeaning (leaf_operand words) (negated_operand words) (joined_operands words) (λ t. record { text = infix_of words t; is_binary = is_binary t })
unfolding infix_of
text_meaning words = record { leaf_is = λ v. refl; not_is = λ t. refl; binary_is = λ o l r. refl }
