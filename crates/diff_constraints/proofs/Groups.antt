-- Constraints of one key, the first of them in front.
use Rattle.std.proofs.Common.{◌≡◌, ℕ, suc, ◌+◌, ◌-◌, ◌<◌, Bool, true, false, cond, List, [], ◌∷◌, ◌++◌, length, take, drop, get_or, map, refl, sym, ap, ◌∙◌, append_assoc, arith}
use Rattle.std.specs.declared.cmp.Ordering.{Ordering}
use Rattle.std.specs.declared.cmp.Ordering.TheVariants.{Less, Equal, Greater}
use Rattle.std.specs.Ordering.{is_eq}
use Rattle.std.specs.List.{flat_map, prefix_len}
use Rattle.std.proofs.lemmas.List.{drop-drop, drop_more, length-drop, map-append, take_all}
use Rattle.diff_constraints.specs.declared.keyword.ConstraintKeyword.{ConstraintKeyword}
use Rattle.diff_constraints.specs.StatedConstraints.{constraint_key_cmp, key_total}
use Rattle.diff_constraints.specs.ConstraintDifferences.{Alone, Sole, change_line, changes_of_group, grouped, same_key, sign_text, with_sole}

-- ---- those of one key

equal_if : (o : Ordering) → is_eq o ≡ true → o ≡ Equal
equal_if Less e = absurd cc
equal_if Equal e = refl
equal_if Greater e = absurd cc

-- where one has the key of another, both have that of a third or neither
alike : (a b c : Sole) → same_key a b ≡ true → same_key a c ≡ same_key b c
alike a b c e = ap is_eq (key_total.congr a.stated b.stated c.stated (equal_if (constraint_key_cmp a.stated b.stated) e))

as_many : (a b : Sole) (soles : List Sole) → same_key a b ≡ true → prefix_len (same_key a) soles ≡ prefix_len (same_key b) soles
as_many a b [] e = refl
as_many a b (c ∷ soles) e = rw (alike a b c e, as_many a b soles e) refl

-- the first group has those behind the first that have its key
first_group : (a : Sole) (soles : List Sole) → grouped (a ∷ soles) ≡ (a ∷ take (prefix_len (same_key a) soles) soles) ∷ grouped (drop (prefix_len (same_key a) soles) soles)
first_group a [] = refl
first_group a (b ∷ soles) = ap (with_sole a) (first_group b soles) ∙ by (same_key a b) refl (first_group b soles)
  where
    by : (t : Bool) → same_key a b ≡ t → grouped (b ∷ soles) ≡ (b ∷ take (prefix_len (same_key b) soles) soles) ∷ grouped (drop (prefix_len (same_key b) soles) soles)
        → cond t ((a ∷ b ∷ take (prefix_len (same_key b) soles) soles) ∷ grouped (drop (prefix_len (same_key b) soles) soles)) ((a ∷ []) ∷ (b ∷ take (prefix_len (same_key b) soles) soles) ∷ grouped (drop (prefix_len (same_key b) soles) soles))
        ≡ (a ∷ take (cond t (1 + prefix_len (same_key a) soles) 0) (b ∷ soles)) ∷ grouped (drop (cond t (1 + prefix_len (same_key a) soles) 0) (b ∷ soles))
    by true is rest =
        let e : 1 + prefix_len (same_key a) soles ≡ suc (prefix_len (same_key b) soles) = omega (arith, as_many a b soles is) in
        rw e refl
    by false is rest = ap (λ groups. (a ∷ []) ∷ groups) (sym rest)

-- ---- group after group

-- the lines of a group, and of those behind it
group_then : (keyword : ConstraintKeyword) (lines : List (List ℕ)) (a : Sole) (soles : List Sole)
    → (lines ++ map (change_line keyword) (changes_of_group (a ∷ take (prefix_len (same_key a) soles) soles))) ++ map (change_line keyword) (flat_map changes_of_group (grouped (drop (prefix_len (same_key a) soles) soles)))
    ≡ lines ++ map (change_line keyword) (flat_map changes_of_group (grouped (a ∷ soles)))
group_then keyword lines a soles =
    let group = changes_of_group (a ∷ take (prefix_len (same_key a) soles) soles) in
    let others = flat_map changes_of_group (grouped (drop (prefix_len (same_key a) soles) soles)) in
    append_assoc lines (map (change_line keyword) group) (map (change_line keyword) others)
    ∙ ap (λ (ls : List (List ℕ)). lines ++ ls) (sym (map-append (change_line keyword) group others))
    ∙ ap (λ groups. lines ++ map (change_line keyword) (flat_map changes_of_group groups)) (sym (first_group a soles))

pub to_the_end : (i : ℕ) (soles : List Sole) → take (length soles - i) (drop i soles) ≡ drop i soles
to_the_end i soles = take_all (length soles - i) (drop i soles) (omega (arith, length-drop i soles))

-- the lines of the group at a place, and of those behind it
pub group_next : (keyword : ConstraintKeyword) (lines new : List (List ℕ)) (soles : List Sole) (start end : ℕ) (a : Sole) (group : List Sole)
    → start < length soles → a ≡ get_or soles start a → end ≡ start + 1 + prefix_len (same_key a) (drop (start + 1) soles) → group ≡ take (end - start) (drop start soles)
    → new ≡ lines ++ map (change_line keyword) (changes_of_group group)
    → new ++ map (change_line keyword) (flat_map changes_of_group (grouped (drop end soles))) ≡ lines ++ map (change_line keyword) (flat_map changes_of_group (grouped (drop start soles)))
group_next keyword lines new soles start end a group lt at is part added =
    let n = prefix_len (same_key a) (drop (start + 1) soles) in
    let here : drop start soles ≡ a ∷ drop (start + 1) soles = drop_more soles start a lt ∙ ap (λ (x : Sole). x ∷ drop (start + 1) soles) (sym at) in
    let far : end - start ≡ suc n = omega (arith, is) in
    let rest : drop end soles ≡ drop n (drop (start + 1) soles) = rw is (sym (drop-drop n (start + 1) soles)) in
    let whole : group ≡ a ∷ take n (drop (start + 1) soles) = part ∙ rw (far, here) refl in
    rw (rest, here, added, whole) (group_then keyword lines a (drop (start + 1) soles))

-- ---- a group that is not of two

each_alone : (keyword : ConstraintKeyword) (group : List Sole) → map (change_line keyword) (map Alone group) ≡ map (λ sole. sign_text sole.is_new ++ sole.stated.line) group
each_alone keyword [] = refl
each_alone keyword (a ∷ group) = ap (λ (lines : List (List ℕ)). (sign_text a.is_new ++ a.stated.line) ∷ lines) (each_alone keyword group)

pub not_two : (keyword : ConstraintKeyword) (group : List Sole) → (length group ≡ 2 → ⊥) → map (change_line keyword) (changes_of_group group) ≡ map (λ sole. sign_text sole.is_new ++ sole.stated.line) group
not_two keyword [] e = refl
not_two keyword (a ∷ []) e = refl
not_two keyword (a ∷ b ∷ []) e = absurd (e refl)
not_two keyword (a ∷ b ∷ c ∷ group) e = each_alone keyword (a ∷ b ∷ c ∷ group)
