-- Words that are cut into groups one after the other.
use Rattle.std.proofs.Common.{◌≡◌, ◌≤◌, ◌+◌, ◌++◌, ◌∷◌, [], ℕ, zero, suc, List, length, drop, map, Option, Some, None, option_map, sym, ◌∙◌, ap, refl, append_assoc, length-drop, arith}
use Rattle.std.specs.Option.{option_to_list}
use Rattle.std.proofs.lemmas.List.{append-nil, map-append}
use Rattle.se_words.specs.Word.{text_of}
use Rattle.se_words.specs.Options.{Row, Head, cut, group_view, head_of, head_view}
use Rattle.se_words.specs.declared.cut.WordMode.{WordMode}
use Rattle.se_words.specs.declared.cut.Head.{Head as HeadCode}
use Rattle.se_words.specs.declared.groups.Group.{Group as GroupCode}
use Rattle.se_words.specs.declared.words.Word.{Word}

pub map_drop : {A B : Type 0} (f : A → B) (i : ℕ) (xs : List A) → map f (drop i xs) ≡ drop i (map f xs)
map_drop f zero xs = refl
map_drop f (suc i) [] = refl
map_drop f (suc i) (x ∷ xs) = map_drop f i xs

pub map_length : {A B : Type 0} (f : A → B) (xs : List A) → length (map f xs) ≡ length xs
map_length f [] = refl
map_length f (x ∷ xs) = ap suc (map_length f xs)

-- Words that belong to the group before them are passed.
cut-taken : (rows : List Row) (mode : WordMode) (taken n : ℕ) (words : List (Option (List ℕ))) → taken ≤ length words
    → cut rows mode taken n words ≡ cut rows mode 0 (n + taken) (drop taken words)
unfolding cut
cut-taken rows mode zero n words le = let e : n + 0 ≡ n = omega arith in rw e refl
cut-taken rows mode (suc taken) n [] le = absurd (omega (arith, le))
cut-taken rows mode (suc taken) n (word ∷ words) le =
    let e : n + 1 + taken ≡ n + suc taken = omega arith in
    let fits : taken ≤ length words = omega (arith, le) in
    rw (← e) (cut-taken rows mode taken (n + 1) words fits)

cut-first : (rows : List Row) (mode : WordMode) (n : ℕ) (word : Option (List ℕ)) (words : List (Option (List ℕ))) (first : Head)
    → head_of rows mode n word words ≡ first → cut rows mode 0 n (word ∷ words) ≡ option_to_list first.group ++ cut rows first.mode first.further (n + 1) words
unfolding cut
cut-first rows mode n word words first is = rw (is, cut) refl

cut-end : (rows : List Row) (mode : WordMode) (n : ℕ) → cut rows mode 0 n [] ≡ []
unfolding cut
cut-end rows mode n = refl

-- With the groups so far, the words that are left are cut as all words are.
pub record Cutting (rows : List Row) (start : WordMode) (words : List (Option (List ℕ))) (mode : WordMode) (number : ℕ) (rest : List Word) (groups : List GroupCode) : Type 0 where
  pub counted : number + length rest ≡ length words + 2
  pub going : map group_view groups ++ cut rows mode 0 number (map text_of rest) ≡ cut rows start 0 2 words

pub cutting-start : (rows : List Row) (start : WordMode) (words : List Word) (groups : List GroupCode) → groups ≡ [] → Cutting rows start (map text_of words) start 2 words groups
cutting-start rows start words groups none = record { counted = omega (arith, map_length text_of words); going = rw none refl }

views-more : (group : Option GroupCode) (groups : List GroupCode) → map group_view (groups ++ option_to_list group) ≡ map group_view groups ++ option_to_list (option_map group_view group)
views-more None groups = rw (append-nil groups) (sym (append-nil (map group_view groups)))
views-more (Some group) groups = map-append group_view groups (group ∷ [])

pub cutting-next : (rows : List Row) (start mode : WordMode) (words : List (Option (List ℕ))) (number : ℕ) (rest after : List Word) (word : Word) (groups more : List GroupCode) (head : HeadCode)
    → Cutting rows start words mode number rest groups → rest ≡ word ∷ after
    → head_view head ≡ head_of rows mode number (text_of word) (map text_of after) → head.further ≤ length after → more ≡ groups ++ option_to_list head.group
    → Cutting rows start words head.mode (number + (1 + head.further)) (drop head.further after) more
cutting-next rows start mode words number rest after word groups more head cutting is first within added =
    let texts = map text_of after in
    let going : map group_view groups ++ cut rows mode 0 number (text_of word ∷ texts) ≡ cut rows start 0 2 words = rw is at cutting.going in
    let passed : cut rows head.mode head.further (number + 1) texts ≡ cut rows head.mode 0 (number + 1 + head.further) (drop head.further texts) =
    cut-taken rows head.mode head.further (number + 1) texts (omega (arith, within, map_length text_of after)) in
    let e : number + 1 + head.further ≡ number + (1 + head.further) = omega arith in
    record {
      counted = omega (arith, cutting.counted, within, length-drop head.further after, ap length is);
      going = rw (
        added,
        views-more head.group groups,
        map_drop text_of head.further after,
        ← e,
        ← passed,
        append_assoc (map group_view groups) (option_to_list (option_map group_view head.group)) (cut rows head.mode head.further (number + 1) texts),
        ← cut-first rows mode number (text_of word) texts (head_view head) (sym first),
      ) going;
    }

pub cutting-end : (rows : List Row) (start mode : WordMode) (words : List (Option (List ℕ))) (number : ℕ) (rest : List Word) (groups : List GroupCode)
    → Cutting rows start words mode number rest groups → rest ≡ [] → map group_view groups ≡ cut rows start 0 2 words
cutting-end rows start mode words number rest groups cutting is =
    let going : map group_view groups ++ cut rows mode 0 number [] ≡ cut rows start 0 2 words = rw is at cutting.going in
    sym (append-nil (map group_view groups)) ∙ rw (cut-end rows mode number) at going

pub empty : {A : Type 0} (xs : List A) → length xs ≡ 0 → xs ≡ []
empty [] e = refl
empty (x ∷ xs) e = absurd (omega (arith, e))
