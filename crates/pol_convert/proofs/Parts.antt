-- Entries in rows by what the transitions of a group have in common, and the rows of entries that are lent.
use Rattle.std.proofs.Common.{◌≡◌, ℕ, zero, suc, ◌<◌, Bool, true, false, ◌&&◌, ◌==◌, cond, List, [], ◌∷◌, ◌++◌, length, get_or, set, refl, ap, arith, Decides}
use Rattle.std.specs.Prelude.{map}
use Rattle.std.specs.List.{list_any, position_or_len}
use Rattle.std.specs.Str.{bytes_eq}
use Rattle.std.proofs.lemmas.Bool.Decides.{Decides-eqb}
use Rattle.std.proofs.lemmas.List.{map_push}
use Rattle.std.proofs.lemmas.Slice.Eq.{bytes_eq-Decides}
use Rattle.indexmap.specs.IndexSet.{insert_key}
use Rattle.pol_convert.specs.Grouped.{CommonPart, same_part}
use Rattle.pol_convert.specs.declared.rows.CommonKey.{CommonKey}
use Rattle.pol_convert.specs.Inner.Parts.{shown}
use Rattle.pol_convert.specs.Inner.GroupRows.{with_row, AreInRows}
use Rattle.pol_convert.proofs.GroupRows.{in_more_rows}

-- ---- keys that are looked up by what is shown of them

module _ {A B : Type 0} (seen : A → B) (like : A → A → Bool) (same : B → B → Bool) (agrees : (a b : A) → like a b ≡ same (seen a) (seen b)) where
  any_shown : (k : A) (ks : List A) → list_any (like k) ks ≡ list_any (same (seen k)) (map seen ks)
  any_shown k [] = refl
  any_shown k (x ∷ xs) = rw (agrees k x, any_shown k xs) refl

  pub place_shown : (k : A) (ks : List A) → position_or_len (like k) ks ≡ position_or_len (same (seen k)) (map seen ks)
  place_shown k [] = refl
  place_shown k (x ∷ xs) = rw (agrees k x, place_shown k xs) refl

  pushed : (k : A) (ks : List A) (there : Bool) → map seen (cond there ks (ks ++ k ∷ [])) ≡ cond there (map seen ks) (map seen ks ++ seen k ∷ [])
  pushed k ks true = refl
  pushed k ks false = map_push seen ks k

  pub keys_shown : (k : A) (ks : List A) → map seen (insert_key like ks k) ≡ insert_key same (map seen ks) (seen k)
  keys_shown k ks = rw (← any_shown k ks) (pushed k ks (list_any (like k) ks))

  module _ (decides : (a b : B) → Decides (same a b) (a ≡ b)) {X : Type 0} (key_of : X → B) where
    -- one more element goes to the row of what is shown of its key
    pub more_in_rows : (keys new_keys : List A) (rows new_rows : List (List X)) (xs : List X) (x : X) (key : A) (place : ℕ) → seen key ≡ key_of x → AreInRows same key_of (map seen keys) rows xs
        → new_keys ≡ insert_key like keys key → place ≡ position_or_len (like key) keys → new_rows ≡ with_row place rows x → AreInRows same key_of (map seen new_keys) new_rows (xs ++ x ∷ [])
    more_in_rows keys new_keys rows new_rows xs x key place is h is_keys is_place is_rows =
        rw (is_keys, keys_shown key keys, is_rows, is_place, place_shown key keys, is) (in_more_rows same decides key_of (map seen keys) rows xs x h)

-- ---- the test of parts

both : (a b : Bool) → (a && b) ≡ true → (a ≡ true) × (b ≡ true)
both true true h = (refl, refl)
both true false h = absurd (cc h)
both false b h = absurd (cc h)

pub part_decides : (a b : CommonPart) → Decides (same_part a b) (a ≡ b)
part_decides a b = (
  (λ h. let p = both (bytes_eq a.name b.name && (a.target == b.target)) (a.class == b.class) h in
      let q = both (bytes_eq a.name b.name) (a.target == b.target) p.0 in
      let n : a.name ≡ b.name = (bytes_eq-Decides a.name b.name).0 q.0 in
      let t : a.target ≡ b.target = (Decides-eqb a.target b.target).0 q.1 in
      let c : a.class ≡ b.class = (Decides-eqb a.class b.class).0 p.1 in
      λ i. record { name = n i; target = t i; class = c i }),
  (λ e. rw ((bytes_eq-Decides a.name b.name).1 (ap (λ (p : CommonPart). p.name) e), (Decides-eqb a.target b.target).1 (ap (λ (p : CommonPart). p.target) e), (Decides-eqb a.class b.class).1 (ap (λ (p : CommonPart). p.class) e)) refl),
)

and_assoc : (p q r : Bool) → (p && (q && r)) ≡ ((p && q) && r)
and_assoc true q r = refl
and_assoc false q r = refl

-- two keys are compared by what is shown of them
pub key_agrees : (a b : CommonKey) → (bytes_eq a.name.now b.name.now && ((a.target == b.target) && (a.class == b.class))) ≡ same_part (shown a) (shown b)
key_agrees a b = and_assoc (bytes_eq a.name.now b.name.now) (a.target == b.target) (a.class == b.class)

-- ---- rows that are seen through what they hold

module _ {X Y : Type 0} (seen : X → List Y) where
  -- one more in a row
  pub row_gains_one : (rows : List X) (place : ℕ) (old row : X) (y : Y) → place < length rows → seen row ≡ seen (get_or rows place old) ++ y ∷ [] → map seen (set rows place row) ≡ with_row place (map seen rows) y
  row_gains_one [] place old row y lt e = absurd (omega (arith, lt))
  row_gains_one (r ∷ rs) zero old row y lt e = ap (λ (ys : List Y). ys ∷ map seen rs) e
  row_gains_one (r ∷ rs) (suc place) old row y lt e = ap (λ (rows : List (List Y)). seen r ∷ rows) (row_gains_one rs place old row y (omega (arith, lt)) e)

-- one in a new row at the end
pub new_row : {Y : Type 0} (rows : List (List Y)) (y : Y) → with_row (length rows) rows y ≡ rows ++ (y ∷ []) ∷ []
new_row [] y = refl
new_row {Y} (r ∷ rs) y = ap (λ (rows : List (List Y)). r ∷ rows) (new_row rs y)

pub map_twice : {X Y Z : Type 0} (f : Y → Z) (g : X → Y) (xs : List X) → map f (map g xs) ≡ map (λ x. f (g x)) xs
map_twice f g [] = refl
map_twice f g (x ∷ xs) = ap (λ zs. f (g x) ∷ zs) (map_twice f g xs)
