-- The members of products, by their index.
use Rattle.std.proofs.Common.{◌≡◌, ℕ, zero, suc, ◌+◌, ◌-◌, ◌*◌, ◌/◌, ◌%◌, ◌^◌, ◌<◌, ◌≤◌, min, List, [], ◌∷◌, ◌++◌, map, length, length-drop, take, drop, get_or, refl, sym, ap, subst, ◌∙◌, arith, Option, Some, None, slice_get, inl, inr, mod-lt, div-add-mod'}
use Rattle.std.specs.List.{flat_map}
use Rattle.std.specs.Option.{option_map}
use Rattle.std.proofs.lemmas.List.{length-append, length-map, length-take-le, take_all, take_more, get_or-map}
use Rattle.std.proofs.lemmas.Grind.{flat_map-append}
use Rattle.std.proofs.lemmas.List.Concat.{get_or-flat_map}
use Rattle.std.proofs.lemmas.List.Folds.{length-flat_map-take}
use Rattle.std.proofs.lemmas.Option.{slice_get_within, get_or_from_slice_get, slice_get-get_or, slice_get-map}
use Rattle.std.proofs.lemmas.Nat.{div_below}
use Rattle.pol_bitmap.specs.declared.Node.{Node}
use Rattle.set_products.specs.declared.entry.Entry.{Entry}
use Rattle.set_products.specs.declared.entry.Place.{Place}
use Rattle.set_products.specs.declared.entry.Single.{Single}
use Rattle.set_products.specs.Members.{Product, product_of, products_of, product_at, members_of, members}
use Rattle.set_products.specs.declared.row.Row.{Row}
use Rattle.set_products.specs.Standing.{members_before, IsAt, StandsAt, IsRowAt}

-- ---- pieces joined end to end

module _ {X Y : Type 0} (f : X → List Y) where
  -- one more piece
  length_more : (xs : List X) (i : ℕ) (d : X) → i < length xs → length (flat_map f (take (i + 1) xs)) ≡ length (flat_map f (take i xs)) + length (f (get_or xs i d))
  length_more xs i d lt =
      let last : flat_map f (get_or xs i d ∷ []) ≡ f (get_or xs i d) ++ [] = refl in
      let long = length-append (flat_map f (take i xs)) (flat_map f (get_or xs i d ∷ [])) in
      let one = length-append (f (get_or xs i d)) [] in
      ap (λ (l : List X). length (flat_map f l)) (take_more xs i d lt) ∙ ap length (flat_map-append f (take i xs) (get_or xs i d ∷ [])) ∙ omega (arith, long, one)

  -- an element of a piece stands after the pieces before it
  get_flat : (xs : List X) (i j : ℕ) (d : X) (y : Y) → i < length xs → slice_get (f (get_or xs i d)) j ≡ Some y → slice_get (flat_map f xs) (length (flat_map f (take i xs)) + j) ≡ Some y
  get_flat xs i j d y lt is =
      let inside = slice_get_within (f (get_or xs i d)) j y is in
      let room = length-flat_map-take f xs i d lt in
      let at = get_or-flat_map f xs i j d y lt inside ∙ get_or_from_slice_get (f (get_or xs i d)) j y y is in
      slice_get-get_or (flat_map f xs) (length (flat_map f (take i xs)) + j) y (omega (arith, inside, room)) ∙ ap (λ (z : Y). Some z) at

-- ---- one product

-- the members of one source
abbrev row : Product → ℕ → List Single
row p s = map (λ t. record { rule = p.rule; source = s; target = t }) p.targets

length_rows : (p : Product) (xs : List ℕ) → length (flat_map (row p) xs) ≡ length xs * length p.targets
length_rows p [] = omega arith
length_rows p (x ∷ xs) =
    let here = length-append (row p x) (flat_map (row p) xs) in
    let one : length (row p x) ≡ length p.targets = length-map p.targets _ in
    let rest = length_rows p xs in
    omega (arith, here, one, rest)

pub length_members_of : (p : Product) → length (members_of p) ≡ length p.sources * length p.targets
length_members_of p = length_rows p p.sources

get_row : (p : Product) (s j t : ℕ) → slice_get p.targets j ≡ Some t → slice_get (row p s) j ≡ Some (record { rule = p.rule; source = s; target = t })
get_row p s j t is = slice_get-map (λ t. record { rule = p.rule; source = s; target = t }) p.targets j ∙ ap (option_map (λ t. record { rule = p.rule; source = s; target = t })) is

get_member_of : (p : Product) (i j s t : ℕ) → slice_get p.sources i ≡ Some s → slice_get p.targets j ≡ Some t
    → slice_get (members_of p) (i * length p.targets + j) ≡ Some (record { rule = p.rule; source = s; target = t })
get_member_of p i j s t source target =
    let lt = slice_get_within p.sources i s source in
    let here : get_or p.sources i 0 ≡ s = get_or_from_slice_get p.sources i s 0 source in
    let before : length (flat_map (row p) (take i p.sources)) ≡ i * length p.targets = length_rows p (take i p.sources) ∙ ap (λ (n : ℕ). n * length p.targets) (length-take-le i p.sources (omega (arith, lt))) in
    let piece = get_row p (get_or p.sources i 0) j t target in
    subst (λ (n : ℕ). slice_get (members_of p) (n + j) ≡ Some (record { rule = p.rule; source = s; target = t })) before
    (subst (λ (x : ℕ). slice_get (members_of p) (length (flat_map (row p) (take i p.sources)) + j) ≡ Some (record { rule = p.rule; source = x; target = t })) here
    (get_flat (row p) p.sources i j 0 (record { rule = p.rule; source = get_or p.sources i 0; target = t }) lt piece))

-- ---- all products

-- the product of no rule, with no member
abbrev none : Product
none = record { rule = 0; sources = []; targets = [] }

-- the members of one more product
pub members_more : (ps : List Product) (i : ℕ) → i < length ps → members_before ps (i + 1) ≡ members_before ps i + length (product_at ps i).sources * length (product_at ps i).targets
unfolding members
members_more ps i lt = length_more members_of ps i none lt ∙ ap (λ (n : ℕ). members_before ps i + n) (length_members_of (product_at ps i))

pub members_none : (ps : List Product) → members_before ps 0 ≡ 0
unfolding members
members_none ps = refl

pub members_all : (ps : List Product) (n : ℕ) → length ps ≤ n → members_before ps n ≡ length (members ps)
members_all ps n le = ap (λ (l : List Product). length (members l)) (take_all n ps le)

pub members_up_to : (ps : List Product) (i : ℕ) → i < length ps → members_before ps i + length (product_at ps i).sources * length (product_at ps i).targets ≤ length (members ps)
unfolding members
members_up_to ps i lt =
    let room = length-flat_map-take members_of ps i none lt in
    let size = length_members_of (product_at ps i) in
    omega (arith, room, size)

-- A place's member is the one that has its number.
pub member_is : (ps : List Product) (place : Place) (k : ℕ) → IsAt ps place k → slice_get (members ps) k ≡ Some (record { rule = (product_at ps place.entry).rule; source = place.source; target = place.target })
unfolding members
member_is ps place k at =
    let p : Product = product_at ps place.entry in
    subst (λ (n : ℕ). slice_get (members ps) n ≡ Some (record { rule = p.rule; source = place.source; target = place.target })) (sym at.number)
    (get_flat members_of ps place.entry (at.i * length p.targets + at.j) none _ at.within (get_member_of p at.i at.j place.source place.target at.source at.target))

-- ---- entries

pub length_products : (entries : List Entry) (sets : List (List Node)) → length (products_of entries sets) ≡ length entries
length_products entries sets = length-map entries _

-- An entry's members are as many as its sources times its targets.
pub size_is : (p : Product) (m n : ℕ) → m ≡ length p.sources → n ≡ length p.targets → m * n ≡ length (members_of p)
size_is p m n is-m is-n =
    let times : ℕ → ℕ → ℕ = λ x y. x * y in
    (λ i. times (is-m i) (is-n i)) ∙ sym (length_members_of p)

-- ---- places

none_past : {X : Type 0} (xs : List X) (n : ℕ) → slice_get xs n ≡ None → length xs ≤ n
none_past [] n e = omega arith
none_past (x ∷ xs) zero e = absurd cc
none_past (x ∷ xs) (suc n) e = let rest = none_past xs n e in omega arith

-- A number below a product is a row and a column.
pub divided : (n w s : ℕ) → n < s * w → (0 < w) × (n / w < s) × (n % w < w) × (n ≡ n / w * w + n % w)
divided n zero s lt = absurd (omega (arith, lt))
divided n (suc w) s lt = (omega arith, div_below n (suc w) s (omega arith) lt, mod-lt n (omega arith), sym (div-add-mod' n (suc w)))

-- where the source and the target of an entry's member stand
pub room : (p : Product) (n w : ℕ) (sources targets : List ℕ) → n < length (members_of p) → sources ≡ p.sources → targets ≡ p.targets → w ≡ length p.targets
    → (0 < w) × (n / w < length sources) × (n % w < length targets) × (n ≡ n / w * w + n % w)
room p n w sources targets lt is-s is-t is-w =
    let size = length_members_of p in
    let m : ℕ → ℕ → ℕ = λ x y. x * y in
    let same : length sources * w ≡ length p.sources * length p.targets = λ i. m (length (is-s i)) (is-w i) in
    let d = divided n w (length sources) (omega (arith, lt, size, same)) in
    (d.0, d.1, omega (arith, d.2, is-w, ap length is-t), d.3)

pub placed_in : (ps : List Product) (e n w s t : ℕ) (sources targets : List ℕ) → e < length ps → n < length (members_of (product_at ps e)) → sources ≡ (product_at ps e).sources → targets ≡ (product_at ps e).targets
    → w ≡ length (product_at ps e).targets → slice_get sources (n / w) ≡ Some s → slice_get targets (n % w) ≡ Some t → IsAt ps (record { entry = e; source = s; target = t }) (members_before ps e + n)
placed_in ps e n w s t sources targets lt more is-s is-t is-w source target =
    let d = room (product_at ps e) n w sources targets more is-s is-t is-w in
    record {
      i = n / w;
      j = n % w;
      within = lt;
      source = sym (ap (λ (xs : List ℕ). slice_get xs (n / w)) is-s) ∙ source;
      target = sym (ap (λ (xs : List ℕ). slice_get xs (n % w)) is-t) ∙ target;
      number = ap (λ (m : ℕ). members_before ps e + m) (d.3 ∙ ap (λ (v : ℕ). n / w * v + n % w) is-w);
    }

-- the next target of the same source
pub step_target : (ps : List Product) (at : Place) (k target : ℕ) (h : IsAt ps at k) → slice_get (product_at ps at.entry).targets (h.j + 1) ≡ Some target → IsAt ps (record { entry = at.entry; source = at.source; target = target }) (k + 1)
step_target ps at k target h is = record {
  i = h.i;
  j = h.j + 1;
  within = h.within;
  source = h.source;
  target = is;
  number = omega (arith, h.number);
}

-- the last target of a source
pub last_target : (ps : List Product) (at : Place) (k : ℕ) (h : IsAt ps at k) → slice_get (product_at ps at.entry).targets (h.j + 1) ≡ None → k + 1 ≡ members_before ps at.entry + (h.i + 1) * length (product_at ps at.entry).targets
last_target ps at k h is =
    let past = none_past (product_at ps at.entry).targets (h.j + 1) is in
    let within = slice_get_within (product_at ps at.entry).targets h.j at.target h.target in
    let all : h.j + 1 ≡ length (product_at ps at.entry).targets = omega (arith, past, within) in
    let rows : (h.i + 1) * length (product_at ps at.entry).targets ≡ h.i * length (product_at ps at.entry).targets + length (product_at ps at.entry).targets = omega arith in
    omega (arith, h.number, all, rows)

-- the first target of the next source
pub step_source : (ps : List Product) (e i s t : ℕ) → e < length ps → slice_get (product_at ps e).sources (i + 1) ≡ Some s → slice_get (product_at ps e).targets 0 ≡ Some t
    → IsAt ps (record { entry = e; source = s; target = t }) (members_before ps e + (i + 1) * length (product_at ps e).targets)
step_source ps e i s t lt source target = record {
  i = i + 1;
  j = 0;
  within = lt;
  source = source;
  target = target;
  number = omega arith;
}

-- the last source of an entry
pub last_source : (ps : List Product) (e i s : ℕ) → e < length ps → slice_get (product_at ps e).sources i ≡ Some s → slice_get (product_at ps e).sources (i + 1) ≡ None
    → min (members_before ps (e + 1) + 0) (length (members ps)) ≡ members_before ps e + (i + 1) * length (product_at ps e).targets
last_source ps e i s lt is none-left =
    let past = none_past (product_at ps e).sources (i + 1) none-left in
    let within = slice_get_within (product_at ps e).sources i s is in
    let all : length (product_at ps e).sources ≡ i + 1 = omega (arith, past, within) in
    let more = members_more ps e lt ∙ ap (λ (n : ℕ). members_before ps e + n * length (product_at ps e).targets) all in
    let fits = subst (λ (n : ℕ). members_before ps e + n * length (product_at ps e).targets ≤ length (members ps)) all (members_up_to ps e lt) in
    omega (arith, more, fits)

-- ---- passing entries

-- What the counts of n members from an entry on, and of those that are left at a later one, have in common.
abbrev pub Passes : List Product → ℕ → ℕ → ℕ → ℕ → Type 0
Passes ps from n e left = members_before ps from + n ≡ members_before ps e + left

pub passes_one : (ps : List Product) (from n e left size : ℕ) → e < length ps → size ≡ length (members_of (product_at ps e)) → size ≤ left → Passes ps from n e left → Passes ps from n (e + 1) (left - size)
passes_one ps from n e left size lt is le h =
    let more = members_more ps e lt in
    let here = length_members_of (product_at ps e) in
    omega (arith, more, here, is, le, h)

pub stops_in : (ps : List Product) (from n e left size : ℕ) → e < length ps → size ≡ length (members_of (product_at ps e)) → left < size → Passes ps from n e left → members_before ps e + left ≡ min (members_before ps from + n) (length (members ps))
stops_in ps from n e left size lt is less h =
    let here = length_members_of (product_at ps e) in
    let fits = members_up_to ps e lt in
    omega (arith, here, fits, is, less, h)

pub stops_at_end : (ps : List Product) (from n e left : ℕ) → length ps ≤ e → Passes ps from n e left → min (members_before ps from + n) (length (members ps)) ≡ length (members ps)
stops_at_end ps from n e left le h =
    let all = members_all ps e le in
    omega (arith, all, h)

-- the place after all members of no entry, and of none but the first ones
pub from_start : (ps : List Product) (n : ℕ) → min (members_before ps 0 + n) (length (members ps)) ≡ min n (length (members ps))
from_start ps n = omega (arith, members_none ps)

pub from_start_none : (ps : List Product) → min (members_before ps 0 + 0) (length (members ps)) ≡ 0
from_start_none ps = omega (arith, members_none ps)

-- An entry's count is that of its product's members.
pub size_at : (entries : List Entry) (sets : List (List Node)) (ps : List Product) (e size : ℕ) (d : Entry) → products_of entries sets ≡ ps → e < length entries → size ≡ length (members_of (product_of sets (get_or entries e d)))
    → (e < length ps) × (size ≡ length (members_of (product_at ps e)))
size_at entries sets ps e size d is lt size-is = subst (λ (qs : List Product). (e < length qs) × (size ≡ length (members_of (product_at qs e)))) is
    (omega (arith, lt, length_products entries sets), size-is ∙ ap (λ (p : Product). length (members_of p)) (sym (get_or-map (product_of sets) entries e d none lt)))

pub end_at : (entries : List Entry) (sets : List (List Node)) (ps : List Product) → products_of entries sets ≡ ps → length entries ≡ length ps
end_at entries sets ps is = sym (length_products entries sets) ∙ ap length is

-- ---- the count

-- The first i entries have as many members as were counted.
abbrev pub Sums : List Entry → List (List Node) → ℕ → ℕ → Type 0
Sums entries sets i count = (count ≡ members_before (products_of entries sets) i) × (count ≤ i * 2 ^ 64)

pub sums_none : (entries : List Entry) (sets : List (List Node)) → Sums entries sets 0 0
sums_none entries sets = (sym (members_none (products_of entries sets)), omega arith)

pub sums_more : (entries : List Entry) (sets : List (List Node)) (i count size : ℕ) (d : Entry) → i < length entries → size ≡ length (members_of (product_of sets (get_or entries i d))) → size ≤ 2 ^ 64
    → Sums entries sets i count → Sums entries sets (i + 1) (count + size)
sums_more entries sets i count size d lt is le h =
    let s = size_at entries sets (products_of entries sets) i size d refl lt is in
    let more = members_more (products_of entries sets) i s.0 in
    let here = length_members_of (product_at (products_of entries sets) i) in
    (omega (arith, more, here, s.1, h.0), omega (arith, h.1, le))

pub sums_all : (entries : List Entry) (sets : List (List Node)) (i count : ℕ) → length entries ≤ i → Sums entries sets i count → count ≡ length (members (products_of entries sets))
sums_all entries sets i count le h = h.0 ∙ members_all (products_of entries sets) i (omega (arith, le, length_products entries sets))

-- ---- steps

-- A place that an entry has is a member's.
is_at : (ps : List Product) (at : Place) (k : ℕ) → at.entry < length ps → StandsAt ps at k → IsAt ps at k
is_at ps at k lt (inl h) = h
is_at ps at k lt (inr end) = absurd (omega (arith, lt, end.past))

pub some_at : (entries : List Entry) (sets : List (List Node)) (ps : List Product) (at : Place) → products_of entries sets ≡ ps → at.entry < length entries → (k : ℕ) × StandsAt ps at k → (k : ℕ) × IsAt ps at k
some_at entries sets ps at is lt (k, h) = (k, is_at ps at k (omega (arith, lt, end_at entries sets ps is)) h)

-- Any other is the end.
pub is_end : (entries : List Entry) (sets : List (List Node)) (ps : List Product) (at : Place) (k : ℕ) → products_of entries sets ≡ ps → length entries ≤ at.entry → StandsAt ps at k → k ≡ length (members ps)
is_end entries sets ps at k is le (inl h) = absurd (omega (arith, h.within, le, end_at entries sets ps is))
is_end entries sets ps at k is le (inr end) = end.number

pub gives : (entries : List Entry) (sets : List (List Node)) (ps : List Product) (at after : Place) (k : ℕ) (d : Entry) → products_of entries sets ≡ ps → at.entry < length entries → ((n : ℕ) → IsAt ps at n → StandsAt ps after (n + 1)) → StandsAt ps at k
    → (slice_get (members ps) k ≡ Some (record { rule = (get_or entries at.entry d).rule; source = at.source; target = at.target })) × StandsAt ps after (k + 1)
gives entries sets ps at after k d is lt next h =
    let here : IsAt ps at k = is_at ps at k (omega (arith, lt, end_at entries sets ps is)) h in
    let single : ℕ → Single = λ r. record { rule = r; source = at.source; target = at.target } in
    let rule : (product_at ps at.entry).rule ≡ (get_or entries at.entry d).rule =
    ap (λ (qs : List Product). (product_at qs at.entry).rule) (sym is) ∙ ap (λ (p : Product). p.rule) (get_or-map (product_of sets) entries at.entry d none lt) in
    (member_is ps at k here ∙ ap (λ (r : ℕ). Some (single r)) rule, next k here)

-- what is true of a list's neighbours, where the list is another
pub along : (xs ys : List ℕ) (a : ℕ) (o : Option ℕ) → xs ≡ ys → ((i : ℕ) → slice_get xs i ≡ Some a → slice_get xs (i + 1) ≡ o) → (i : ℕ) → slice_get ys i ≡ Some a → slice_get ys (i + 1) ≡ o
along xs ys a o is h = subst (λ (zs : List ℕ). (i : ℕ) → slice_get zs i ≡ Some a → slice_get zs (i + 1) ≡ o) is h

-- ---- rows

-- a later target of the same source
target_later : (ps : List Product) (at : Place) (k i target : ℕ) (h : IsAt ps at k) → slice_get (product_at ps at.entry).targets (h.j + i) ≡ Some target → IsAt ps (record { entry = at.entry; source = at.source; target = target }) (k + i)
target_later ps at k i target h is = record {
  i = h.i;
  j = h.j + i;
  within = h.within;
  source = h.source;
  target = is;
  number = omega (arith, h.number);
}

pub get_dropped : (xs : List ℕ) (n i : ℕ) → slice_get (drop n xs) i ≡ slice_get xs (n + i)
get_dropped xs zero i = let e : 0 + i ≡ i = omega arith in rw e refl
get_dropped [] (suc n) i = refl
get_dropped (x ∷ xs) (suc n) i = let e : suc n + i ≡ suc (n + i) = omega arith in rw e (get_dropped xs n i)

-- the targets that are left of a source
row_from : (ps : List Product) (at after : Place) (k : ℕ) (row : Row) (h : IsAt ps at k) → row.rule ≡ (product_at ps at.entry).rule → row.source ≡ at.source → row.targets ≡ drop h.j (product_at ps at.entry).targets
    → StandsAt ps after (members_before ps at.entry + (h.i + 1) * length (product_at ps at.entry).targets) → IsRowAt ps k row after
row_from ps at after k row h rule source targets behind =
    let all : List ℕ = (product_at ps at.entry).targets in
    let within = slice_get_within all h.j at.target h.target in
    let long : length row.targets ≡ length all - h.j = ap (λ (xs : List ℕ). length xs) targets ∙ length-drop h.j all in
    let rows : (h.i + 1) * length all ≡ h.i * length all + length all = omega arith in
    let there : members_before ps at.entry + (h.i + 1) * length all ≡ k + length row.targets = omega (arith, h.number, within, long, rows) in
    record {
      some = omega (arith, within, long);
      each = λ i target is.
          let here : slice_get all (h.j + i) ≡ Some target = sym (get_dropped all h.j i) ∙ ap (λ (xs : List ℕ). slice_get xs i) (sym targets) ∙ is in
          let one : ℕ → ℕ → Option Single = λ r s. Some (record { rule = r; source = s; target = target }) in
          member_is ps (record { entry = at.entry; source = at.source; target = target }) (k + i) (target_later ps at k i target h here) ∙ (λ x. one (sym rule x) (sym source x));
      after = subst (StandsAt ps after) there behind;
    }

-- from the rule and the targets of an entry
pub row_given : (entries : List Entry) (sets : List (List Node)) (ps : List Product) (at after : Place) (k : ℕ) (d : Entry) (targets row : List ℕ) → products_of entries sets ≡ ps → at.entry < length entries
    → targets ≡ (product_at ps at.entry).targets → ((j : ℕ) → slice_get targets j ≡ Some at.target → row ≡ drop j targets)
    → ((i : ℕ) → slice_get (product_at ps at.entry).sources i ≡ Some at.source → StandsAt ps after (members_before ps at.entry + (i + 1) * length (product_at ps at.entry).targets))
    → StandsAt ps at k → IsRowAt ps k (record { rule = (get_or entries at.entry d).rule; source = at.source; targets = row }) after
row_given entries sets ps at after k d targets row is lt same from behind h =
    let here : IsAt ps at k = is_at ps at k (omega (arith, lt, end_at entries sets ps is)) h in
    let rule : (product_at ps at.entry).rule ≡ (get_or entries at.entry d).rule =
    ap (λ (qs : List Product). (product_at qs at.entry).rule) (sym is) ∙ ap (λ (p : Product). p.rule) (get_or-map (product_of sets) entries at.entry d none lt) in
    let left : row ≡ drop here.j (product_at ps at.entry).targets = from here.j (ap (λ (xs : List ℕ). slice_get xs here.j) same ∙ here.target) ∙ ap (drop here.j) same in
    row_from ps at after k (record { rule = (get_or entries at.entry d).rule; source = at.source; targets = row }) here (sym rule) refl left (behind here.i here.source)

-- and they are all that are left
pub rest_given : (targets all row : List ℕ) (target : ℕ) → targets ≡ all → ((j : ℕ) → slice_get targets j ≡ Some target → row ≡ drop j targets) → (j : ℕ) → slice_get all j ≡ Some target → row ≡ drop j all
rest_given targets all row target same h = subst (λ (xs : List ℕ). (j : ℕ) → slice_get xs j ≡ Some target → row ≡ drop j xs) same h

-- what an entry's place needs
pub row_targets : (ps : List Product) (at : Place) → (k : ℕ) × IsAt ps at k → 0 < length (product_at ps at.entry).targets
row_targets ps at (k, h) = let within = slice_get_within (product_at ps at.entry).targets h.j at.target h.target in omega (arith, within)
