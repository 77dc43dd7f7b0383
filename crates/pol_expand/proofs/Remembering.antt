-- The numbers that are remembered.
use Rattle.std.proofs.Common.{◌≡◌, inl, inr, ℕ, ◌+◌, ◌-◌, ◌<◌, ◌≤◌, List, [], ◌∷◌, Option, Some, None, is_some, cond, length, refl, sym, ap, ◌∙◌, arith, length-append}
use Rattle.std.specs.Prelude.{slice_index_or, slice_set}
use Rattle.std.specs.List.{count_by}
use Rattle.std.proofs.Math.Seq.{get_or-append_seam}
use Rattle.std.proofs.lemmas.Bool.{cases_eq}
use Rattle.std.proofs.lemmas.Grind.{get_or-set_at}
use Rattle.std.proofs.lemmas.List.{get_or-set_other, length-set, get_or_append_left}
use Rattle.std.proofs.lemmas.List.Sums.{sum_by-set, count_by-le-length}
use Rattle.std.proofs.lemmas.Option.{get_or_from_slice_get, slice_get-get_or}
use Rattle.pol_bitmap.specs.declared.node.Node.{Node}
use Rattle.pol_bitmap.specs.Nodes.{bits_of}
use Rattle.pol_bitmap.specs.Kept.{IsNumberOf}
use Rattle.pol_expand.specs.Expansion.{IsNumberOfBits, expansion_of}
use Rattle.pol_expand.specs.Inner.Inverting.{AreNumbers}

-- ---- the number of a set

pub record NumberFacts (old new : List (List Node)) (nodes : List Node) (n : ℕ) : Type 0 where
  pub there : n < length new
  pub is : slice_index_or new n [] ≡ nodes
  pub keeps : (m : ℕ) → m < length old → slice_index_or new m [] ≡ slice_index_or old m []
  pub longer : length old ≤ length new
  pub one : length new ≤ length old + 1

pub number_facts : (old new : List (List Node)) (nodes : List Node) (n : ℕ) → IsNumberOf old new nodes n → NumberFacts old new nodes n
number_facts old new nodes n h = elim h [
  | inl found ↦ rw (found.1) (record { there = found.0; is = get_or_from_slice_get old n nodes [] found.2; keeps = λ m lt. refl; longer = omega arith; one = omega arith })
  | inr added ↦ rw (added.1, added.0) (record {
    there = omega (arith, length-append old (nodes ∷ []));
    is = get_or-append_seam old nodes [] [];
    keeps = λ m lt. get_or_append_left old (nodes ∷ []) [] m lt;
    longer = omega (arith, length-append old (nodes ∷ []));
    one = omega (arith, length-append old (nodes ∷ []));
  })
]

pub number_there : (old new : List (List Node)) (nodes : List Node) (n : ℕ) → IsNumberOf old new nodes n → n < length new
number_there old new nodes n h = let f = number_facts old new nodes n h in f.there

pub number_of_bits : (old new : List (List Node)) (nodes : List Node) (bits : List ℕ) (n : ℕ) → IsNumberOf old new nodes n → bits_of nodes ≡ bits → IsNumberOfBits old new bits n
number_of_bits old new nodes bits n h e =
    let f = number_facts old new nodes n h in
    record { number = rw (f.is) h; right = ap bits_of f.is ∙ e }

pub number_found : (sets : List (List Node)) (bits : List ℕ) (n : ℕ) → n < length sets → bits_of (slice_index_or sets n []) ≡ bits → IsNumberOfBits sets sets bits n
number_found sets bits n lt e = record { number = inl (lt, refl, slice_get-get_or sets n [] lt); right = e }

-- ---- the numbers by value

some_same : (a b : ℕ) → Some a ≡ Some b → a ≡ b
some_same a b e = cc

counts_one : (numbers : List (Option ℕ)) (place n : ℕ) → place < length numbers → slice_index_or numbers place None ≡ None → count_by is_some (slice_set numbers place (Some n)) ≡ count_by is_some numbers + 1
counts_one numbers place n lt none =
    let sum = sum_by-set (λ (o : Option ℕ). cond {A = ℕ} (is_some o) 1 0) numbers place (Some n) None lt in
    let was = ap (λ (o : Option ℕ). cond {A = ℕ} (is_some o) 1 0) none in
    omega (arith, sum, was)

pub numbers_next : (expansions : List (List ℕ)) (numbers : List (Option ℕ)) (sets next : List (List Node)) (kept count place n : ℕ) (nodes : List Node)
    → AreNumbers expansions numbers sets kept count → place < count → slice_index_or numbers place None ≡ None
    → IsNumberOf sets next nodes n → bits_of nodes ≡ slice_index_or expansions place [] → AreNumbers expansions (slice_set numbers place (Some n)) next kept count
numbers_next expansions numbers sets next kept count place n nodes h lt none number bits =
    let f = number_facts sets next nodes n number in
    let within : place < length numbers = omega (arith, h.all) in
    record {
      all = length-set numbers place (Some n) ∙ h.all;
      there = λ k m e. elim (cases_eq k place) [
        | inl same ↦ let is : n ≡ m = some_same n m (sym (get_or-set_at numbers place k (Some n) None same within) ∙ e) in omega (arith, f.there)
        | inr other ↦ let lt : m < length sets = h.there k m (sym (get_or-set_other numbers place k (Some n) None other) ∙ e) in omega (arith, f.longer)
      ];
      right = λ k m e. elim (cases_eq k place) [
        | inl same ↦ let is : n ≡ m = some_same n m (sym (get_or-set_at numbers place k (Some n) None same within) ∙ e) in
            ap (λ (i : ℕ). bits_of (slice_index_or next i [])) (sym is) ∙ ap bits_of f.is ∙ bits ∙ ap (λ (i : ℕ). slice_index_or expansions i []) (sym same)
        | inr other ↦ let before : slice_index_or numbers k None ≡ Some m = sym (get_or-set_other numbers place k (Some n) None other) ∙ e in
            ap bits_of (f.keeps m (h.there k m before)) ∙ h.right k m before
      ];
      bound = omega (arith, h.bound, f.one, counts_one numbers place n within none);
      within = omega (arith, h.within, f.longer);
      fits = h.fits;
    }

-- a remembered number
pub remembered : (expansions : List (List ℕ)) (numbers : List (Option ℕ)) (sets : List (List Node)) (kept count place value n : ℕ) → AreNumbers expansions numbers sets kept count → place + 1 ≡ value → slice_index_or numbers place None ≡ Some n → IsNumberOfBits sets sets (expansion_of expansions value) n
remembered expansions numbers sets kept count place value n h at is =
    let k : place ≡ value - 1 = omega arith in
    number_found sets (expansion_of expansions value) n (h.there place n is) (h.right place n is ∙ ap (λ (k : ℕ). slice_index_or expansions k []) k)

pub bound_of : (expansions : List (List ℕ)) (numbers : List (Option ℕ)) (sets : List (List Node)) (kept count : ℕ) → AreNumbers expansions numbers sets kept count → count ≤ 65535 → length sets ≤ kept + 65535
bound_of expansions numbers sets kept count h few = omega (arith, h.bound, h.all, count_by-le-length is_some numbers)
