-- What a search that is at its end has found are the shortest walks.
use Rattle.std.proofs.Common.{◌≡◌, inl, inr, ℕ, ◌-◌, ◌^◌, ◌<◌, ◌≤◌, Bool, false, List, [], ◌∷◌, length, sym, ◌∙◌, arith}
use Rattle.std.specs.Prelude.{slice_index}
use Rattle.std.specs.List.{All, Contains, range_with_len}
use Rattle.std.proofs.lemmas.List.Elements.{All-weaker, All-contains_itself, All-from_get_or}
use Rattle.walk_enum.specs.Walks.{successors_of, walks_along, walks, least_walks, Goes}
use Rattle.walk_enum.specs.Inner.Turns.{row_of, AreLayers}
use Rattle.walk_enum.specs.Inner.Exploring.{Explores, IsAtEnd}
use Rattle.walk_enum.specs.Inner.Counting.{AreOrdered}
use Rattle.walk_enum.specs.Inner.Cutting.{is_none, IsCut, Cuts}
use Rattle.walk_enum.proofs.Ascending.{ascends_filter, ascends_range}
use Rattle.walk_enum.proofs.Along.{first_is, first_none, no_walks, some_from_goes}
use Rattle.walk_enum.proofs.Exploring.{least, depth_small}
use Rattle.walk_enum.proofs.Cuts.{walks_same, rows_lead, rows_increase, rows_ordered}

module _ (edge : ℕ → ℕ → Bool) (nodes from to : ℕ) (depths queue : List ℕ) (rows : List (List ℕ))
    (e : Explores (successors_of edge nodes) nodes from to depths queue rows (length rows)) where
  pub queue_fits : All (λ b. b < length depths) queue
  queue_fits = All-weaker (Contains queue) (λ (b : ℕ). b < length depths) (λ b has. omega (arith, (e.range b has).1, e.size)) queue (All-contains_itself queue)

  pub depths_few : nodes < 2 ^ 32 → All (λ d. d < 2 ^ 32) depths
  depths_few few = All-from_get_or (λ (d : ℕ). d < 2 ^ 32) depths 0 (λ i lt. omega (arith, few, depth_small (successors_of edge nodes) nodes from to depths queue rows (length rows) e i))

  module _ (end : IsAtEnd depths queue (length rows) to) where
    abbrev next : ℕ → List ℕ
    next = successors_of edge nodes

    pub answer_none : slice_index depths to ≡ 0 → least_walks edge nodes from to ≡ []
    answer_none none = first_none (walks edge nodes from to) 0 nodes (λ j. no_walks next from to j (λ g. absurd (omega (arith, none, (least next nodes from to depths queue rows (length rows) e end j to (inl none) g).0))))

    module _ (found : 1 ≤ slice_index depths to) where
      abbrev k : ℕ
      k = slice_index depths to - 1

      way : Goes next from to k
      way = e.reach to k (omega (arith, found))

      pub answer_least : least_walks edge nodes from to ≡ walks_along next from to k
      answer_least = first_is (walks edge nodes from to) 0 nodes k (omega arith) (omega (arith, found, depth_small next nodes from to depths queue rows (length rows) e to)) (some_from_goes next from to k way)
          (λ j lt. no_walks next from to j (λ g. absurd (omega (arith, lt, found, (least next nodes from to depths queue rows (length rows) e end j to (inr (omega (arith, lt))) g).1))))

      pub answer_some : least_walks edge nodes from to ≡ [] → ⊥
      answer_some none = by (walks_along next from to k) (some_from_goes next from to k way) (sym answer_least ∙ none)
        where
          by : (ws : List (List ℕ)) → is_none ws ≡ false → ws ≡ [] → ⊥
          by [] h e = absurd cc
          by (w ∷ ws) h e = absurd cc

      module _ (kept : List (List ℕ)) (cut : IsCut depths queue rows to kept 0) where
        cuts : Cuts next to depths queue kept (length rows) 0
        cuts = cut next nodes from e end found

        pub answer_layers : nodes < 2 ^ 32 → AreLayers kept from to k
        answer_layers few = record {
          rising = rows_increase next nodes from to depths queue rows (length rows) e end found kept cuts (λ a. ascends_filter (edge a) (range_with_len 1 nodes) (ascends_range 1 nodes));
          leads = rows_lead next nodes from to depths queue rows (length rows) e end found kept cuts k from (omega (arith, e.begun)) (omega (arith, e.begun, found)) way;
          short = omega (arith, few, found, depth_small next nodes from to depths queue rows (length rows) e to);
        }

        pub answer_ordered : AreOrdered kept queue to
        answer_ordered = rows_ordered next nodes from to depths queue rows (length rows) e end found kept cuts

        pub answer_walks : walks_along (row_of kept) from to k ≡ least_walks edge nodes from to
        answer_walks = walks_same next nodes from to depths queue rows (length rows) e end found kept cuts k from (omega (arith, e.begun)) (omega (arith, e.begun, found)) ∙ sym answer_least
