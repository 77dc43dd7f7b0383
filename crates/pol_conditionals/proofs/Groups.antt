-- Lists of places in one vector, and the places of the rules of conditional nodes.
use Rattle.std.proofs.Common.{◌≡◌, ℕ, zero, suc, ◌+◌, ◌<◌, ◌≤◌, Bool, true, false, Some, List, [], ◌∷◌, ◌++◌, length, take, drop, get_or, refl, sym, ap, subst, ◌∙◌, arith}
use Rattle.std.specs.Prelude.{slice_get}
use Rattle.std.proofs.lemmas.List.{drop_at, take_all, drop-append-le, take-append-le, length-drop, length-append, map_push}
use Rattle.pol_cursor.specs.References.{Placed}
use Rattle.pol_cursor.specs.NestedRecords.{nested_in, nested_end, HasNested}
use Rattle.pol_cursor.proofs.NestedLists.{length_nested_in, get_nested_in, nested_has}
use Rattle.pol_avtab.specs.declared.AvRec.{AvRec}
use Rattle.pol_conditionals.specs.declared.condnode_rec.CondNodeRec.{CondNodeRec}
use Rattle.pol_cursor.specs.Parts.{num}
use Rattle.pol_avtab.specs.AvRecord.{av_in, av_end, HasAv}
use Rattle.pol_conditionals.specs.CondNodeRecord.{true_count_place, false_count_place, condnode_in, HasCondNode, branch_rules, rules_of_branch}
use Rattle.pol_conditionals.proofs.RulePlaces.{true_rules_are, false_rules_are}
use Rattle.pol_conditionals.specs.declared.place_groups.Span.{Span}
use Rattle.pol_conditionals.specs.Inner.PlaceGroups.{numbers_in, IsWithin, groups_of, AreWithin, places_of}

-- a span is within
pub group_within : (numbers : List ℕ) (spans : List Span) (i : ℕ) (span : Span) → AreWithin numbers spans → slice_get spans i ≡ Some span → span.first + span.len ≤ length numbers
group_within numbers [] i span h e = absurd cc
group_within numbers (s ∷ ss) zero span h e = let same : s ≡ span = cc in subst (IsWithin numbers) same h.0
group_within numbers (s ∷ ss) (suc i) span h e = group_within numbers ss i span h.1 e

-- ---- one more list

-- a list that stands in the vector stands in a longer one
still_there : (numbers more : List ℕ) (span : Span) → IsWithin numbers span → numbers_in (numbers ++ more) span ≡ numbers_in numbers span
still_there numbers more span within = ap (take span.len) (drop-append-le span.first numbers more (omega arith)) ∙ take-append-le span.len (drop span.first numbers) more (omega (arith, length-drop span.first numbers))

groups_still : (numbers more : List ℕ) (spans : List Span) → AreWithin numbers spans → groups_of (numbers ++ more) spans ≡ groups_of numbers spans
groups_still numbers more [] h = refl
groups_still numbers more (s ∷ ss) h = rw (still_there numbers more s h.0, groups_still numbers more ss h.1) refl

within_still : (numbers more : List ℕ) (spans : List Span) → AreWithin numbers spans → AreWithin (numbers ++ more) spans
within_still numbers more [] h = tt
within_still numbers more (s ∷ ss) h = (omega (arith, h.0, length-append numbers more), within_still numbers more ss h.1)

within_push : (numbers : List ℕ) (spans : List Span) (span : Span) → AreWithin numbers spans → IsWithin numbers span → AreWithin numbers (spans ++ span ∷ [])
within_push numbers [] span h one = (one, tt)
within_push numbers (s ∷ ss) span h one = (h.0, within_push numbers ss span h.1 one)

-- a list behind those of the vector
module _ (numbers more : List ℕ) (spans : List Span) (h : AreWithin numbers spans) where
  abbrev span : Span
  span = record { first = length numbers; len = length more }

  pub groups_push : groups_of (numbers ++ more) (spans ++ span ∷ []) ≡ groups_of numbers spans ++ more ∷ []
  groups_push =
      let here : numbers_in (numbers ++ more) span ≡ more = ap (take (length more)) (drop_at numbers more (length numbers) refl) ∙ take_all (length more) more (omega arith) in
      map_push (numbers_in (numbers ++ more)) spans span ∙ rw (groups_still numbers more spans h, here) refl

  pub groups_within : AreWithin (numbers ++ more) (spans ++ span ∷ [])
  groups_within = within_push (numbers ++ more) spans span (within_still numbers more spans h) (omega (arith, length-append numbers more))

-- ---- the rules of a node, by their places

-- by the places of a run
module _ (bytes : List ℕ) (place n j p : ℕ) where
  abbrev run : List (Placed AvRec)
  run = nested_in av_in av_end bytes place n

  run_rule : HasNested HasAv av_end bytes place n → j < length run → p ≡ get_or (places_of run) j 0 → HasAv bytes p × (slice_get run j ≡ Some (record { place = p; value = av_in bytes p }))
  run_rule h lt at =
      let within : j < n = omega (arith, length_nested_in av_in av_end bytes place n) in
      let there = get_nested_in av_in av_end bytes place n j within in
      let is : p ≡ nested_end av_end bytes place j = at ∙ place_of run j (nested_end av_end bytes place j) (av_in bytes (nested_end av_end bytes place j)) there in
      (subst (HasAv bytes) (sym is) (nested_has HasAv av_end bytes place n j within h), there ∙ ap (λ (i : ℕ). Some (record { place = i; value = av_in bytes i })) (sym is))
    where
      place_of : (rules : List (Placed AvRec)) (j at : ℕ) (av : AvRec) → slice_get rules j ≡ Some (record { place = at; value = av }) → get_or (places_of rules) j 0 ≡ at
      place_of [] j at av e = absurd cc
      place_of (r ∷ rs) zero at av e = let same : r ≡ record { place = at; value = av } = cc in ap (λ (x : Placed AvRec). x.place) same
      place_of (r ∷ rs) (suc j) at av e = place_of rs j at av e

-- by those of a node
module _ (bytes : List ℕ) (place j p : ℕ) (h : HasCondNode bytes place) where
  abbrev node : Placed CondNodeRec
  node = record { place = place; value = condnode_in bytes place }

  node_rule : (branch : Bool) → j < length (branch_rules node branch) → p ≡ get_or (places_of (branch_rules node branch)) j 0 → HasAv bytes p × (slice_get (branch_rules node branch) j ≡ Some (record { place = p; value = av_in bytes p }))
  node_rule true lt at =
      let q = true_count_place bytes place in
      let are = true_rules_are bytes place h in
      let rule = run_rule bytes (q + 4) (num bytes q 4) j p h.1.1 (rw (← are) at lt) (rw (← are) at at) in
      (rule.0, rw (← are) rule.1)
  node_rule false lt at =
      let q = false_count_place bytes place in
      let are = false_rules_are bytes place h in
      let rule = run_rule bytes (q + 4) (num bytes q 4) j p h.2.1 (rw (← are) at lt) (rw (← are) at at) in
      (rule.0, rw (← are) rule.1)

-- by those of one of the nodes
pub rule_of_nodes : (nodes : List (Placed CondNodeRec)) (i : ℕ) (branch : Bool) (bytes : List ℕ) (place j p : ℕ) → slice_get nodes i ≡ Some (record { place = place; value = condnode_in bytes place }) → HasCondNode bytes place
    → j < length (rules_of_branch nodes i branch) → p ≡ get_or (places_of (rules_of_branch nodes i branch)) j 0 → HasAv bytes p × (slice_get (rules_of_branch nodes i branch) j ≡ Some (record { place = p; value = av_in bytes p }))
rule_of_nodes nodes i branch bytes place j p e h lt at = rw e (node_rule bytes place j p h branch (rw e at lt) (rw e at at))
