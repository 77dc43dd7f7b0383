-- The rules of a conditional node by where they stand.
use Rattle.std.proofs.Common.{◌≡◌, ℕ, ◌+◌, true, false, List, refl, ap, ◌∙◌, arith}
use Rattle.pol_cursor.specs.Parts.{num}
use Rattle.pol_cursor.specs.References.{Placed, values_of}
use Rattle.pol_cursor.specs.NestedRecords.{nested_in, nested_end, HasNested, placed_from, length_together}
use Rattle.pol_cursor.proofs.PlacedNested.{nested_placed_by, nested_ends_by}
use Rattle.pol_expr.proofs.ItemPlaces.{length_items_in}
use Rattle.pol_conditionals.specs.declared.condnode_rec.CondNodeRec.{CondNodeRec}
use Rattle.pol_avtab.specs.AvRecord.{av_in, av_end, HasAv}
use Rattle.pol_conditionals.specs.CondNodeRecord.{rules_in, true_count_place, false_count_place, condnode_in, HasCondNode, rule_length, true_place, false_place, branch_rules}

-- rules that stand there are those of their values
rules_placed : (bytes : List ℕ) (place n : ℕ) → HasNested HasAv av_end bytes place n → nested_in av_in av_end bytes place n ≡ placed_from rule_length place (values_of (nested_in av_in av_end bytes place n))
rules_placed bytes place n h = nested_placed_by av_in HasAv av_end rule_length bytes (λ p _. refl) place n h

-- the place behind them
rules_ends : (bytes : List ℕ) (place n : ℕ) → HasNested HasAv av_end bytes place n → nested_end av_end bytes place n ≡ place + length_together rule_length (values_of (nested_in av_in av_end bytes place n))
rules_ends bytes place n h = nested_ends_by av_in HasAv av_end rule_length bytes (λ p _. refl) place n h

module _ (bytes : List ℕ) (place : ℕ) (h : HasCondNode bytes place) where
  abbrev node : Placed CondNodeRec
  node = record { place = place; value = condnode_in bytes place }

  true_place_is : true_count_place bytes place + 4 ≡ true_place node
  true_place_is = omega (arith, length_items_in bytes (place + 8) (num bytes (place + 4) 4))

  pub true_rules_are : rules_in bytes (true_count_place bytes place) ≡ branch_rules node true
  true_rules_are =
      let p = true_count_place bytes place in
      rules_placed bytes (p + 4) (num bytes p 4) h.1.1 ∙ ap (λ (i : ℕ). placed_from rule_length i (values_of (rules_in bytes p))) true_place_is

  pub false_rules_are : rules_in bytes (false_count_place bytes place) ≡ branch_rules node false
  false_rules_are =
      let p = true_count_place bytes place in
      let q = false_count_place bytes place in
      let at : q + 4 ≡ false_place node = omega (arith, true_place_is, rules_ends bytes (p + 4) (num bytes p 4) h.1.1) in
      rules_placed bytes (q + 4) (num bytes q 4) h.2.1 ∙ ap (λ (i : ℕ). placed_from rule_length i (values_of (rules_in bytes q))) at
