-- The nodes from which the target is reached, gathered on the way back.
use Rattle.std.proofs.Common.{◌≡◌, inl, inr, ℕ, ◌<◌, Bool, true, false, not, ◌||◌, List, [], ◌∷◌, ◌++◌, length, set, refl, sym, ap, subst, ◌∙◌, arith}
use Rattle.std.specs.Prelude.{slice_index, ◌==◌}
use Rattle.std.specs.List.{Contains, filter}
use Rattle.std.proofs.lemmas.Bool.{eqb-true, and_parts, or_cases}
use Rattle.std.proofs.lemmas.List.Elements.{Contains-push, Contains-push_cases, Contains-append_left}
use Rattle.pol_bitmap.specs.declared.Node.{Node}
use Rattle.pol_bitmap.specs.Nodes.{bits_of}
use Rattle.pol_bitmap.specs.Sets.{IsSet, IsCommon, ShareBit}
use Rattle.pol_bitmap.proofs.BitLists.{bits_increasing}
use Rattle.walk_enum.specs.declared.leading.Leading.{Leading}
use Rattle.walk_enum.specs.Inner.Turns.{row_of}
use Rattle.walk_enum.specs.Inner.Cutting.{is_none, goes_on, AreLeading}
use Rattle.walk_enum.specs.Inner.Leading.{Notes, Gathers}
use Rattle.walk_enum.proofs.Elements.{not_in_nothing, in_filter, from_filter, passes_filter, in_first}
use Rattle.walk_enum.proofs.Ascending.{Ascends, ascends_filter, ascends_from_increasing, same_numbers}
use Rattle.walk_enum.proofs.Cuts.{row_cases}

some_there : (b : Bool) → not b ≡ true → b ≡ false
some_there true h = absurd cc
some_there false h = refl

module _ (depths : List ℕ) (kept : List (List ℕ)) (to : ℕ) where
  abbrev pub Leads : Leading → Type 0
  Leads l = AreLeading depths kept to (bits_of l.set) l.others.items l.deepest

  pub leads_gathered : (old new : Leading) (depth : ℕ) → Leads old → Gathers old new depth → Leads new
  leads_gathered old new depth h g = record {
    target = g.set to h.target;
    each = λ c some. elim (h.each c some) [
      | inl in_set ↦ inl (g.set c in_set)
      | inr in_others ↦ elim g.cases [ inl all ↦ inl (all.0 c in_others) | inr same ↦ inr (subst (λ (xs : List ℕ). Contains xs c) (sym same.0) in_others) ]
    ];
    deep = λ c has. elim g.cases [
      | inl all ↦ not_in_nothing c (subst (λ (xs : List ℕ). Contains xs c) all.1 has)
      | inr same ↦ omega (arith, h.deep c (subst (λ (xs : List ℕ). Contains xs c) same.0 has), same.1)
    ];
  }

  -- a node that goes on at the depth up to which they were gathered is in the set
  pub goes_on_there : (old new : Leading) (depth c : ℕ) → Leads old → Gathers old new depth → goes_on depths kept to depth c ≡ true → Contains (bits_of new.set) c
  goes_on_there old new depth c h g goes =
      let parts = and_parts (slice_index depths c == depth) ((c == to) || not (is_none (row_of kept c))) goes in
      let deep : slice_index depths c ≡ depth = eqb-true (slice_index depths c) depth parts.0 in
      elim (or_cases (c == to) (not (is_none (row_of kept c))) parts.1) [
        | inl same ↦ subst (Contains (bits_of new.set)) (sym (eqb-true c to same)) (g.set to h.target)
        | inr some ↦ elim (h.each c (some_there (is_none (row_of kept c)) some)) [
          | inl in_set ↦ g.set c in_set
          | inr in_others ↦ elim g.cases [ inl all ↦ all.0 c in_others | inr same ↦ absurd (omega (arith, h.deep c in_others, same.1, same.2, deep)) ]
        ]
      ]

  pub leads_noted : (old new : Leading) (node depth : ℕ) (row : List ℕ) → node < length kept → depth ≡ slice_index depths node → Leads old → Notes old new node depth row → AreLeading depths (set kept node row) to (bits_of new.set) new.others.items new.deepest
  leads_noted old new node depth row within is h n = record {
    target = subst (λ (xs : List ℕ). Contains xs to) (sym same_set) h.target;
    each = λ c some. elim (row_cases kept node row c within) [
      | inl here ↦ elim n.cases [
        | inl none ↦ absurd (clash (is_none row) none.0 (ap is_none (sym here.1) ∙ some))
        | inr more ↦ inr (subst (λ (xs : List ℕ). Contains xs c) (sym more.0) (subst (Contains (old.others.items ++ node ∷ [])) here.0 (Contains-push old.others.items node)))
      ]
      | inr other ↦ elim (h.each c (ap is_none (sym other) ∙ some)) [
        | inl in_set ↦ inl (subst (λ (xs : List ℕ). Contains xs c) (sym same_set) in_set)
        | inr in_others ↦ inr (elim n.cases [
          | inl none ↦ subst (λ (xs : List ℕ). Contains xs c) (sym none.1) in_others
          | inr more ↦ subst (λ (xs : List ℕ). Contains xs c) (sym more.0) (Contains-append_left old.others.items (node ∷ []) c in_others)
        ])
      ]
    ];
    deep = λ c has. elim n.cases [
      | inl none ↦ omega (arith, h.deep c (subst (λ (xs : List ℕ). Contains xs c) none.1 has), none.2)
      | inr more ↦ elim (Contains-push_cases old.others.items node c (subst (λ (xs : List ℕ). Contains xs c) more.0 has)) [
        | inl before ↦ omega (arith, h.deep c before, more.1)
        | inr e ↦ omega (arith, ap (slice_index depths) e, is, more.2)
      ]
    ];
  }
    where
      same_set : bits_of new.set ≡ bits_of old.set
      same_set = ap bits_of n.set

      clash : (b : Bool) → b ≡ true → b ≡ false → ⊥
      clash b e f = absurd cc

-- what goes on is among some nodes, and so it is all there in those of a row that are among them
pub filter_near : (p : ℕ → Bool) (row good near : List ℕ) → Ascends ◌<◌ row → Ascends ◌<◌ near → IsCommon row good near → ((c : ℕ) → p c ≡ true → Contains good c) → filter p near ≡ filter p row
filter_near p row good near up_row up_near common there =
    same_numbers (filter p near) (filter p row) (ascends_filter p near up_near) (ascends_filter p row up_row)
    (λ c has. in_filter p row c (passes_filter p near c has) ((common.each c).0 (from_filter p near c has)).0)
    (λ c has. let goes : p c ≡ true = passes_filter p row c has in in_filter p near c goes ((common.each c).1 (from_filter p row c has, there c goes)))

pub filter_apart : (p : ℕ → Bool) (row good : List ℕ) → (ShareBit row good → ⊥) → ((c : ℕ) → p c ≡ true → Contains good c) → [] ≡ filter p row
filter_apart p row good apart there = by (filter p row) (λ c has. apart (record { bit = c; left = from_filter p row c has; right = there c (passes_filter p row c has) }))
  where
    by : (xs : List ℕ) → ((c : ℕ) → Contains xs c → ⊥) → [] ≡ xs
    by [] none = refl
    by (x ∷ xs) none = absurd (none x (in_first x xs))

pub set_ascends : (s : List Node) → IsSet s → Ascends ◌<◌ (bits_of s)
set_ascends s form = ascends_from_increasing (bits_of s) (bits_increasing 0 s form.0)
