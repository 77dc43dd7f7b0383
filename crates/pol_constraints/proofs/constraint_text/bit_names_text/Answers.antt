use Rattle.std.proofs.Common.{List, ℕ, Bor, map, ap, subst, ◌∙◌}
use Rattle.std.specs.List.Sorted.{IsPermutation}
use Rattle.std.specs.Ordering.{nat_cmp, is_lt}
use Rattle.std.specs.Cmp.Lexicographic.{slice_cmp}
use Rattle.std.proofs.lemmas.List.Sorted.{IsPermutation-map}
use Rattle.std.proofs.lemmas.Result.{IfOk-weaker}
use Rattle.pol_bitmap.specs.Nodes.{bits_of}
use Rattle.pol_texts.specs.SetTexts.{set_text}
use Rattle.pol_texts.proofs.OrderedNames.{in_order_is, sorted_map}
use Rattle.pol_constraints.specs.ConstraintTexts.{names_of}
use Rattle.pol_constraints.proofs.constraint_text.bit_names_text.Goals as goal

pub returns : goal.returns
returns g c =
    let now : Bor (List ℕ) → List ℕ = λ name. name.now in
    let sorted = map now c.sort.new.self.items in
    let ordered = in_order_is (names_of (g.N.Names.named c.args.names.now) c.args.table (bits_of c.args.bitmap.now)) sorted (record {
      same = subst (λ (names : List (List ℕ)). IsPermutation names sorted) c.in_ok-declared.ensures (IsPermutation-map now c.in_ok-declared.declared.items c.sort.new.self.items c.in_ok-sort.ensures.permutation);
      rises = sorted_map now (λ x y. is_lt (slice_cmp nat_cmp x y)) c.sort.new.self.items c.in_ok-sort.ensures.sorted;
    }) in
    IfOk-weaker c.text_of_set.result _ _ (λ text h. h ∙ ap (λ (names : List (Bor (List ℕ))). set_text (map now names)) c.deref.ensures.value ∙ ap set_text ordered) c.text_of_set.ensures
