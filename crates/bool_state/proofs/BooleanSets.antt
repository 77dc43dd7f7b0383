-- Sets of booleans by the bits of their nodes.
use Rattle.std.proofs.Common.{◌≡◌, ◌↔◌, ℕ, Bool, true, false, List, refl, sym, ap, ◌∙◌}
use Rattle.std.proofs.Math.Path.{fun_ext}
use Rattle.std.specs.Prelude.{Contains, nat_eq}
use Rattle.std.specs.List.{list_any}
use Rattle.std.specs.Ordering.{nat_cmp}
use Rattle.std.specs.Cmp.{nat_cmp_total, nat_eq_equiv, unsigned_tied}
use Rattle.std.specs.FinSet as set
use Rattle.std.proofs.lemmas.Bool.{eqb-true}
use Rattle.std.proofs.lemmas.Map.Views.{list_any-from_Contains, Contains-from_any}
use Rattle.pol_bitmap.specs.declared.Node.{Node}
use Rattle.pol_bitmap.specs.Nodes.{bits_of}
use Rattle.pol_expr.specs.ConditionMeaning.{is_in}

same_tests : (a b : Bool) → (a ≡ true → b ≡ true) → (b ≡ true → a ≡ true) → a ≡ b
same_tests true b f g = sym (f refl)
same_tests false true f g = g refl
same_tests false false f g = refl

-- whether a boolean is in the set of some values
in_set : (values : List ℕ) (q : ℕ) → set.contains (set.from_list {R = nat_cmp} values) q ≡ list_any (nat_eq q) values
in_set values q = set.contains-from_list nat_cmp_total values q ∙ ap (λ (test : ℕ → Bool). list_any test values) (fun_ext (unsigned_tied q))

-- whether a boolean is in the set of the bits of nodes
pub in_nodes : (on : List Node) → is_in on ≡ set.contains (set.from_list {R = nat_cmp} (bits_of on))
in_nodes on = fun_ext (λ q. sym (in_set (bits_of on) q))

-- lists with the same values make the same set
pub same_values : (xs ys : List ℕ) → ((value : ℕ) → Contains xs value ↔ Contains ys value) → set.from_list {R = nat_cmp} xs ≡ set.from_list ys
same_values xs ys same =
    set.same_set nat_cmp_total set.nat_cmp-IsAntisymmetric (set.from_list xs) (set.from_list ys)
    (λ q.
    in_set xs q
    ∙ same_tests (list_any (nat_eq q) xs) (list_any (nat_eq q) ys)
    (λ e. list_any-from_Contains nat_eq_equiv q ys ((same q).0 (Contains-from_any eqb-true q xs e)))
    (λ e. list_any-from_Contains nat_eq_equiv q xs ((same q).1 (Contains-from_any eqb-true q ys e)))
    ∙ sym (in_set ys q))
