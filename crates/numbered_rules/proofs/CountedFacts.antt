-- What counts at a key, by sets.
use Rattle.std.proofs.Common.{◌≡◌, ℕ, Bool, true, false, cond, List, map, refl, sym, ap, ◌∙◌}
use Rattle.std.specs.Prelude.{◌==◌}
use Rattle.std.specs.List.{filter, flat_map}
use Rattle.std.specs.Ordering.{nat_cmp}
use Rattle.std.proofs.lemmas.Bool.{eqb-true}
use Rattle.keyed_lists.specs.KeyOrder.{keys_in_order}
use Rattle.pol_bitmap.specs.declared.node.Node.{Node}
use Rattle.pol_bitmap.specs.Nodes.{bits_of}
use Rattle.pol_bitmap.specs.Sets.{IsSet, IsDifference}
use Rattle.numbered_rules.specs.declared.key.SingleKey.{SingleKey}
use Rattle.numbered_rules.specs.declared.key.Counting.{Counting}
use Rattle.numbered_rules.specs.declared.key.Counting.TheVariants.{Permissions}
use Rattle.numbered_rules.specs.declared.form.RuleForm.{RuleForm}
use Rattle.numbered_rules.specs.Forms.{bits_at, is_form_of, rules_of}
use Rattle.numbered_rules.specs.NumberedRules.{counted, given_together, is_labelled, unconditioned, without}
use Rattle.numbered_rules.proofs.SetFacts.{difference_without}
use Rattle.numbered_rules.proofs.FormFacts.{given_is}

conditional : (key : SingleKey) (others given : List ℕ) → (key.condition ≡ 0 → ⊥) → counted Permissions key others given ≡ without others given
conditional key others given some = by (key.condition == 0) refl
  where
    by : (b : Bool) → (key.condition == 0) ≡ b → cond b given (without others given) ≡ without others given
    by true e = absurd (some (eqb-true key.condition 0 e))
    by false e = refl

pub counted_without : (counting : Counting) (sets : List (List Node)) (key other : SingleKey) (forms : List RuleForm) (items : List ℕ) (given others set : List Node)
    → counting ≡ Permissions → (key.condition ≡ 0 → ⊥) → other ≡ unconditioned key → items ≡ map (λ form. form.given) (filter (is_form_of other) forms)
    → bits_of others ≡ keys_in_order nat_cmp (flat_map (bits_at sets) items) → IsSet given → IsSet set → IsDifference (bits_of given) (bits_of others) (bits_of set)
    → bits_of set ≡ counted counting key (given_together (filter (is_labelled (unconditioned key)) (rules_of sets forms))) (bits_of given)
counted_without counting sets key other forms items given others set permissions some without_condition are all of is difference =
    let together : bits_of others ≡ given_together (filter (is_labelled (unconditioned key)) (rules_of sets forms)) =
    all ∙ ap (λ ns. keys_in_order nat_cmp (flat_map (bits_at sets) ns)) are ∙ given_is sets other forms ∙ ap (λ k. given_together (filter (is_labelled k) (rules_of sets forms))) without_condition in
    difference_without given others set of is difference
    ∙ ap (λ ns. without ns (bits_of given)) together
    ∙ sym (conditional key (given_together (filter (is_labelled (unconditioned key)) (rules_of sets forms))) (bits_of given) some)
    ∙ ap (λ k. counted k key (given_together (filter (is_labelled (unconditioned key)) (rules_of sets forms))) (bits_of given)) (sym permissions)
