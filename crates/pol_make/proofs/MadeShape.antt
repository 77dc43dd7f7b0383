-- A policy that is made has the optional parts of its records.
use Rattle.std.proofs.Common.{◌≡◌, ℕ, ◌≤◌, None, refl}
use Rattle.std.proofs.lemmas.Bool.{eq-eqb}
use Rattle.pol_avtab.specs.declared.AvRec.{AvRec}
use Rattle.pol_tree.specs.OptionalParts.{first_of, first_in}
use Rattle.pol_tree.specs.RecordShapes.{shape_of_av}
use Rattle.pol_tree.specs.TreeShape.{shape_of_symbols, shape_of_rules, shape_of_contexts, shape_of_labels, shape}
use Rattle.pol_make.specs.MadeSymbols.{process_constraints, made_nprims, made_classes, made_users}
use Rattle.pol_make.specs.MadeRules.{made_rules, made_sids}
use Rattle.pol_make.specs.Made.{made}
use Rattle.pol_make.proofs.GrantedRules.{IsMadeRule, rules-made}
use Rattle.pol_make.proofs.GrantedRows.{length-made_rows}
use Rattle.pol_moved.proofs.ListFacts.{all-so}
use Rattle.pol_moved.proofs.GrantedPolicy.{none-in}

rule-shaped : (n : ℕ) (av : AvRec) → IsMadeRule n av → shape_of_av av ≡ None
rule-shaped n av made = rw made.is refl

rules-shaped : (n : ℕ) → 20 ≤ n → first_in shape_of_av (made_rules n) ≡ None
rules-shaped n many = none-in shape_of_av (made_rules n) (all-so (made_rules n) (λ av is. rule-shaped n av is) (rules-made n many))

pub made-shaped : (n : ℕ) → 20 ≤ n → shape (made n) ≡ None
unfolding shape shape_of_symbols shape_of_rules shape_of_labels shape_of_contexts first_of made made_classes process_constraints made_users made_sids made_nprims
made-shaped n many = rw (rules-shaped n many, length-made_rows n, eq-eqb _ _ refl) refl
