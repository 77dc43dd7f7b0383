-- The two laws of conditional nodes and of the list of them.
use Rattle.std.proofs.Common.{◌≡◌, ℕ, zero, suc, ◌∷◌, None, List, refl, ap, append_assoc}
use Rattle.std.proofs.lemmas.List.{append-nil}
use Rattle.pol_fields.specs.declared.field.Field.{Field}
use Rattle.pol_fields.specs.declared.fields.TheConstants.{CONDLIST_COUNT, CONDNODE_NTRUE, CONDNODE_NFALSE}
use Rattle.pol_cursor.specs.Outcome.{Reader, Outcome, Got, Bad, and_then}
use Rattle.pol_cursor.specs.Contexts.{records_after}
use Rattle.pol_cursor.specs.Parts.{number, list_of, records_at, counted, spell_counted, CountedFits}
use Rattle.pol_cursor.specs.References.{Placed, placed, without_places}
use Rattle.pol_cursor.specs.Laws.{IsReadAgain, IsReadFromSpelling}
use Rattle.pol_cursor.proofs.Laws.{Reads-done, Reads-part, Again-done, Again-part, Again-as, counted_records_spelled, counted_records_again}
use Rattle.pol_cursor.proofs.Lists.{records_unplaced}
use Rattle.pol_expr.proofs.ConditionLaws.{condition_spelled, condition_again}
use Rattle.pol_avtab.specs.AvRecord.{av_at, spell_av, AvFits}
use Rattle.pol_avtab.proofs.AvLaws.{av_spelled, av_again, unplaced_counted}
use Rattle.pol_conditionals.specs.CondNodeRecord.{conditional_rules_at, condnode_at, spell_condnode, CondNodeFits}
use Rattle.pol_conditionals.specs.CondNodeList.{conditionals_at, plain_conditionals_at, spell_conditionals, ConditionalsFit}

-- ---- conditional nodes

conditional_rules_spelled : (version : ℕ) (count : Field) → IsReadFromSpelling (counted count (conditional_rules_at version)) (spell_counted spell_av) (CountedFits AvFits)
conditional_rules_spelled version count = counted_records_spelled count (av_at version None) spell_av AvFits (av_spelled version None)

conditional_rules_again : (version : ℕ) (count : Field) → IsReadAgain (counted count (conditional_rules_at version)) (spell_counted spell_av) (CountedFits AvFits)
conditional_rules_again version count = counted_records_again count (av_at version None) spell_av AvFits (av_again version None)

pub condnode_spelled : (version : ℕ) → IsReadFromSpelling (condnode_at version) spell_condnode CondNodeFits
unfolding condnode_at
condnode_spelled version =
    Reads-part condition_spelled λ condition condition-fits.
    Reads-part (conditional_rules_spelled version CONDNODE_NTRUE) λ true_rules true_rules-fit.
    Reads-part (conditional_rules_spelled version CONDNODE_NFALSE) λ false_rules false_rules-fit.
    Reads-done _ (record { condition = condition; true_rules = true_rules; false_rules = false_rules }) (record {
      same = simp (append_assoc, append-nil);
      fitting = record { condition = condition-fits; true_rules = true_rules-fit; false_rules = false_rules-fit };
    })

pub condnode_again : (version : ℕ) → IsReadAgain (condnode_at version) spell_condnode CondNodeFits
unfolding condnode_at
condnode_again version node fits =
    Again-as
    (Again-part _ (condition_again node.condition fits.condition)
    (Again-part _ (conditional_rules_again version CONDNODE_NTRUE node.true_rules fits.true_rules)
    (Again-part _ (conditional_rules_again version CONDNODE_NFALSE node.false_rules fits.false_rules)
    (Again-done node))))
    (simp (append_assoc, append-nil))

-- ---- the list of conditional nodes

pub conditionals_spelled : (version : ℕ) → IsReadFromSpelling (plain_conditionals_at version) spell_conditionals ConditionalsFit
unfolding plain_conditionals_at
conditionals_spelled version = counted_records_spelled CONDLIST_COUNT (condnode_at version) spell_condnode CondNodeFits (condnode_spelled version)

pub conditionals_again : (version : ℕ) → IsReadAgain (plain_conditionals_at version) spell_conditionals ConditionalsFit
unfolding plain_conditionals_at
conditionals_again version = counted_records_again CONDLIST_COUNT (condnode_at version) spell_condnode CondNodeFits (condnode_again version)

pub conditionals_unplaced : (version : ℕ) (bytes : List ℕ) (place : ℕ) → without_places (conditionals_at version bytes place) ≡ plain_conditionals_at version bytes place
unfolding conditionals_at plain_conditionals_at
conditionals_unplaced version bytes place =
    unplaced_counted bytes (records_at (placed (condnode_at version))) (records_at (condnode_at version)) (λ n next. records_unplaced (condnode_at version) n bytes next) (number CONDLIST_COUNT 4 bytes place)

-- ---- a context that stays

first_then : {A B : Type 0} (o : Outcome A) (f g : A → ℕ → Outcome B) → ((x : A) (next : ℕ) → f x next ≡ g x next) → and_then o f ≡ and_then o g
first_then (Got x next) f g same = same x next
first_then (Bad e) f g same = refl

-- Records that all are read under the same context are read alone.
pub records_alone : {S A : Type 0} (record_at : S → Reader A) (n : ℕ) (context : S) (bytes : List ℕ) (place : ℕ) → records_after record_at (λ s x. s) n context bytes place ≡ records_at (placed (record_at context)) n bytes place
unfolding records_after records_at list_of
records_alone record_at zero context bytes place = refl
records_alone record_at (suc n) context bytes place =
    first_then (placed (record_at context) bytes place) _ _ (λ r next. ap (λ (o : Outcome (List (Placed _))). and_then o (λ rs k. Got (r ∷ rs) k)) (records_alone record_at n context bytes next))
