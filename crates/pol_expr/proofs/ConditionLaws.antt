-- The two laws of a condition.
use Rattle.std.proofs.Common.{◌≡◌, ℕ, List, length, append_assoc}
use Rattle.std.specs.List.{flat_map, AllByRecursion}
use Rattle.std.proofs.lemmas.List.{append-nil}
use Rattle.pol_fields.specs.declared.fields.TheConstants.{CONDNODE_STATE, CONDNODE_NEXPR, CONDNODE_KIND, CONDNODE_BOOLEAN}
use Rattle.pol_cursor.specs.Laws.{Reads, Again, IsSpelling, IsReadAgain, IsReadFromSpelling}
use Rattle.pol_cursor.proofs.Laws.{Reads-done, Reads-part, Reads-list_of, Reads-number, Reads-number_if, Again-done, Again-part, Again-as, Again-list_of, Again-number, Again-number_if}
use Rattle.pol_expr.specs.declared.condition_rec.ConditionItem.{ConditionItem}
use Rattle.pol_expr.specs.ConditionRecord.{item_at, values_after_item, items_at, condition_at, spell_item, spell_condition, ItemFits, ConditionFits}

item_spelled : (left values : ℕ) → IsReadFromSpelling (item_at left values) spell_item ItemFits
unfolding item_at
item_spelled left values =
    Reads-part (Reads-number_if CONDNODE_KIND 4) λ kind kind-fits.
    Reads-part (Reads-number CONDNODE_BOOLEAN 4) λ boolean boolean-fits.
    Reads-done _ (record { kind = kind; boolean = boolean }) (record { same = simp append-nil; fitting = (kind-fits.0, boolean-fits) })

item_again : (left values : ℕ) → IsReadAgain (item_at left values) spell_item ItemFits
unfolding item_at
item_again left values item fits =
    Again-as (Again-part _ (Again-number_if CONDNODE_KIND 4 item.kind _ fits.0) (Again-part _ (Again-number CONDNODE_BOOLEAN 4 item.boolean fits.1) (Again-done item))) (simp append-nil)

items_spelled : (count : ℕ) → Reads (items_at count) (IsSpelling (flat_map spell_item) (λ items. (length items ≡ count) × AllByRecursion ItemFits items))
unfolding items_at
items_spelled count = Reads-list_of item_at values_after_item spell_item ItemFits item_spelled count 0

items_again : (items : List ConditionItem) → AllByRecursion ItemFits items → Again (items_at (length items)) items (flat_map spell_item items)
unfolding items_at
items_again items fits = Again-list_of item_at values_after_item spell_item ItemFits item_again items 0 fits

-- The second law of a condition.
pub condition_spelled : IsReadFromSpelling condition_at spell_condition ConditionFits
unfolding condition_at
condition_spelled =
    Reads-part (Reads-number CONDNODE_STATE 4) λ state state-fits.
    Reads-part (Reads-number_if CONDNODE_NEXPR 4) λ count count-fits.
    Reads-part (items_spelled count) λ items items-fits.
    Reads-done _ (record { state = state; items = items }) (record {
      same = rw (items-fits.0) (simp (append_assoc, append-nil));
      fitting = record { state = state-fits; count = rw (items-fits.0) count-fits.0; items = items-fits.1 };
    })

-- The first law of a condition.
pub condition_again : IsReadAgain condition_at spell_condition ConditionFits
unfolding condition_at
condition_again condition fits =
    Again-as
    (Again-part _ (Again-number CONDNODE_STATE 4 condition.state fits.state)
    (Again-part _ (Again-number_if CONDNODE_NEXPR 4 (length condition.items) _ fits.count)
    (Again-part _ (items_again condition.items fits.items)
    (Again-done condition))))
    (simp (append_assoc, append-nil))
