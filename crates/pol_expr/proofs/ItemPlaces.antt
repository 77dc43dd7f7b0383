-- The items of a condition that were read are those that stand there.
use Rattle.std.proofs.Common.{◌≡◌, ℕ, zero, suc, ◌+◌, ◌*◌, ◌<◌, ◌≤◌, ◌&&◌, Some, List, [], ◌∷◌, length, refl, sym, ap, subst, ◌∙◌, arith}
use Rattle.std.specs.Prelude.{nat_le, slice_get}
use Rattle.pol_fields.specs.declared.fault.Cause.TheVariants.{BadKind}
use Rattle.pol_fields.specs.declared.fields.TheConstants.{CONDNODE_KIND, CONDNODE_BOOLEAN}
use Rattle.pol_cursor.specs.Outcome.{Got, and_then}
use Rattle.pol_cursor.specs.Parts.{num, list_of, number, number_if}
use Rattle.pol_cursor.proofs.Laws.{and_then_got}
use Rattle.pol_cursor.proofs.Facts.{number_is, number_if_is}
use Rattle.pol_expr.specs.declared.codes.TheConstants.{COND_EXPR_MAXDEPTH}
use Rattle.pol_expr.specs.declared.condition_rec.ConditionItem.{ConditionItem}
use Rattle.pol_expr.specs.Postfix.{operands_test}
use Rattle.pol_expr.specs.ConditionRecord.{kind_operands, item_operands, kind_test, item_at, values_after_item, item_in, items_in}
use Rattle.pol_expr.proofs.PostfixReading.{HasOperands, has_operands, guard_none, got_is}

-- ---- items

pub record IsItem (left values : ℕ) (bytes : List ℕ) (place : ℕ) (item : ConditionItem) (next : ℕ) : Type 0 where
  pub is : item ≡ item_in bytes place
  pub ends : next ≡ place + 8
  pub long : next ≤ length bytes
  pub operands : HasOperands COND_EXPR_MAXDEPTH left values (item_operands item)

pub item_is : (left values : ℕ) (bytes : List ℕ) (place : ℕ) (item : ConditionItem) (next : ℕ) → item_at left values bytes place ≡ Got item next → IsItem left values bytes place item next
unfolding item_at
item_is left values bytes place item next e =
    let a = and_then_got (number_if CONDNODE_KIND 4 (kind_test left values) bytes place) (λ kind m. and_then (number CONDNODE_BOOLEAN 4 bytes m) (λ boolean k. Got (record { kind = kind; boolean = boolean }) k)) item next e in
    let b = and_then_got (number CONDNODE_BOOLEAN 4 bytes a.1) (λ boolean k. Got (record { kind = a.0; boolean = boolean }) k) item next a.3 in
    let made : ConditionItem = record { kind = a.0; boolean = b.0 } in
    let g = got_is made b.1 item next b.3 in
    let p = number_if_is CONDNODE_KIND 4 (kind_test left values) bytes place a.0 a.1 a.2 in
    let q = number_is CONDNODE_BOOLEAN 4 bytes a.1 b.0 b.1 b.2 in
    let t = guard_none (nat_le 1 a.0 && nat_le a.0 7) (operands_test COND_EXPR_MAXDEPTH left values (kind_operands a.0)) BadKind p.3 in
    record {
      is = sym g.0 ∙ ap (λ (x : ℕ). record { kind = x; boolean = b.0 }) p.0 ∙ ap (λ (x : ℕ). record { kind = num bytes place 4; boolean = x }) (q.0 ∙ ap (λ (i : ℕ). num bytes i 4) p.1);
      ends = omega (arith, g.1, p.1, q.1);
      long = omega (arith, g.1, q.2);
      operands = subst (λ (x : ConditionItem). HasOperands COND_EXPR_MAXDEPTH left values (item_operands x)) g.0 (has_operands COND_EXPR_MAXDEPTH left values (kind_operands a.0) t.1);
    }

pub record AreItems (bytes : List ℕ) (place count values : ℕ) (items : List ConditionItem) (next : ℕ) : Type 0 where
  pub are : items ≡ items_in bytes place count
  pub ends : next ≡ place + 8 * count
  pub long : place ≤ length bytes → next ≤ length bytes

pub are_items : (count values : ℕ) (bytes : List ℕ) (place : ℕ) (items : List ConditionItem) (next : ℕ) → list_of item_at values_after_item count values bytes place ≡ Got items next → AreItems bytes place count values items next
unfolding list_of items_in
are_items zero values bytes place items next e =
    let g = got_is [] place items next e in
    record { are = sym g.0; ends = omega (arith, g.1); long = λ le. omega (arith, g.1) }
are_items (suc count) values bytes place items next e =
    let a = and_then_got (item_at count values bytes place) (λ x m. and_then (list_of item_at values_after_item count (values_after_item values x) bytes m) (λ xs k. Got (x ∷ xs) k)) items next e in
    let b = and_then_got (list_of item_at values_after_item count (values_after_item values a.0) bytes a.1) (λ xs k. Got (a.0 ∷ xs) k) items next a.3 in
    let g = got_is (a.0 ∷ b.0) b.1 items next b.3 in
    let p = item_is count values bytes place a.0 a.1 a.2 in
    let q = are_items count (values_after_item values a.0) bytes a.1 b.0 b.1 b.2 in
    record {
      are = sym g.0 ∙ ap (λ (x : ConditionItem). x ∷ b.0) p.is ∙ ap (λ (xs : List ConditionItem). item_in bytes place ∷ xs) (q.are ∙ ap (λ (i : ℕ). items_in bytes i count) p.ends);
      ends = omega (arith, g.1, p.ends, q.ends);
      long = λ le. omega (arith, g.1, q.long p.long);
    }

-- ---- the items that stand there

pub length_items_in : (bytes : List ℕ) (place n : ℕ) → length (items_in bytes place n) ≡ n
unfolding items_in
length_items_in bytes place zero = refl
length_items_in bytes place (suc n) = ap suc (length_items_in bytes (place + 8) n)

pub get_items_in : (bytes : List ℕ) (place n i : ℕ) → i < n → slice_get (items_in bytes place n) i ≡ Some (item_in bytes (place + 8 * i))
unfolding items_in
get_items_in bytes place zero i lt = absurd (omega arith)
get_items_in bytes place (suc n) zero lt = ap (λ (i : ℕ). Some (item_in bytes i)) (omega arith)
get_items_in bytes place (suc n) (suc i) lt = get_items_in bytes (place + 8) n i (omega arith) ∙ ap (λ (j : ℕ). Some (item_in bytes j)) (omega arith)
