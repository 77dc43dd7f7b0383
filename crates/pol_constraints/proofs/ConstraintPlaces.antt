-- The items of a constraint that were read are those that stand there.
use Rattle.std.proofs.Common.{◌≡◌, ℕ, zero, suc, ◌+◌, ◌-◌, ◌<◌, Bool, ◌&&◌, Option, List, [], ◌∷◌, ◌++◌, length, refl, sym, ap, subst, ◌∙◌, ◌≤◌, add-one, arith}
use Rattle.std.specs.Prelude.{nat_le}
use Rattle.pol_fields.specs.declared.fault.Cause.TheVariants.{BadKind}
use Rattle.pol_fields.specs.declared.fields.TheConstants.{CONSTRAINT_KIND, CONSTRAINT_ATTR, CONSTRAINT_OP}
use Rattle.pol_cursor.specs.Outcome.{Position, Got, and_then}
use Rattle.pol_cursor.specs.Parts.{num, number_if}
use Rattle.pol_cursor.proofs.Laws.{and_then_got}
use Rattle.pol_cursor.proofs.Facts.{number_if_is}
use Rattle.pol_cursor.proofs.Lists.{Gave, Going, Going-start, Going-next}
use Rattle.pol_constraints.specs.declared.codes.TheConstants.{CEXPR_MAXDEPTH}
use Rattle.pol_constraints.specs.declared.constraint_rec.ConstraintItem.{ConstraintItem}
use Rattle.pol_constraints.specs.declared.constraint_rec.TypeSet.{TypeSet}
use Rattle.pol_bitmap.specs.declared.node.Node.{Node}
use Rattle.pol_expr.specs.Postfix.{values_after, operands_test}
use Rattle.pol_constraints.specs.ConstraintRecord.{kind_operands, item_operands, kind_test, attr_test, op_test, sets_at, item_at, values_after_item, item_in, item_end, items_in, items_end, HasItem, HasItems}
use Rattle.pol_expr.proofs.PostfixReading.{HasOperands, has_operands, guard_none, got_is}

pub item_has_operands : (version : ℕ) (xtarget : Bool) (left values : ℕ) (bytes : List ℕ) (place : ℕ) (x : ConstraintItem) (next : ℕ) → item_at version xtarget left values bytes place ≡ Got x next → HasOperands CEXPR_MAXDEPTH left values (item_operands x)
unfolding item_at
item_has_operands version xtarget left values bytes place x next e =
    let made : ℕ → ℕ → ℕ → Option (List Node) × Option TypeSet → ConstraintItem = λ kind attr op sets. record { kind = kind; attr = attr; op = op; names = sets.0; type_set = sets.1 } in
    let a = and_then_got (number_if CONSTRAINT_KIND 4 (kind_test left values) bytes place) (λ kind m. and_then (number_if CONSTRAINT_ATTR 4 (attr_test xtarget kind) bytes m) (λ attr n. and_then (number_if CONSTRAINT_OP 4 (op_test kind) bytes n) (λ op o. and_then (sets_at version kind bytes o) (λ set p. Got (made kind attr op set) p)))) x next e in
    let b = and_then_got (number_if CONSTRAINT_ATTR 4 (attr_test xtarget a.0) bytes a.1) (λ attr n. and_then (number_if CONSTRAINT_OP 4 (op_test a.0) bytes n) (λ op o. and_then (sets_at version a.0 bytes o) (λ set p. Got (made a.0 attr op set) p))) x next a.3 in
    let d = and_then_got (number_if CONSTRAINT_OP 4 (op_test a.0) bytes b.1) (λ op o. and_then (sets_at version a.0 bytes o) (λ set p. Got (made a.0 b.0 op set) p)) x next b.3 in
    let f = and_then_got (sets_at version a.0 bytes d.1) (λ set p. Got (made a.0 b.0 d.0 set) p) x next d.3 in
    let g = got_is (made a.0 b.0 d.0 f.0) f.1 x next f.3 in
    let k = number_if_is CONSTRAINT_KIND 4 (kind_test left values) bytes place a.0 a.1 a.2 in
    let t = guard_none (nat_le 1 a.0 && nat_le a.0 5) (operands_test CEXPR_MAXDEPTH left values (kind_operands a.0)) BadKind k.3 in
    subst (λ (y : ConstraintItem). HasOperands CEXPR_MAXDEPTH left values (item_operands y)) g.0 (has_operands CEXPR_MAXDEPTH left values (kind_operands a.0) t.1)

-- ---- the items that stand there, one by one

pub length_items_in : (version : ℕ) (bytes : List ℕ) (place n : ℕ) → length (items_in version bytes place n) ≡ n
unfolding items_in
length_items_in version bytes place zero = refl
length_items_in version bytes place (suc n) = ap suc (length_items_in version bytes (item_end version bytes place) n)

module _ (version : ℕ) (bytes : List ℕ) where
  items_in-suc : (place n : ℕ) → items_in version bytes place (suc n) ≡ items_in version bytes place n ++ item_in version bytes (items_end version bytes place n) ∷ []
  unfolding items_in items_end
  items_in-suc place zero = refl
  items_in-suc place (suc n) = ap (λ (xs : List ConstraintItem). item_in version bytes place ∷ xs) (items_in-suc (item_end version bytes place) n)

  items_end-suc : (place n : ℕ) → items_end version bytes place (suc n) ≡ item_end version bytes (items_end version bytes place n)
  unfolding items_end
  items_end-suc place zero = refl
  items_end-suc place (suc n) = items_end-suc (item_end version bytes place) n

  pub items_end_next : (place n : ℕ) → items_end version bytes place (n + 1) ≡ item_end version bytes (items_end version bytes place n)
  items_end_next place n = rw add-one (items_end-suc place n)

  HasItems-suc : (place n : ℕ) → HasItems version bytes place n → HasItem version bytes (items_end version bytes place n) → HasItems version bytes place (suc n)
  unfolding HasItems items_end
  HasItems-suc place zero h one = (one, tt)
  HasItems-suc place (suc n) h one = (h.0, HasItems-suc (item_end version bytes place) n h.1 one)

  -- the item of a number, from 0 on
  pub HasItems_one : (place n i : ℕ) → i < n → HasItems version bytes place n → HasItem version bytes (items_end version bytes place i)
  unfolding HasItems items_end
  HasItems_one place zero i lt h = absurd (omega arith)
  HasItems_one place (suc n) zero lt h = h.0
  HasItems_one place (suc n) (suc i) lt h = HasItems_one (item_end version bytes place) n i (omega arith) h.1

  -- the first of the items that are left
  pub items_left : (place n : ℕ) → 0 < n → items_in version bytes place n ≡ item_in version bytes place ∷ items_in version bytes (item_end version bytes place) (n - 1)
  unfolding items_in
  items_left place zero lt = absurd (omega arith)
  items_left place (suc n) lt = let less : n ≡ suc n - 1 = omega arith in ap (λ (k : ℕ). item_in version bytes place ∷ items_in version bytes (item_end version bytes place) k) less

  pub HasItems_left : (place n : ℕ) → 0 < n → HasItems version bytes place n → HasItem version bytes place × HasItems version bytes (item_end version bytes place) (n - 1)
  unfolding HasItems
  HasItems_left place zero lt h = absurd (omega arith)
  HasItems_left place (suc n) lt h = let less : n ≡ suc n - 1 = omega arith in (h.0, subst (HasItems version bytes (item_end version bytes place)) less h.1)

-- i items were read, and are those that stand there
pub record Passed (version : ℕ) (xtarget : Bool) (count : ℕ) (first : Position) (i values : ℕ) (now : Position) : Type 0 where
  pub going : Going (item_at version xtarget) values_after_item count 0 first i values now (items_in version first.bytes first.place i)
  pub ends : now.place ≡ items_end version first.bytes first.place i
  pub has : HasItems version first.bytes first.place i

module _ (version : ℕ) (xtarget : Bool) (count : ℕ) (first : Position) where
  pub Passed-start : Passed version xtarget count first 0 0 first
  unfolding items_in items_end HasItems
  Passed-start = record { going = Going-start (item_at version xtarget) values_after_item count 0 first; ends = refl; has = tt }

  pub Passed-next : (i values : ℕ) (now : Position) (after : ℕ) (next : Position) → i < count
      → Gave (item_at version xtarget (count - i - 1) values) (item_in version now.bytes now.place) now next → next.place ≡ item_end version now.bytes now.place → HasItem version now.bytes now.place
      → after ≡ values_after values (kind_operands (num now.bytes now.place 4)) → Passed version xtarget count first i values now → Passed version xtarget count first (i + 1) after next
  Passed-next i values now after next lt e ends has is h =
      let x = item_in version now.bytes now.place in
      let here : now ≡ record { bytes = first.bytes; place = items_end version first.bytes first.place i } = ap (λ (b : List ℕ). record { bytes = b; place = now.place }) h.going.same ∙ ap (λ (p : ℕ). record { bytes = first.bytes; place = p }) h.ends in
      let one = Going-next (item_at version xtarget) values_after_item count 0 first i values now (items_in version first.bytes first.place i) x next lt e h.going in
      let more : items_in version first.bytes first.place (i + 1) ≡ items_in version first.bytes first.place i ++ x ∷ [] =
      rw add-one (items_in-suc version first.bytes first.place i ∙ ap (λ (p : Position). items_in version first.bytes first.place i ++ item_in version p.bytes p.place ∷ []) (sym here)) in
      let end : next.place ≡ items_end version first.bytes first.place (i + 1) =
      ends ∙ ap (λ (p : Position). item_end version p.bytes p.place) here ∙ sym (items_end_next version first.bytes first.place i) in
      record {
        going = rw (is, more) one;
        ends = end;
        has = rw add-one (HasItems-suc version first.bytes first.place i h.has (subst (λ (p : Position). HasItem version p.bytes p.place) here has));
      }

  pub Passed-end : (i values : ℕ) (now : Position) → count ≤ i → i ≤ count → Passed version xtarget count first i values now → Passed version xtarget count first count values now
  Passed-end i values now le ge h = let same : i ≡ count = omega arith in subst (λ (n : ℕ). Passed version xtarget count first n values now) same h
