-- An item of a constraint, by the parts that were read one after the other.
use Rattle.std.proofs.Common.{◌≡◌, ℕ, ◌+◌, ◌≤◌, Bool, Option, None, List, length, sym, ap, subst, ◌∙◌, arith}
use Rattle.std.specs.Prelude.{◌&&◌, nat_le}
use Rattle.std.proofs.lemmas.Bool.Decides.{nat_tests}
use Rattle.pol_fields.specs.declared.fields.TheConstants.{CONSTRAINT_KIND, CONSTRAINT_ATTR, CONSTRAINT_OP}
use Rattle.pol_cursor.specs.Outcome.{Position, Outcome, Got, and_then, judged}
use Rattle.pol_cursor.specs.Parts.{num, number}
use Rattle.pol_fields.specs.declared.field.Field.{Field}
use Rattle.pol_fields.specs.declared.fault.Cause.{Cause}
use Rattle.pol_fields.specs.declared.fault.Cause.TheVariants.{BadKind}
use Rattle.pol_cursor.proofs.Facts.{number_is}
use Rattle.pol_cursor.proofs.Lists.{Gave}
use Rattle.pol_constraints.specs.declared.codes.TheConstants.{CEXPR_MAXDEPTH}
use Rattle.pol_constraints.specs.declared.constraint_rec.ConstraintItem.{ConstraintItem}
use Rattle.pol_constraints.specs.declared.constraint_rec.TypeSet.{TypeSet}
use Rattle.pol_bitmap.specs.declared.node.Node.{Node}
use Rattle.pol_expr.specs.Postfix.{operands_test}
use Rattle.pol_expr.proofs.PostfixReading.{guard_none}
use Rattle.pol_constraints.specs.ConstraintRecord.{kind_operands, kind_test, attr_test, op_test, sets_at, item_at, item_in, item_end, names_in, types_in, sets_end, HasSets, HasItem}

-- a number that was read and meets its conditions
kept : (d : Field) (test : ℕ → Option Cause) (o : Outcome ℕ) (place n next : ℕ) → o ≡ Got n next → test n ≡ None → and_then o (λ x m. judged (test x) d x place m) ≡ Got n next
kept d test o place n next e t = ap (λ (o : Outcome ℕ). and_then o (λ x m. judged (test x) d x place m)) e ∙ ap (λ (t : Option Cause). judged t d n place next) t

kind_known : (left values kind : ℕ) → kind_test left values kind ≡ None → 1 ≤ kind
kind_known left values kind e = let known = (guard_none (nat_le 1 kind && nat_le kind 5) (operands_test CEXPR_MAXDEPTH left values (kind_operands kind)) BadKind e).0 in grind (arith, nat_tests)

pub record IsItemRead (version : ℕ) (xtarget : Bool) (left values : ℕ) (first last : Position) (kind : ℕ) : Type 0 where
  pub exact : Gave (item_at version xtarget left values) (item_in version first.bytes first.place) first last
  pub next : last.place ≡ item_end version first.bytes first.place
  pub has : HasItem version first.bytes first.place
  pub kind_is : kind ≡ num first.bytes first.place 4

pub item_read : (version : ℕ) (xtarget : Bool) (left values : ℕ) (q0 q1 q2 q3 q4 : Position) (kind attr op : ℕ)
    → Gave (number CONSTRAINT_KIND 4) kind q0 q1 → kind_test left values kind ≡ None
    → Gave (number CONSTRAINT_ATTR 4) attr q1 q2 → attr_test xtarget kind attr ≡ None
    → Gave (number CONSTRAINT_OP 4) op q2 q3 → op_test kind op ≡ None
    → Gave (sets_at version kind) (names_in kind q3.bytes q3.place, types_in version kind q3.bytes q3.place) q3 q4
    → q4.place ≡ sets_end version kind q3.bytes q3.place → (q3.place ≤ length q3.bytes → q4.place ≤ length q3.bytes) → HasSets version kind q3.bytes q3.place
    → IsItemRead version xtarget left values q0 q4 kind
unfolding item_at
item_read version xtarget left values q0 q1 q2 q3 q4 kind attr op e1 t1 e2 t2 e3 t3 e4 next long has =
    let bytes = q0.bytes in
    let b2 : q2.bytes ≡ bytes = e2.1 ∙ e1.1 in
    let b3 : q3.bytes ≡ bytes = e3.1 ∙ b2 in
    let r2 : number CONSTRAINT_ATTR 4 bytes q1.place ≡ Got attr q2.place = rw (← e1.1) e2.0 in
    let r3 : number CONSTRAINT_OP 4 bytes q2.place ≡ Got op q3.place = rw (← b2) e3.0 in
    let n1 = number_is CONSTRAINT_KIND 4 bytes q0.place kind q1.place e1.0 in
    let n2 = number_is CONSTRAINT_ATTR 4 bytes q1.place attr q2.place r2 in
    let n3 = number_is CONSTRAINT_OP 4 bytes q2.place op q3.place r3 in
    let place : q3.place ≡ q0.place + 12 = omega (arith, n1.1, n2.1, n3.1) in
    let here : q3 ≡ record { bytes = bytes; place = q0.place + 12 } = ap (λ (b : List ℕ). record { bytes = b; place = q3.place }) b3 ∙ ap (λ (p : ℕ). record { bytes = bytes; place = p }) place in
    let attr-is : attr ≡ num bytes (q0.place + 4) 4 = n2.0 ∙ ap (λ (p : ℕ). num bytes p 4) n1.1 in
    let op-is : op ≡ num bytes (q0.place + 8) 4 = n3.0 ∙ ap (λ (p : ℕ). num bytes p 4) (omega (arith, n1.1, n2.1)) in
    let same : record { kind = kind; attr = attr; op = op; names = names_in kind q3.bytes q3.place; type_set = types_in version kind q3.bytes q3.place } ≡ item_in version bytes q0.place =
    ap (λ (x : ℕ). record { kind = x; attr = attr; op = op; names = names_in x q3.bytes q3.place; type_set = types_in version x q3.bytes q3.place }) n1.0
    ∙ ap (λ (x : ℕ). record { kind = num bytes q0.place 4; attr = x; op = op; names = names_in (num bytes q0.place 4) q3.bytes q3.place; type_set = types_in version (num bytes q0.place 4) q3.bytes q3.place }) attr-is
    ∙ ap (λ (x : ℕ). record { kind = num bytes q0.place 4; attr = num bytes (q0.place + 4) 4; op = x; names = names_in (num bytes q0.place 4) q3.bytes q3.place; type_set = types_in version (num bytes q0.place 4) q3.bytes q3.place }) op-is
    ∙ ap (λ (q : Position). record { kind = num bytes q0.place 4; attr = num bytes (q0.place + 4) 4; op = num bytes (q0.place + 8) 4; names = names_in (num bytes q0.place 4) q.bytes q.place; type_set = types_in version (num bytes q0.place 4) q.bytes q.place }) here in
    let rest : ℕ → ℕ → ℕ → ℕ → Outcome ConstraintItem = λ kind attr op p. and_then (sets_at version kind bytes p) (λ sets k. Got (record { kind = kind; attr = attr; op = op; names = sets.0; type_set = sets.1 }) k) in
    let whole =
    ap (λ (o : Outcome ℕ). and_then o (λ kind m. and_then (and_then (number CONSTRAINT_ATTR 4 bytes m) (λ x k. judged (attr_test xtarget kind x) CONSTRAINT_ATTR x m k)) (λ attr n. and_then (and_then (number CONSTRAINT_OP 4 bytes n) (λ x k. judged (op_test kind x) CONSTRAINT_OP x n k)) (λ op p. rest kind attr op p)))) (kept CONSTRAINT_KIND (kind_test left values) (number CONSTRAINT_KIND 4 bytes q0.place) q0.place kind q1.place e1.0 t1)
    ∙ ap (λ (o : Outcome ℕ). and_then o (λ attr n. and_then (and_then (number CONSTRAINT_OP 4 bytes n) (λ x k. judged (op_test kind x) CONSTRAINT_OP x n k)) (λ op p. rest kind attr op p))) (kept CONSTRAINT_ATTR (attr_test xtarget kind) (number CONSTRAINT_ATTR 4 bytes q1.place) q1.place attr q2.place r2 t2)
    ∙ ap (λ (o : Outcome ℕ). and_then o (λ op p. rest kind attr op p)) (kept CONSTRAINT_OP (op_test kind) (number CONSTRAINT_OP 4 bytes q2.place) q2.place op q3.place r3 t3)
    ∙ ap (λ (b : List ℕ). and_then (sets_at version kind b q3.place) (λ sets k. Got (record { kind = kind; attr = attr; op = op; names = sets.0; type_set = sets.1 }) k)) (sym b3)
    ∙ ap (λ (o : Outcome (Option (List Node) × Option TypeSet)). and_then o (λ sets k. Got (record { kind = kind; attr = attr; op = op; names = sets.0; type_set = sets.1 }) k)) e4.0
    ∙ ap (λ (x : ConstraintItem). Got x q4.place) same in
    let ends : q4.place ≡ item_end version bytes q0.place = next ∙ ap (λ (x : ℕ). sets_end version x q3.bytes q3.place) n1.0 ∙ ap (λ (q : Position). sets_end version (num bytes q0.place 4) q.bytes q.place) here in
    let short : q4.place ≤ length bytes = rw (← b3) (long (rw b3 (n3.2))) in
    record {
      exact = (whole, e4.1 ∙ b3);
      next = ends;
      has = (omega (arith, place, n3.2), subst (λ (k : ℕ). 1 ≤ k) n1.0 (kind_known left values kind t1), subst (λ (q : Position). HasSets version (num bytes q0.place 4) q.bytes q.place) here (subst (λ (k : ℕ). HasSets version k q3.bytes q3.place) n1.0 has), rw (← ends) short);
      kind_is = n1.0;
    }
