use Rattle.std.proofs.Common.{◌≡◌, ◌<◌, ◌+◌, ◌-◌, [], ℕ, suc, List, arith, ap, sym, subst, ◌∙◌, length, get_or, set}
use Rattle.std.specs.Prelude.{slice_index}
use Rattle.std.specs.List.{filter}
use Rattle.std.proofs.lemmas.List.{get_or_default}
use Rattle.std.proofs.Math.ListN.{length-set}
use Rattle.pol_bitmap.specs.Nodes.{bits_of}
use Rattle.walk_enum.specs.Inner.Turns.{row_of}
use Rattle.walk_enum.specs.Inner.Cutting.{Cuts, AreLeading, goes_on}
use Rattle.walk_enum.proofs.Cuts.{cuts_more}
use Rattle.walk_enum.proofs.cutting.cut.Goals as goal

pub loop-back-preserved : goal.loop-back-preserved
loop-back-preserved c =
    let f = c.args.found.now in
    let to = c.args.to in
    let depths = f.depths.items in
    let queue = f.queue.items in
    let rows = f.rows.items in
    let kept = c.loop-back.kept.items in
    let back = c.loop-back.back in
    let n = length rows in
    let q = n - (back + 1) in
    let place = c.len-count.result - 1 - back in
    let lt : q < n = omega (arith, c.loop-back-test.true, c.len-count.ensures, f.rows.ok) in
    let at : place ≡ q = omega (arith, c.len-count.ensures, f.rows.ok) in
    let later : n - back ≡ suc q = omega (arith, c.loop-back-test.true, c.len-count.ensures, f.rows.ok) in
    let a = slice_index queue q in
    let node : c.index-node.result.now ≡ a = c.index-node.ensures ∙ ap (λ (i : ℕ). get_or queue i c.index-node.result.now) at ∙ get_or_default queue q c.index-node.result.now 0 (omega (arith, lt, c.requires.queue)) in
    let within : a < length kept = omega (arith, c.requires.fits q 0 (omega (arith, lt, c.requires.queue)), c.loop-back.invariant.long) in
    let row : c.index-row.result.now ≡ row_of rows q = c.index-row.ensures ∙ ap (λ (i : ℕ). get_or rows i c.index-row.result.now) at ∙ get_or_default rows q c.index-row.result.now [] lt in
    let made : c.cut_node.new.kept.items ≡ set kept a (filter (goes_on depths kept to (slice_index depths a + 1)) (row_of rows q)) =
    c.in_ok-cut_node.ensures.kept
    ∙ ap (λ (d : List ℕ). set kept c.index-node.result.now (filter (goes_on d kept to (slice_index d c.index-node.result.now + 1)) c.index-row.result.now)) c.deref.ensures.value
    ∙ ap (λ (b : ℕ). set kept b (filter (goes_on depths kept to (slice_index depths b + 1)) c.index-row.result.now)) node
    ∙ ap (λ (r : List ℕ). set kept a (filter (goes_on depths kept to (slice_index depths a + 1)) r)) row in
    let new = c.cut_node.new.leading in
    record {
      long = ap length made ∙ length-set kept a (filter (goes_on depths kept to (slice_index depths a + 1)) (row_of rows q)) ∙ c.loop-back.invariant.long;
      cut = λ next nodes from e end some.
          let was : Cuts next to depths queue kept n (suc q) = subst (Cuts next to depths queue kept n) later (c.loop-back.invariant.cut next nodes from e end some) in
          let is : c.cut_node.new.kept.items ≡ set kept a (filter (goes_on depths kept to (slice_index depths a + 1)) (next a)) = made ∙ ap (λ (r : List ℕ). set kept a (filter (goes_on depths kept to (slice_index depths a + 1)) r)) (e.asked q lt) in
          subst (λ (k : List (List ℕ)). Cuts next to depths queue k n q) (sym is) (cuts_more next nodes from to depths queue rows n e end some kept q lt was within);
      leading = subst (λ (d : List ℕ). AreLeading d c.cut_node.new.kept.items to (bits_of new.set) new.others.items new.deepest) c.deref.ensures.value c.in_ok-cut_node.ensures.leading;
    }

pub returns : goal.returns
returns c = λ next nodes from e end some.
    let f = c.args.found.now in
    let n = length f.rows.items in
    let none : n - c.loop-back.back ≡ 0 = omega (arith, c.loop-back-test.false, c.len-count.ensures, f.rows.ok) in
    subst (Cuts next c.args.to f.depths.items f.queue.items c.loop-back.kept.items n) none (c.loop-back.invariant.cut next nodes from e end some)
