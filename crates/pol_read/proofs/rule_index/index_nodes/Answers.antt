use Rattle.std.proofs.Common.{◌<◌, ◌∙◌, ℕ, List, length, sum, ap, arith}
use Rattle.std.proofs.lemmas.List.FromFn.{length-map-range_with_len}
use Rattle.pol_read.specs.StoredRules.{rules_of_node}
use Rattle.pol_read.proofs.RuleSums.{room_for_node}
use Rattle.pol_read.proofs.rule_index.index_nodes.Goals as goal

pub overflow_add-when_true : goal.overflow_add-when_true
overflow_add-when_true c =
    let within : c.loop-i.i < length c.args.nodes.now = omega (arith, c.loop-i-test.true, c.len-i-end.ensures) in
    let room = room_for_node c.args.nodes.now c.loop-i.i within in
    omega (arith, room, c.requires, c.branch_len-when_true.ensures, c.branch_len-when_false.ensures)

pub push-requires-clause-limit : goal.push-requires-clause-limit
push-requires-clause-limit c =
    let within : c.loop-i.i < length c.args.nodes.now = omega (arith, c.loop-i-test.true, c.len-i-end.ensures) in
    let room = room_for_node c.args.nodes.now c.loop-i.i within in
    let so_far = ap (λ (ns : List ℕ). sum ns) c.loop-i.invariant in
    omega (arith, room, so_far, c.requires, c.branch_len-when_true.ensures, c.branch_len-when_false.ensures)

pub push-requires-clause-few : goal.push-requires-clause-few
push-requires-clause-few c =
    let nodes = c.args.nodes.now in
    let long = ap (λ (ns : List ℕ). length ns) c.loop-i.invariant ∙ length-map-range_with_len (λ j. length (rules_of_node nodes j)) 0 c.loop-i.i in
    omega (arith, long, c.loop-i-test.true, c.len-i-end.type_inv)
