use Rattle.std.proofs.Common.{◌≡◌, ◌<◌, ◌+◌, ◌-◌, ◌%◌, length, arith}
use Rattle.pol_bitmap.proofs.SetMaking.{LastIs, gains_node, gains_list, last_is, joins_last}
use Rattle.pol_bitmap.proofs.set_build.add_bit.Goals as goal
use Rattle.pol_bitmap.proofs.set_build.add_bit.Goals.{then-count-eq0-via-then-count-eq0, then-count-eq0-via-else-count-eq0+then-index-start}

pub returns-then-count-eq0 : goal.returns-then-count-eq0
returns-then-count-eq0 c =
    let old = c.args.nodes.now.items in
    let bit = c.args.bit in
    let all : c.len-count.result ≡ length old = omega (arith, c.args.nodes.now.ok) in
    let last : LastIs (λ n. n.start < bit - bit % 64) old =
    elim c.then-count-eq0.branch [
      | then-count-eq0-via-then-count-eq0 w ↦ λ i d e. absurd (omega (arith, w.if-count-eq0.true))
      | then-count-eq0-via-else-count-eq0+then-index-start w ↦ last_is (λ n. n.start < bit - bit % 64) old (c.len-count.result - 1) w.index.result.now (omega (arith, w.if-count-eq0.false)) w.index.ensures w.if-index-start.true
    ] in
    let gains = gains_node bit old (omega arith) c.requires.set last in
    rw c.in_ok-push.ensures.items (record { set = gains.is_set; bits = gains_list bit old _ c.requires.set c.requires.above gains })

pub returns : goal.returns
returns c =
    let old = c.args.nodes.now.items in
    let all : c.len-count.result ≡ length old = omega (arith, c.args.nodes.now.ok) in
    let last : c.len-count.result - 1 + 1 ≡ length old = omega (arith, c.if-count-eq0.false) in
    let gains = joins_last c.args.bit old (c.len-count.result - 1) c.index.result.now c.index_mut.result.now last c.requires.set c.requires.above c.index.ensures c.index_mut.ensures.value c.if-index-start.false in
    record { set = gains.is_set; bits = gains_list c.args.bit old _ c.requires.set c.requires.above gains }
