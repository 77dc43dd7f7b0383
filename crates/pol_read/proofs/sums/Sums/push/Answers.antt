use Rattle.std.proofs.Common.{◌≡◌, ◌<◌, ◌≤◌, ◌+◌, ◌∷◌, [], List, ℕ, length, sum, ap, sym, ◌∙◌, arith}
use Rattle.std.proofs.lemmas.List.{length-append}
use Rattle.pol_read.specs.Inner.RunningSums.{lengths_between}
use Rattle.pol_read.proofs.EndLists.{length_between, between_push, ends_push}
use Rattle.pol_read.proofs.FirstLists.{firsts_push}
use Rattle.pol_read.proofs.sums.Sums.push.Goals as goal

pub invariant_of-self-2 : goal.invariant_of-self-2
invariant_of-self-2 c =
    let ends = c.self.inside.ends.items in
    let firsts = c.self.inside.firsts.items in
    let lengths = lengths_between 0 ends in
    let held : lengths ≡ c.args.self.now = c.self.view_is in
    let total : c.total.result ≡ sum lengths = c.total.ensures.is ∙ ap (λ (xs : List ℕ). sum xs) (sym held) in
    let limit : c.total.result + c.args.len ≤ 400000000 = omega (arith, c.total.ensures.is) in
    let long : length lengths ≡ length ends = length_between 0 ends in
    let few : length ends < 4294967295 = omega (arith, ap (λ (xs : List ℕ). length xs) held, long) in
    let list : c.len-list.result ≡ length lengths = omega (arith, c.len-list.ensures, c.self.inside.ends.ok.0, long) in
    rw (c.push_reserved.ensures.items, c.in_ok-reserve.ensures.items, c.in_ok-resize.ensures.items, c.self.inside.firsts.ok.0, list) (
      ends_push ends c.total.result c.args.len c.self.invariant.0 total limit,
      omega (arith, few, length-append ends ((c.total.result + c.args.len) ∷ [])),
      rw (between_push ends c.total.result c.args.len c.self.invariant.0 total)
          (firsts_push lengths firsts c.args.len c.div_ceil.result c.self.invariant.2 (omega (arith, c.div_ceil.ensures, total)) (omega (arith, c.div_ceil.ensures, total))),
    )
