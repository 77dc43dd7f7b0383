use Rattle.std.proofs.Common.{◌≡◌, ◌∙◌, Bool, Some, true, sym, ap}
use Rattle.std.specs.Prelude.{◌==◌}
use Rattle.std.specs.List.{IsDistinct}
use Rattle.pol_avtab.specs.Inner.DuplicateKeys.{words_of}
use Rattle.pol_avtab.proofs.EvenRules.{read_if}
use Rattle.pol_avtab.proofs.av_table.read_even.Goals as goal
use Rattle.pol_avtab.proofs.av_table.read_even.Goals.{then-rising, else-rising+in_ok-distinct}

pub returns : goal.returns
returns c version =
    let distinct : c.if-rising.distinct ≡ true → IsDistinct ◌==◌ (words_of c.in-Some.table) = elim c.if-rising.branch [
      | then-rising w ↦ λ e. c.in-Some.ensures.rising c.in-Some.table (ap (λ (b : Bool). Some (c.in-Some.table, b)) w.if-rising.true)
      | else-rising+in_ok-distinct w ↦ λ e. w.in_ok-distinct.ensures (sym w.distinct-is ∙ e)
    ] in
    rw c.then_some.ensures (read_if version c.args.n c.args.c.now c.read_even_rules.new.c c.in-Some.table c.if-rising.distinct (c.in-Some.ensures.read version) distinct)
