use Rattle.std.proofs.Common.{sym, ap, ◌∙◌, ◌/◌, eq-eqb}
use Rattle.pol_bitmap.specs.Nodes.{bits_of}
use Rattle.numbered_rules.specs.NumberedRules.{has}
use Rattle.numbered_rules.proofs.SetFacts.{set_at}
use Rattle.numbered_rules.proofs.BlockFacts.{least_in_block, none_in_block}
use Rattle.numbered_rules.proofs.block.meets_block.Goals as goal

pub returns-in-Some : goal.returns-in-Some
returns-in-Some c n is there =
    eq-eqb (c.in-Some.found / 64) c.args.block (least_in_block (bits_of c.get.result.now) c.args.block n c.in-Some.found is
    (ap (λ ns. has ns n) (sym (set_at c.args.pool.now c.args.set c.get.result.now c.get.ensures)) ∙ there) c.in-Some.ensures.some)

pub returns-in-None : goal.returns-in-None
returns-in-None c n is there =
    absurd (none_in_block (bits_of c.get.result.now) c.args.block n is
    (ap (λ ns. has ns n) (sym (set_at c.args.pool.now c.args.set c.get.result.now c.get.ensures)) ∙ there) c.in-None.ensures.none)
