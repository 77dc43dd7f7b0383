use Rattle.std.proofs.Common.{◌+◌, take, subst, sym, ap, refl, ◌∙◌, false}
use Rattle.numbered_rules.specs.Forms.{HaveSets}
use Rattle.numbered_rules.specs.Inner.Blocks.{AreOfBlock}
use Rattle.numbered_rules.proofs.BlockFacts.{one_kept, one_passed, sets_pushed}
use Rattle.numbered_rules.proofs.Tests.{false_or_true}
use Rattle.numbered_rules.proofs.block.forms_in.Goals.{then-meets_block+in_ok-push, else-meets_block}
use Rattle.numbered_rules.proofs.block.forms_in.Goals as goal

pub loop-form-preserved : goal.loop-form-preserved
loop-form-preserved c = elim c.if-meets_block.branch [
  | then-meets_block+in_ok-push w ↦
      subst (λ fs. HaveSets c.args.pool.now fs × AreOfBlock c.args.pool.now c.args.block (take (c.loop-form.form-index + 1) c.args.forms.now) fs) (sym (ap (λ v. v.items) w.found-is ∙ w.in_ok-push.ensures.items)) (
        sets_pushed c.args.pool.now c.args.forms.now c.loop-form.found.items c.loop-form.form-index _ c.loop-form-test.true c.requires.sets c.loop-form.invariant.0,
        one_kept c.args.pool.now c.args.block c.args.forms.now c.loop-form.found.items c.loop-form.form-index _ c.loop-form-test.true c.loop-form.invariant.1,
      )
  | else-meets_block w ↦
      subst (λ fs. HaveSets c.args.pool.now fs × AreOfBlock c.args.pool.now c.args.block (take (c.loop-form.form-index + 1) c.args.forms.now) fs) (sym (ap (λ v. v.items) w.found-is)) (
        c.loop-form.invariant.0,
        one_passed c.args.pool.now c.args.block c.args.forms.now c.loop-form.found.items c.loop-form.form-index _ c.loop-form-test.true c.loop-form.invariant.1
            (λ n e h. false_or_true false (w.if-meets_block.ensures n e h) refl),
      )
]
