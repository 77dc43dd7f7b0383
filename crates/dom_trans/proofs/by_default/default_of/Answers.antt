use Rattle.std.proofs.Common.{◌≡◌, ℕ, sym, ap, ◌∙◌, refl}
use Rattle.std.specs.Prelude.{nat_le, if◌then◌else◌}
use Rattle.pol_read.specs.declared.RulePart.{RulePart}
use Rattle.pol_read.specs.declared.RulePart.TheVariants.{Default}
use Rattle.pol_read.specs.StoredRules.{stored}
use Rattle.dom_trans.specs.Inner.ByDefault.{part_default}
use Rattle.dom_trans.proofs.Grouped.{value_of}
use Rattle.dom_trans.proofs.by_default.default_of.Goals as goal

other_part : (most : ℕ) (part : RulePart) → ((value : ℕ) → part ≡ Default value → ⊥) → part_default most part ≡ 0
other_part most (Default value) not = absurd (not value refl)
other_part most part not = refl

pub returns-in-Default : goal.returns-in-Default
returns-in-Default c =
    let policy = c.args.policy.now in
    c.value_up_to.ensures
    ∙ ap (λ (most : ℕ). if nat_le c.in-Default.b most then c.in-Default.b else 0) c.type_count.ensures.count
    ∙ sym (ap (part_default policy.symbols.types.nprim) c.in-Default.is)
    ∙ value_of policy c.args.number (stored c.rule.result) c.rule.ensures.is

pub returns-in_default : goal.returns-in_default
returns-in_default c =
    let policy = c.args.policy.now in
    sym (other_part policy.symbols.types.nprim c.rule.result.part c.in_default.not-Default) ∙ value_of policy c.args.number (stored c.rule.result) c.rule.ensures.is
