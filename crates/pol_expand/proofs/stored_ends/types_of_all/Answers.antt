use Rattle.std.proofs.Common.{◌≡◌, ℕ, List, [], take, ap, ◌∙◌, arith}
use Rattle.std.specs.List.{list_any}
use Rattle.std.proofs.lemmas.List.{take_all}
use Rattle.std.proofs.lemmas.List.Elements.{All-get_or}
use Rattle.pol_expand.specs.JoinedTypes.{holds_type}
use Rattle.pol_expand.specs.Inner.StoredEnds.{IsEnd}
use Rattle.pol_expand.proofs.Holders.{held_within, passing_set}
use Rattle.value_groups.proofs.Adding.{front_more}
use Rattle.pol_expand.proofs.stored_ends.types_of_all.Goals as goal

pub add_types-requires-clause-end : goal.add_types-requires-clause-end
add_types-requires-clause-end c = All-get_or (IsEnd c.args.policy.now) c.args.ends.now c.loop-end.end-index 0 c.loop-end-test.true c.requires.ends

pub loop-end-preserved : goal.loop-end-preserved
loop-end-preserved c = (
  c.in_ok-add_types.ensures.count ∙ c.loop-end.invariant.0,
  front_more (λ type end. holds_type c.args.policy.now end type) c.args.ends.now c.loop-end.end-index 0 [] c.loop-end.found.values c.add_types.new.found.values c.loop-end-test.true c.loop-end.invariant.1 c.in_ok-add_types.ensures.each,
)

pub returns : goal.returns
returns c =
    let policy = c.args.policy.now in
    let ends = c.args.ends.now in
    let whole : take c.loop-end.end-index ends ≡ ends = take_all c.loop-end.end-index ends (omega (arith, c.loop-end-test.false)) in
    passing_set c.to_set.result (λ type. list_any (λ end. holds_type policy end type) ends) policy.symbols.types.nprim c.loop-end.found.values c.to_set.ensures.form c.to_set.ensures.bits
    (λ type. c.loop-end.invariant.1.each type ∙ ap (λ (xs : List ℕ). list_any (λ end. holds_type policy end type) xs) whole) (λ type. held_within policy ends type c.requires.ends)
