use Rattle.std.proofs.Common.{◌≡◌, ℕ, List, [], take, ap, subst, ◌∙◌, arith}
use Rattle.std.specs.List.{list_any}
use Rattle.std.proofs.lemmas.List.{take_all}
use Rattle.std.proofs.lemmas.List.Elements.{All-get_or}
use Rattle.pol_bitmap.specs.Nodes.{bits_of}
use Rattle.pol_file.specs.declared.Parts.{Parts}
use Rattle.rules_between.specs.Inner.RuleTables.{HaveEnds, shares_at}
use Rattle.pol_expand.specs.Inner.StoredEnds.{IsEnd}
use Rattle.pol_expand.proofs.Holders.{passing_set}
use Rattle.rules_between.proofs.Shared.{shares_within}
use Rattle.value_groups.proofs.Adding.{front_more}
use Rattle.rules_between.proofs.chosen_rules.ChosenRules.sources_by_ends.Goals as goal

pub add_sources-requires-clause-end : goal.add_sources-requires-clause-end
add_sources-requires-clause-end c = All-get_or (IsEnd c.args.self.now.policy) c.args.ends.now c.loop-end.end-index 0 c.loop-end-test.true c.requires.ends

pub loop-end-preserved : goal.loop-end-preserved
loop-end-preserved c =
    let now = c.args.self.now in (
      c.in_ok-add_sources.ensures.count ∙ c.loop-end.invariant.0,
      front_more (λ source end. shares_at now.policy now.rules c.args.others.now.rules (bits_of c.args.targets.now) end source) c.args.ends.now c.loop-end.end-index 0 [] c.loop-end.found.values c.add_sources.new.found.values c.loop-end-test.true
          c.loop-end.invariant.1 c.in_ok-add_sources.ensures.each,
    )

pub returns : goal.returns
returns c =
    let now = c.args.self.now in
    let others = c.args.others.now in
    let types = bits_of c.args.targets.now in
    let ends = c.args.ends.now in
    let own = c.have_ends.ensures in
    let theirs = subst (λ (p : Parts). HaveEnds p others.rules) c.requires.policy c.have_ends-2.ensures in
    let whole : take c.loop-end.end-index ends ≡ ends = take_all c.loop-end.end-index ends (omega (arith, c.loop-end-test.false)) in
    passing_set c.to_set.result (λ source. list_any (λ end. shares_at now.policy now.rules others.rules types end source) ends) now.policy.symbols.types.nprim c.loop-end.found.values c.to_set.ensures.form c.to_set.ensures.bits
    (λ source. c.loop-end.invariant.1.each source ∙ ap (λ (xs : List ℕ). list_any (λ end. shares_at now.policy now.rules others.rules types end source) xs) whole)
    (λ source. shares_within now.policy now.rules own.0 own.1 others.rules theirs.0 theirs.1 types ends source own.2 theirs.2)
