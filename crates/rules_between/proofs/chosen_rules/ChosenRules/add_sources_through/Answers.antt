use Rattle.std.proofs.Common.{Bool, List, ap, sym, ◌∙◌}
use Rattle.std.specs.Prelude.{◌||◌, ◌==◌, length}
use Rattle.std.specs.List.{filter, range_with_len}
use Rattle.pol_bitmap.specs.declared.Node.{Node}
use Rattle.pol_bitmap.specs.Nodes.{bits_of}
use Rattle.pol_file.specs.declared.Parts.{Parts}
use Rattle.value_groups.specs.Among.{is_among}
use Rattle.rules_between.specs.Inner.RuleTables.{any_at, joins_through}
use Rattle.rules_between.proofs.Shared.{both_through, nil_of, none_through, through_below}
use Rattle.rules_between.proofs.chosen_rules.ChosenRules.add_sources_through.Goals as goal

pub returns-then-is_empty-clause-each : goal.returns-then-is_empty-clause-each
returns-then-is_empty-clause-each c source =
    let now = c.args.self.now in
    let ends = c.have_ends.ensures in
    let none = ap bits_of (nil_of c.in_ok-own.own (ap (λ (nodes : List Node). length nodes == 0) (sym c.nodes.ensures.nodes) ∙ sym c.is_empty.ensures ∙ c.if-is_empty.true)) in
    none_through now.policy now.rules ends.0 ends.1 c.args.others.now.rules (bits_of c.args.targets.now) c.args.end source (bits_of c.in_ok-own.own) (is_among c.args.found.now.values source) ends.2 c.in_ok-own.ensures none

pub add_set-requires : goal.add_set-requires
add_set-requires c =
    let now = c.args.self.now in
    through_below now.policy (any_at now.policy now.rules c.args.end) (bits_of c.in_ok-own.own) (bits_of c.in_ok-theirs.theirs) (bits_of c.in_ok-both.both) c.args.found.now.count c.in_ok-own.ensures c.in_ok-both.ensures.bits c.requires.count

pub returns-clause-each : goal.returns-clause-each
returns-clause-each c source =
    let now = c.args.self.now in
    let others = c.args.others.now in
    let types = bits_of c.args.targets.now in
    let ends = c.have_ends.ensures in
    let theirs = c.in_ok-theirs.ensures ∙ ap (λ (p : Parts). filter (joins_through p others.rules types c.args.end) (range_with_len 1 p.symbols.types.nprim)) c.requires.policy in
    c.add_set.ensures.each source
    ∙ ap (λ (b : Bool). is_among c.args.found.now.values source || b)
    (both_through now.policy now.rules ends.0 ends.1 others.rules types c.args.end source (bits_of c.in_ok-own.own) (bits_of c.in_ok-theirs.theirs) (bits_of c.in_ok-both.both) ends.2 c.in_ok-own.ensures theirs c.in_ok-both.ensures.bits)
