use Rattle.std.proofs.Common.{◌≡◌, ◌+◌, ◌++◌, ℕ, List, take, sym, ap, subst, ◌∙◌}
use Rattle.std.specs.Prelude.{◌||◌}
use Rattle.std.specs.List.{Contains, list_any}
use Rattle.std.proofs.lemmas.List.{take-append-drop}
use Rattle.std.proofs.lemmas.Result.{IfOk-weaker}
use Rattle.pol_bitmap.specs.declared.Node.{Node}
use Rattle.pol_bitmap.specs.Nodes.{bits_of}
use Rattle.pol_file.specs.declared.Parts.{Parts}
use Rattle.value_groups.specs.Among.{is_among}
use Rattle.value_groups.specs.Inner.Marking.{MarkedValues}
use Rattle.rules_between.specs.ChosenRules.{AreRulesFrom, ChosenRules}
use Rattle.rule_grants.specs.Grants.{granting_rules}
use Rattle.rule_grants.specs.Names.{file, execute}
use Rattle.dom_trans.specs.DefaultRules.{default_rules}
use Rattle.dom_trans.specs.Inner.Targets.{AreEntered, enters_by}
use Rattle.dom_trans.proofs.Defaults.{all_parts, from_are_defaults, nothing_left, part_added, sorted_from}
use Rattle.dom_trans.proofs.FoundTargets.{entered_by_defaults, executes_types}
use Rattle.dom_trans.proofs.dom_rules.DomRules.entered_by_default.Goals as goal

pub loop-left-init : goal.loop-left-init
loop-left-init c =
    let rules = c.args.self.now in
    let from = subst (λ (r : ChosenRules). AreRulesFrom r.policy r.rules c.args.a c.in_ok-numbers.numbers.items) c.list.ensures c.in_ok-numbers.ensures in
    let sorted = sorted_from rules c.args.a c.in_ok-numbers.numbers.items c.sort_by_default.new.numbers.items c.as_slice-left.result.now from c.sort_by_default.ensures.same c.as_slice-left.ensures.value in (
      ap (λ (m : MarkedValues). m.count) c.in_ok-found.ensures ∙ ap (λ (n : ℕ). n + 1) (c.type_count.ensures.count ∙ ap (λ (p : Parts). p.symbols.types.nprim) c.policy.ensures),
      from_are_defaults rules c.args.a c.as_slice-left.result.now sorted,
      λ b. ap (λ (m : MarkedValues). is_among m.values b || list_any (enters_by rules (bits_of c.args.source.now.executable) b) c.as_slice-left.result.now) c.in_ok-found.ensures,
    )

pub add_default-requires-clause-rules : goal.add_default-requires-clause-rules
add_default-requires-clause-rules c =
    let left = c.loop-left.left.now in
    let mid = c.count_alike.result in
    let whole : c.split_at.result.0.now ++ c.split_at.result.1.now ≡ left = ap (λ (xs : List ℕ). xs ++ c.split_at.result.1.now) c.split_at.ensures.front ∙ ap (λ (xs : List ℕ). take mid left ++ xs) c.split_at.ensures.back ∙ take-append-drop mid left in
    (all_parts (Contains (default_rules c.args.self.now)) c.split_at.result.0.now c.split_at.result.1.now left whole c.loop-left.invariant.1).0

pub add_default-requires-clause-within : goal.add_default-requires-clause-within
add_default-requires-clause-within c = executes_types c.args.self.now.policy (granting_rules c.args.self.now file execute) c.args.a (bits_of c.args.source.now.executable) c.requires.source.executes

pub loop-left-preserved : goal.loop-left-preserved
loop-left-preserved c =
    let rules = c.args.self.now in
    let left = c.loop-left.left.now in
    let mid = c.count_alike.result in
    let front = c.split_at.result.0.now in
    let rest = c.split_at.result.1.now in
    let whole : front ++ rest ≡ left = ap (λ (xs : List ℕ). xs ++ rest) c.split_at.ensures.front ∙ ap (λ (xs : List ℕ). take mid left ++ xs) c.split_at.ensures.back ∙ take-append-drop mid left in (
      c.in_ok-add_default.ensures.count ∙ c.loop-left.invariant.0,
      (all_parts (Contains (default_rules rules)) front rest left whole c.loop-left.invariant.1).1,
      λ b.
          part_added (enters_by rules (bits_of c.args.source.now.executable) b) front rest left (is_among c.loop-left.found.values b) (is_among c.add_default.new.found.values b) whole (c.in_ok-add_default.ensures.each b)
          ∙ c.loop-left.invariant.2 b,
    )

pub returns : goal.returns
returns c =
    let rules = c.args.self.now in
    let source = c.args.source.now in
    let numbers = c.as_slice-left.result.now in
    let found = c.loop-left.found.values in
    let left = c.loop-left.left.now in
    let from = subst (λ (r : ChosenRules). AreRulesFrom r.policy r.rules c.args.a c.in_ok-numbers.numbers.items) c.list.ensures c.in_ok-numbers.ensures in
    let sorted = sorted_from rules c.args.a c.in_ok-numbers.numbers.items c.sort_by_default.new.numbers.items numbers from c.sort_by_default.ensures.same c.as_slice-left.ensures.value in
    let says = λ (b : ℕ). nothing_left (enters_by rules (bits_of source.executable) b) left (is_among found b) (sym c.is_empty.ensures ∙ c.loop-left-test.false) ∙ c.loop-left.invariant.2 b in
    IfOk-weaker c.to_set.result (λ (set : List Node). bits_of set ≡ found) (λ (set : List Node). AreEntered rules c.args.a (bits_of set))
    (λ set is. subst (AreEntered rules c.args.a) (sym is) (entered_by_defaults rules c.args.a source.executable source.setexec source.setcurrent numbers found c.requires.source c.requires.without sorted says))
    c.to_set.ensures.bits
