use Rattle.std.proofs.Common.{◌≡◌, ◌∙◌, ℕ, IfOk, List, subst}
use Rattle.std.specs.List.{filter}
use Rattle.pol_bitmap.specs.Nodes.{bits_of}
use Rattle.rule_query.proofs.TypeEnds.{in_map}
use Rattle.rule_singles.specs.Inner.EndSets.{leaves}
use Rattle.rule_singles.proofs.end_sets.expansion_left.Goals as goal

pub expansion-requires : goal.expansion-requires
expansion-requires c = in_map c.is_accepted.ensures.accepted.0 c.args.policy.now c.args.types.now c.args.value c.is_accepted.ensures.accepted.1 c.requires.map c.requires.declared

pub returns : goal.returns
returns c =
    let declared = in_map c.is_accepted.ensures.accepted.0 c.args.policy.now c.args.types.now c.args.value c.is_accepted.ensures.accepted.1 c.requires.map c.requires.declared in
    let P : List ℕ → Type 0 = λ bits. IfOk c.cut.result (λ set. bits_of set ≡ filter (leaves c.args.left.now) bits) in
    subst P (c.in_ok-set.ensures.bits ∙ c.requires.map.expands c.args.value declared) c.cut.ensures
