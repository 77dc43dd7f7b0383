use Rattle.std.proofs.Common.{◌≡◌, ◌+◌, ◌<◌, ◌≤◌, Bool, true, ap, sym, ◌∙◌, arith}
use Rattle.std.specs.Prelude.{◌||◌}
use Rattle.std.proofs.lemmas.List.Elements.{All-same, All-weaker}
use Rattle.pol_bitmap.specs.Nodes.{bits_of}
use Rattle.pol_expand.specs.PolicyMap.{expand}
use Rattle.value_groups.specs.Among.{is_among}
use Rattle.pol_expand.specs.PlainTypes.{is_type_value}
use Rattle.pol_expand.proofs.Holders.{end_declared, expands_within, held_alone, held_among}
use Rattle.pol_expand.proofs.TypesOutside.{type_within}
use Rattle.pol_expand.proofs.stored_ends.add_types.Goals as goal

pub add-requires : goal.add-requires
add-requires c =
    let is : is_type_value c.args.policy.now c.args.end ≡ true = sym c.is_type.ensures ∙ c.if-is_type.true in
    omega (arith, (type_within c.args.policy.now c.args.end is).1, c.requires.count)

pub returns-then-is_type-clause-each : goal.returns-then-is_type-clause-each
returns-then-is_type-clause-each c type =
    let is : is_type_value c.args.policy.now c.args.end ≡ true = sym c.is_type.ensures ∙ c.if-is_type.true in
    c.add.ensures.each type ∙ ap (λ (b : Bool). is_among c.args.found.now.values type || b) (held_alone c.args.policy.now c.args.end type is)

pub expansion-requires : goal.expansion-requires
expansion-requires c = end_declared c.args.policy.now c.args.types.now c.args.end c.requires.map c.requires.end

pub add_set-requires : goal.add_set-requires
add_set-requires c =
    let policy = c.args.policy.now in
    let end = c.args.end in
    let bits = c.in_ok-members.ensures.bits ∙ c.requires.map.expands end (end_declared policy c.args.types.now end c.requires.map c.requires.end) in
    All-same (λ type. type < c.args.found.now.count) (bits_of c.in_ok-members.members) (expand policy end) bits
    (All-weaker (λ type. (1 ≤ type) × (type < 1 + policy.symbols.types.nprim)) (λ type. type < c.args.found.now.count) (λ type w. omega (arith, w.1, c.requires.count)) (expand policy end) (expands_within policy end c.requires.end))

pub returns-clause-each : goal.returns-clause-each
returns-clause-each c type =
    let policy = c.args.policy.now in
    let end = c.args.end in
    let bits = c.in_ok-members.ensures.bits ∙ c.requires.map.expands end (end_declared policy c.args.types.now end c.requires.map c.requires.end) in
    c.add_set.ensures.each type ∙ ap (λ (b : Bool). is_among c.args.found.now.values type || b) (held_among policy end type (bits_of c.in_ok-members.members) bits)
