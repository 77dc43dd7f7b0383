use Rattle.std.proofs.Common.{◌≡◌, ℕ, ◌+◌, ◌<◌, ◌≤◌, Bool, true, false, ◌||◌, Option, sym, ap, ◌∙◌, arith}
use Rattle.std.proofs.lemmas.List.Elements.{All-same, All-weaker}
use Rattle.pol_bitmap.specs.Nodes.{bits_of}
use Rattle.pol_datums.specs.declared.Flavour.TheVariants.{Attribute}
use Rattle.pol_symbols.specs.declared.Symbols.{Symbols}
use Rattle.pol_symbols.specs.PolicySymbols.{flavour_in}
use Rattle.pol_expand.specs.Flavours.{is_flavour}
use Rattle.pol_expand.specs.PolicyMap.{expand, has_flavour}
use Rattle.pol_expand.proofs.Holders.{end_declared, expands_within, held_among, holds_itself}
use Rattle.value_groups.specs.Among.{is_among}
use Rattle.se_checker.specs.Members.{value_holds}
use Rattle.se_checker.proofs.NamedTypes.{attribute_is_end, named_is_value}
use Rattle.se_checker.proofs.named_types.add_members.Goals as goal

pub expansion-requires : goal.expansion-requires
expansion-requires c =
    let policy = c.args.policy.now in
    let value = c.in-Some.value in
    let within = named_is_value c.is_accepted.ensures.accepted.0 policy c.args.name.now value c.is_accepted.ensures.accepted.1 (sym (rw c.symbols.ensures at c.in-Some.ensures)) in
    let attribute : has_flavour policy.symbols Attribute value ≡ true = ap (is_flavour Attribute) (sym (c.flavour.ensures ∙ ap (λ (s : Symbols). flavour_in s value) c.symbols-2.ensures)) ∙ sym c.is_flavour.ensures ∙ c.if-is_flavour.true in
    end_declared policy c.args.types.now value c.requires.map (attribute_is_end policy value within attribute)

pub add_set-requires : goal.add_set-requires
add_set-requires c =
    let policy = c.args.policy.now in
    let value = c.in-Some.value in
    let within = named_is_value c.is_accepted.ensures.accepted.0 policy c.args.name.now value c.is_accepted.ensures.accepted.1 (sym (rw c.symbols.ensures at c.in-Some.ensures)) in
    let attribute : has_flavour policy.symbols Attribute value ≡ true = ap (is_flavour Attribute) (sym (c.flavour.ensures ∙ ap (λ (s : Symbols). flavour_in s value) c.symbols-2.ensures)) ∙ sym c.is_flavour.ensures ∙ c.if-is_flavour.true in
    let end = attribute_is_end policy value within attribute in
    let bits = c.in_ok-members.ensures.bits ∙ c.requires.map.expands value (end_declared policy c.args.types.now value c.requires.map end) in
    All-same (λ type. type < c.args.found.now.count) (bits_of c.in_ok-members.members) (expand policy value) bits
    (All-weaker (λ type. (1 ≤ type) × (type < 1 + policy.symbols.types.nprim)) (λ type. type < c.args.found.now.count) (λ type w. omega (arith, w.1, c.requires.count)) (expand policy value) (expands_within policy value end))

pub add-requires : goal.add-requires
add-requires c =
    let within = named_is_value c.is_accepted.ensures.accepted.0 c.args.policy.now c.args.name.now c.in-Some.value c.is_accepted.ensures.accepted.1 (sym (rw c.symbols.ensures at c.in-Some.ensures)) in
    omega (arith, within.1, c.requires.count)

pub returns-in_ok-members-clause-each : goal.returns-in_ok-members-clause-each
returns-in_ok-members-clause-each c type =
    let policy = c.args.policy.now in
    let value = c.in-Some.value in
    let old = c.args.found.now.values in
    let within = named_is_value c.is_accepted.ensures.accepted.0 policy c.args.name.now value c.is_accepted.ensures.accepted.1 (sym (rw c.symbols.ensures at c.in-Some.ensures)) in
    let attribute : has_flavour policy.symbols Attribute value ≡ true = ap (is_flavour Attribute) (sym (c.flavour.ensures ∙ ap (λ (s : Symbols). flavour_in s value) c.symbols-2.ensures)) ∙ sym c.is_flavour.ensures ∙ c.if-is_flavour.true in
    let bits = c.in_ok-members.ensures.bits ∙ c.requires.map.expands value (end_declared policy c.args.types.now value c.requires.map (attribute_is_end policy value within attribute)) in
    c.add_set.ensures.each type
    ∙ ap (λ (b : Bool). is_among old type || b) (held_among policy value type (bits_of c.in_ok-members.members) bits)
    ∙ ap (λ (found : Option ℕ). is_among old type || value_holds policy found type) (rw c.symbols.ensures at c.in-Some.ensures)

pub returns-else-is_flavour-clause-each : goal.returns-else-is_flavour-clause-each
returns-else-is_flavour-clause-each c type =
    let policy = c.args.policy.now in
    let value = c.in-Some.value in
    let old = c.args.found.now.values in
    let other : has_flavour policy.symbols Attribute value ≡ false = ap (is_flavour Attribute) (sym (c.flavour.ensures ∙ ap (λ (s : Symbols). flavour_in s value) c.symbols-2.ensures)) ∙ sym c.is_flavour.ensures ∙ c.if-is_flavour.false in
    c.add.ensures.each type
    ∙ ap (λ (b : Bool). is_among old type || b) (holds_itself policy value type other)
    ∙ ap (λ (found : Option ℕ). is_among old type || value_holds policy found type) (rw c.symbols.ensures at c.in-Some.ensures)
