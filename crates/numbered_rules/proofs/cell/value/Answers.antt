use Rattle.std.proofs.Common.{◌≡◌, length, sym, ◌∙◌, arith}
use Rattle.numbered_rules.proofs.FormFacts.{entry_missing, entry_there, items_within, value_none, value_some}
use Rattle.numbered_rules.proofs.cell.value.Goals as goal

pub union_of-requires : goal.union_of-requires
union_of-requires c =
    items_within c.args.pool.now c.args.key c.args.forms.now c.deref.result.now c.requires (c.deref.ensures.value ∙ c.in_ok-sets.ensures)

pub returns-then-len-eq0 : goal.returns-then-len-eq0
returns-then-len-eq0 c =
    sym (value_none c.args.counting c.args.pool.now c.args.key c.args.forms.now c.in_ok-sets.sets.items c.in_ok-sets.ensures (omega (arith, c.len.ensures, c.if-len-eq0.true)))

pub returns-then-is_entry : goal.returns-then-is_entry
returns-then-is_entry c =
    let some : length c.deref.result.now ≡ 0 → ⊥ = λ none. c.if-len-eq0.false (omega (arith, c.len.ensures, c.deref.ensures.len, none)) in
    entry_there c.args.counting _ (sym (c.if-is_entry.ensures c.args.key))
    ∙ sym (value_some c.args.counting c.args.pool.now c.args.key c.args.forms.now c.deref.result.now _ _ (c.deref.ensures.value ∙ c.in_ok-sets.ensures) some c.in_ok-given.ensures.bits c.in_ok-counted.ensures)

pub returns : goal.returns
returns c =
    let some : length c.deref.result.now ≡ 0 → ⊥ = λ none. c.if-len-eq0.false (omega (arith, c.len.ensures, c.deref.ensures.len, none)) in
    entry_missing c.args.counting _ (sym (c.if-is_entry.ensures c.args.key))
    ∙ sym (value_some c.args.counting c.args.pool.now c.args.key c.args.forms.now c.deref.result.now _ _ (c.deref.ensures.value ∙ c.in_ok-sets.ensures) some c.in_ok-given.ensures.bits c.in_ok-counted.ensures)
