use Rattle.std.proofs.Common.{◌≡◌, ◌+◌, ◌++◌, ◌∷◌, [], List, ℕ, Bool, true, false, cond, sym, ap, ◌∙◌, append-nil, arith}
use Rattle.std.specs.List.{filter, range_with_len}
use Rattle.pol_cursor.proofs.Ranges.{filter_range_one}
use Rattle.pol_expand.specs.Flavours.{is_flavour}
use Rattle.pol_expand.specs.PolicyMap.{has_flavour}
use Rattle.pol_expand.proofs.policy_map.flavoured_values.Goals as goal
use Rattle.pol_expand.proofs.policy_map.flavoured_values.Goals.{then-is_flavour+in_ok-push, else-is_flavour}

pub loop-i-preserved : goal.loop-i-preserved
loop-i-preserved c =
    let p = has_flavour c.args.symbols.now c.args.flavour in
    let i = c.loop-i.i in
    let more = filter_range_one p 1 i (i + 1) (omega arith) in
    let so_far = filter p (range_with_len 1 i) in
    let is : c.is_flavour.result ≡ p (i + 1) = c.is_flavour.ensures ∙ ap (is_flavour c.args.flavour) c.flavour.ensures in
    elim c.if-is_flavour.branch [
      | then-is_flavour+in_ok-push w ↦
          let passes : p (i + 1) ≡ true = sym is ∙ w.if-is_flavour.true in
          rw (w.values-is, w.in_ok-push.ensures.items) (ap (λ (xs : List ℕ). xs ++ (i + 1) ∷ []) c.loop-i.invariant ∙ ap (λ (b : Bool). so_far ++ cond b ((i + 1) ∷ []) []) (sym passes) ∙ sym more)
      | else-is_flavour w ↦
          let fails : p (i + 1) ≡ false = sym is ∙ w.if-is_flavour.false in
          rw (w.values-is) (c.loop-i.invariant ∙ sym (append-nil so_far) ∙ ap (λ (b : Bool). so_far ++ cond b ((i + 1) ∷ []) []) (sym fails) ∙ sym more)
    ]
