use Rattle.std.proofs.Common.{List, ℕ, ◌++◌, ◌∙◌, sym, ap, append_assoc}
use Rattle.std.specs.List.{flat_map, range_with_len}
use Rattle.pol_cursor.proofs.Ranges.{flat_range_more}
use Rattle.pol_texts.specs.AddressTexts.{grouped_byte}
use Rattle.pol_texts.proofs.address_texts.push_groups_text.Goals as goal

pub loop-i-preserved : goal.loop-i-preserved
loop-i-preserved c =
    let text = grouped_byte c.args.bytes.now in
    let out = c.args.out.now.items in
    let i = c.loop-i.i in
    c.in_ok-push_grouped_byte.ensures ∙ ap (λ (t : List ℕ). t ++ text i) c.loop-i.invariant ∙ append_assoc out (flat_map text (range_with_len 0 i)) (text i) ∙ ap (λ (t : List ℕ). out ++ t) (sym (flat_range_more text i))
