use Rattle.std.proofs.Common.{◌≡◌, ◌∙◌, ◌++◌, List, ℕ, OnOk, ap, codes, subst}
use Rattle.std.specs.List.{flat_map}
use Rattle.dom_trans.specs.declared.EntryReason.{EntryReason}
use Rattle.se_dom.specs.DomTexts.{entry_text, reason_lines, reasons_text}
use Rattle.se_dom.proofs.Texts.{onto, onto-last}
use Rattle.se_dom.proofs.reason_texts.push_reasons.Goals as goal

pub returns : goal.returns
unfolding reasons_text
returns c =
    let lines : List ℕ → List ℕ → List ℕ = reason_lines c.args.texts.now c.args.indent.now in
    let entries : List EntryReason → List ℕ = flat_map (entry_text c.args.texts.now c.args.indent.now) in
    let result = c.push_lines-4.result in
    let first = c.in_ok-push_lines.ensures ∙ ap (λ (numbers : List ℕ). c.args.buffer.now.items ++ lines (codes "transition") numbers) c.as_slice.ensures in
    let second = c.in_ok-push_lines-2.ensures ∙ ap (λ (numbers : List ℕ). c.push_lines.new.buffer.items ++ lines (codes "setexec") numbers) c.as_slice-2.ensures in
    let third = c.in_ok-push_entries.ensures ∙ ap (λ (reasons : List EntryReason). c.push_lines-2.new.buffer.items ++ entries reasons) c.as_slice-3.ensures in
    let fourth = c.in_ok-push_lines-3.ensures ∙ ap (λ (numbers : List ℕ). c.push_entries.new.buffer.items ++ lines (codes "dyntransition") numbers) c.as_slice-4.ensures in
    onto-last result _ _ _ _ _ (onto _ _ _ _ _ (onto _ _ _ _ _ (onto _ _ _ _ _ first second) third) fourth)
    (subst (λ (numbers : List ℕ). OnOk result (c.push_lines-4.new.buffer.items ≡ c.push_lines-3.new.buffer.items ++ lines (codes "setcurrent") numbers)) c.as_slice-5.ensures
    c.push_lines-4.ensures)
