use Rattle.std.proofs.Common.{◌≡◌, ◌∙◌, ◌++◌, List, ℕ, OnOk, ap, codes, subst}
use Rattle.pol_fields.specs.declared.TableKind.TheVariants.{Types}
use Rattle.pol_cursor.specs.References.{name_of}
use Rattle.pol_symbols.specs.PolicySymbols.{name_in}
use Rattle.pol_symbols.specs.declared.Symbols.{Symbols}
use Rattle.se_dom.specs.DomTexts.{entry_text, reason_lines}
use Rattle.se_dom.proofs.Texts.{onto, onto-last}
use Rattle.se_dom.proofs.reason_texts.push_entry.Goals as goal

pub returns : goal.returns
unfolding entry_text
returns c =
    let lines : List ℕ → List ℕ → List ℕ → List ℕ = reason_lines c.args.texts.now in
    let deep : List ℕ = c.args.indent.now ++ codes "   " in
    let deeper = c.in_ok-extend_from_slice.ensures.items ∙ ap (λ (text : List ℕ). text ++ codes "   ") c.in_ok-deeper.ensures.items in
    let result = c.push_lines-3.result in
    let name =
    c.in_ok-push_name.ensures ∙ ap (λ (symbols : Symbols). c.extend_from_slice-3.new.self.items ++ name_of (name_in symbols) Types c.args.reason.now.entry) c.requires.symbols in
    let head = onto _ _ _ _ _ (onto _ _ _ _ _ (onto _ _ _ _ _ c.in_ok-extend_from_slice-2.ensures.items c.in_ok-extend_from_slice-3.ensures.items) name) c.in_ok-extend_from_slice-4.ensures.items in
    let first =
    c.in_ok-push_lines.ensures
    ∙ ap (λ (indent : List ℕ). c.extend_from_slice-4.new.self.items ++ lines indent (codes "entrypoint") c.as_slice.result.now) (c.deref.ensures.value ∙ deeper)
    ∙ ap (λ (numbers : List ℕ). c.extend_from_slice-4.new.self.items ++ lines deep (codes "entrypoint") numbers) c.as_slice.ensures in
    let second =
    c.in_ok-push_lines-2.ensures
    ∙ ap (λ (indent : List ℕ). c.push_lines.new.buffer.items ++ lines indent (codes "execute") c.as_slice-2.result.now) (c.deref-2.ensures.value ∙ deeper)
    ∙ ap (λ (numbers : List ℕ). c.push_lines.new.buffer.items ++ lines deep (codes "execute") numbers) c.as_slice-2.ensures in
    onto-last result _ _ _ _ _ (onto _ _ _ _ _ (onto _ _ _ _ _ head first) second)
    (subst (λ (numbers : List ℕ). OnOk result (c.push_lines-3.new.buffer.items ≡ c.push_lines-2.new.buffer.items ++ lines deep (codes "type_transition") numbers)) c.as_slice-3.ensures
    (subst (λ (indent : List ℕ). OnOk result (c.push_lines-3.new.buffer.items ≡ c.push_lines-2.new.buffer.items ++ lines indent (codes "type_transition") c.as_slice-3.result.now)) (c.deref-3.ensures.value ∙ deeper)
    c.push_lines-3.ensures))
