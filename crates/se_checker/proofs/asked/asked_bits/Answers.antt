use Rattle.std.proofs.Common.{◌≡◌, ℕ, true, List, Some, Bor, option_map, sym, ap, ◌∙◌}
use Rattle.text_rows.specs.TextLines.{fields_in}
use Rattle.se_checker.specs.Verdicts.{Asked, asks_class}
use Rattle.se_checker.proofs.AskedMasks.{named_masks}
use Rattle.se_checker.proofs.asked.asked_bits.Goals as goal

pub returns-in-Some : goal.returns-in-Some
returns-in-Some c =
    let symbols = c.args.symbols.now in
    let class = c.args.class.now.value in
    let asks : asks_class symbols c.args.asked.now.class class.value ≡ true =
    ap (λ (asked : Asked). asks_class symbols asked.class class.value) (sym c.asked.view_is) ∙ ap (λ (value : ℕ). asks_class symbols (option_map (λ (names : Bor (List ℕ)). fields_in names.now) c.asked.inside.class) value) (sym c.value.ensures) ∙ sym c.asks_class.ensures ∙ c.if-not-asks_class.false in
    let given : c.args.asked.now.perms ≡ Some (fields_in c.in-Some.names.now) =
    ap (λ (asked : Asked). asked.perms) (sym c.asked.view_is) ∙ ap (option_map (λ (names : Bor (List ℕ)). fields_in names.now)) c.in-Some.is in
    λ mask. named_masks symbols c.args.asked.now class (fields_in c.in-Some.names.now) c.bits_named.result mask asks given c.bits_named.ensures
