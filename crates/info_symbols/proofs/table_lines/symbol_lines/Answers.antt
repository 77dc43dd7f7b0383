use Rattle.std.proofs.Common.{◌≡◌, ◌∙◌, List, ℕ, Some, ap, map, option_map, subst, sym}
use Rattle.std.specs.Prelude.{IfSome, ◌<◌}
use Rattle.std.specs.List.{All}
use Rattle.pol_symbols.specs.PolicySymbols.{count_in}
use Rattle.info_lines.specs.Inner.Listings.{line_of}
use Rattle.info_lines.specs.NameOrder.{numbers_listed}
use Rattle.info_symbols.proofs.Listed.{listed}
use Rattle.info_symbols.proofs.table_lines.symbol_lines.Goals as goal

pub returns : goal.returns
returns c =
    let symbols = c.args.symbols.now in
    let table = c.args.table in
    let numbers : List ℕ = c.in-Some.numbers.items in
    let name = option_map (λ name. name.now) c.args.name in
    let are : Some numbers ≡ numbers_listed symbols table name = ap (option_map (λ numbers. numbers.items)) (sym c.in-Some.is) ∙ c.in_ok-numbers.ensures.order in
    let within : All (λ n. n < count_in symbols table) numbers = subst (λ found. IfSome found (λ numbers. All (λ n. n < count_in symbols table) numbers.items)) c.in-Some.is c.in_ok-numbers.ensures.within in
    ap Some (c.new-2.ensures ∙ ap (λ (lines : List (List ℕ)). map (line_of lines) numbers) c.in_ok-lines.ensures) ∙ listed symbols table c.args.expand name numbers are within
