use Rattle.std.proofs.Common.{rules, option_map}
use Rattle.pol_cursor.specs.References.{Placed}
use Rattle.pol_symbols.specs.PolicySymbols.{name_in}
use Rattle.info_contexts.proofs.NamedEntries.{chosen_lines}
use Rattle.info_contexts.proofs.table_lines.TableLines.named.Goals as goal

pub returns : goal.returns
returns g c =
    rw (c.new.ensures, c.new-lines.ensures)
    (chosen_lines (λ (entry : Placed g.row.R.Denot). g.R.LinedEntry.line (name_in c.args.symbols.now) entry.value) (λ (entry : Placed g.row.R.Denot). g.R.NamedEntry.name entry.value) (option_map (λ name. name.now) c.args.name) c.args.entries.now c.in_ok-numbers.numbers.items (search rules))
