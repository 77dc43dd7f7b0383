use Rattle.std.proofs.Common.{◌≡◌, [], get_or, option_map}
use Rattle.std.specs.List.{filter, range_with_len}
use Rattle.info_contexts.specs.NamedEntries.{is_asked}
use Rattle.info_contexts.proofs.entry_names.numbers_of_name.Given as goal

-- of the numbers so far
abbrev pub invariant-loop-number : goal.invariant-loop-number
invariant-loop-number g l =
    l.numbers.items ≡ filter (λ number. is_asked (option_map (λ name. name.now) l.name) (get_or (g.E.EntryNames.names l.entries) number [])) (range_with_len 0 l.number)
