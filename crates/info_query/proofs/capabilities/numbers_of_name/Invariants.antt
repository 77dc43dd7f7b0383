use Rattle.std.proofs.Common.{◌≡◌, ◌++◌, option_map}
use Rattle.std.specs.List.{filter}
use Rattle.pol_bitmap.specs.Nodes.{bits_of}
use Rattle.info_contexts.specs.NamedEntries.{is_asked}
use Rattle.info_query.specs.Capabilities.{capability_name}
use Rattle.info_query.proofs.capabilities.numbers_of_name.Given as goal

-- the numbers of the name so far, and of the numbers that are left, are all of them
abbrev pub invariant-loop-number : goal.invariant-loop-number
invariant-loop-number l =
    l.numbers.items ++ filter (λ number. is_asked (option_map (λ name. name.now) l.name) (capability_name number)) l.number-iterator
    ≡ filter (λ number. is_asked (option_map (λ name. name.now) l.name) (capability_name number)) (bits_of l.capabilities)
