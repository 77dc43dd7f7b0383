use Rattle.std.proofs.Common.{◌≡◌, take, option_map}
use Rattle.info_contexts.specs.GenfsLines.{entries_in}
use Rattle.info_contexts.specs.NamedEntries.{of_name}
use Rattle.info_contexts.proofs.genfs_entry.genfs_entries.Given as goal

abbrev pub invariant-loop-i : goal.invariant-loop-i
invariant-loop-i l = l.entries.items ≡ of_name (λ entry. entry.fstype) (option_map (λ name. name.now) l.name) (entries_in (take l.i l.systems))
