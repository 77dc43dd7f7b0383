use Rattle.std.proofs.Common.{◌≡◌, ◌++◌, map}
use Rattle.pol_cursor.specs.References.{values_of}
use Rattle.info_contexts.specs.GenfsLines.{entries_of}
use Rattle.info_contexts.proofs.genfs_entry.push_entries.Given as goal

-- what was added and what is left are the whole
abbrev pub invariant-loop-path : goal.invariant-loop-path
invariant-loop-path l = l.entries.items ++ map (λ path. record { fstype = l.fstype; path = path }) (values_of l.path-iterator) ≡ l.fn.entries.items ++ entries_of l.system.value
