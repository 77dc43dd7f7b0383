use Rattle.std.proofs.Common.{◌≡◌, ◌++◌}
use Rattle.std.specs.List.{flat_map, range_with_len}
use Rattle.pol_texts.specs.AddressTexts.{grouped_byte}
use Rattle.pol_texts.proofs.address_texts.push_groups_text.Given as goal

abbrev pub invariant-loop-i : goal.invariant-loop-i
invariant-loop-i l = l.out.items ≡ l.initial.out.items ++ flat_map (grouped_byte l.bytes) (range_with_len 0 l.i)
