use Rattle.std.proofs.Common.{◌≡◌, ◌++◌, take, map}
use Rattle.pol_texts.specs.SetTexts.{listed}
use Rattle.diff_records.proofs.properties.push_listed.Given as goal

abbrev pub invariant-loop-name : goal.invariant-loop-name
invariant-loop-name l = l.buffer.items ≡ l.initial.buffer.items ++ listed (map (λ name. name.now) (take l.name-index l.names))
