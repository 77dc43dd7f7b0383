use Rattle.std.proofs.Common.{◌≡◌, ◌++◌, take, map}
use Rattle.info_symbols.specs.TypeStatements.{attributes_text}
use Rattle.info_symbols.proofs.type_texts.push_after_commas.Given as goal

abbrev pub invariant-loop-name : goal.invariant-loop-name
invariant-loop-name l = l.buffer.items ≡ l.initial.buffer.items ++ attributes_text (map (λ name. name.now) (take l.name-index l.names))
