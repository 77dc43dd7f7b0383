-- The lines of the contexts of InfiniBand devices at ports (SETools' ibendportcon statements).
use Rattle.std.specs.Prelude.{ℕ, List, ◌++◌, map, codes, decimal}
use Rattle.pol_cursor.specs.References.{Named, Placed}
use Rattle.pol_symbols.specs.declared.symbols.Symbols.{Symbols}
use Rattle.pol_symbols.specs.PolicySymbols.{name_in}
use Rattle.pol_texts.specs.NameTexts.{name_text}
use Rattle.pol_mls.specs.ContextText.{context_text}
use Rattle.pol_contexts.specs.declared.ibendport_rec.IbEndPortRec.{IbEndPortRec}

-- the rule's word, the name of a device and the number of its port
unfoldable pub device_text : List ℕ → ℕ → List ℕ
device_text name port = codes "ibendportcon " ++ name_text name ++ codes " " ++ decimal port

-- ibendportcon NAME PORT CONTEXT
unfoldable pub ibendport_line : Named → IbEndPortRec → List ℕ
ibendport_line named port = device_text port.name port.port ++ codes " " ++ context_text named port.context

-- one for each entry, in file order
abbrev pub ibendport_listing : Symbols → List (Placed IbEndPortRec) → List (List ℕ)
ibendport_listing symbols ports = map (λ port. ibendport_line (name_in symbols) port.value) ports
