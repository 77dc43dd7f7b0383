-- The lines of port contexts (SETools' portcon statements).
use Rattle.std.specs.Prelude.{ℕ, List, ◌++◌, map, codes}
use Rattle.pol_cursor.specs.References.{Named, Placed}
use Rattle.pol_symbols.specs.declared.symbols.Symbols.{Symbols}
use Rattle.pol_symbols.specs.PolicySymbols.{name_in}
use Rattle.pol_texts.specs.NumberNames.{protocol_name}
use Rattle.pol_texts.specs.NumberTexts.{ports_text}
use Rattle.pol_mls.specs.ContextText.{context_text}
use Rattle.pol_contexts.specs.declared.port_rec.PortRec.{PortRec}

-- portcon PROTOCOL PORTS CONTEXT
unfoldable pub port_line : Named → PortRec → List ℕ
port_line named port =
    codes "portcon " ++ protocol_name port.protocol ++ codes " " ++ ports_text port.low port.high ++ codes " " ++ context_text named port.context

-- one for each entry, in file order
abbrev pub port_listing : Symbols → List (Placed PortRec) → List (List ℕ)
port_listing symbols ports = map (λ port. port_line (name_in symbols) port.value) ports
