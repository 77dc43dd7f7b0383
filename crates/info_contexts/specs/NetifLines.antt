-- The lines of the contexts of network interfaces (SETools' netifcon statements).
use Rattle.std.specs.Prelude.{ℕ, Option, List, ◌++◌, map, codes}
use Rattle.pol_cursor.specs.References.{Named, Placed}
use Rattle.pol_symbols.specs.declared.symbols.Symbols.{Symbols}
use Rattle.pol_symbols.specs.PolicySymbols.{name_in}
use Rattle.pol_texts.specs.NameTexts.{name_text}
use Rattle.pol_mls.specs.ContextText.{context_text}
use Rattle.pol_contexts.specs.declared.named_rec.NamedRec.{NamedRec}
use Rattle.info_contexts.specs.NamedEntries.{of_name}

-- netifcon NAME CONTEXT CONTEXT, the second of which is that of the packets
unfoldable pub netif_line : Named → NamedRec → List ℕ
netif_line named interface =
    codes "netifcon " ++ name_text interface.name ++ codes " " ++ context_text named interface.context ++ codes " " ++ context_text named interface.second_context

-- one for each entry, in file order
abbrev pub netif_listing : Symbols → List (Placed NamedRec) → List (List ℕ)
netif_listing symbols interfaces = map (λ interface. netif_line (name_in symbols) interface.value) interfaces

-- the lines of the interfaces of the given name
abbrev pub netif_listing_of : Symbols → Option (List ℕ) → List (Placed NamedRec) → List (List ℕ)
netif_listing_of symbols name interfaces = netif_listing symbols (of_name (λ interface. interface.value.name) name interfaces)
