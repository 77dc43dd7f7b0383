-- The lines of the contexts of addresses (SETools' nodecon statements).
use Rattle.std.specs.Prelude.{ℕ, List, ◌++◌, map, codes}
use Rattle.pol_cursor.specs.References.{Named, Placed}
use Rattle.pol_symbols.specs.declared.symbols.Symbols.{Symbols}
use Rattle.pol_symbols.specs.PolicySymbols.{name_in}
use Rattle.pol_texts.specs.AddressTexts.{ipv4_text, groups_text}
use Rattle.pol_mls.specs.ContextText.{context_text}
use Rattle.pol_contexts.specs.declared.address_rec.AddressRec.{AddressRec}

-- nodecon ADDRESS MASK CONTEXT, of IPv4
unfoldable pub node_line : Named → AddressRec 4 → List ℕ
node_line named node =
    codes "nodecon " ++ ipv4_text node.address ++ codes " " ++ ipv4_text node.mask ++ codes " " ++ context_text named node.context

-- an address and a mask of IPv6
unfoldable pub masked6_text : List ℕ → List ℕ → List ℕ
masked6_text address mask = groups_text address ++ codes " " ++ groups_text mask

-- nodecon ADDRESS MASK CONTEXT, of IPv6
unfoldable pub node6_line : Named → AddressRec 16 → List ℕ
node6_line named node = codes "nodecon " ++ masked6_text node.address node.mask ++ codes " " ++ context_text named node.context

-- one for each entry, in file order
abbrev pub node_listing : Symbols → List (Placed (AddressRec 4)) → List (List ℕ)
node_listing symbols nodes = map (λ node. node_line (name_in symbols) node.value) nodes

-- one line for each entry of IPv6, in file order
abbrev pub node6_listing : Symbols → List (Placed (AddressRec 16)) → List (List ℕ)
node6_listing symbols nodes = map (λ node. node6_line (name_in symbols) node.value) nodes
