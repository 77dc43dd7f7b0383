-- The entries of contexts of objects: what they are for is the key, and the context is what is compared.
use Rattle.std.specs.Prelude.{ℕ, ◌/◌, ◌%◌, List, [], ◌∷◌, ◌++◌, true, codes, decimal, map}
use Rattle.pol_mls.specs.declared.ContextRec.{ContextRec}
use Rattle.pol_contexts.specs.declared.port_rec.PortRec.{PortRec}
use Rattle.pol_contexts.specs.declared.address_rec.AddressRec.{AddressRec}
use Rattle.pol_contexts.specs.declared.fsuse_rec.FsUseRec.{FsUseRec}
use Rattle.pol_contexts.specs.declared.ibendport_rec.IbEndPortRec.{IbEndPortRec}
use Rattle.pol_contexts.specs.declared.ibpkey_rec.IbPkeyRec.{IbPkeyRec}
use Rattle.pol_contexts.specs.declared.named_rec.NamedRec.{NamedRec}
use Rattle.pol_contexts.specs.declared.sid_rec.SidRec.{SidRec}
use Rattle.pol_cursor.specs.References.{Placed}
use Rattle.pol_symbols.specs.declared.symbols.Symbols.{Symbols}
use Rattle.pol_symbols.specs.PolicySymbols.{name_in}
use Rattle.pol_texts.specs.AddressTexts.{groups_text, ipv4_text}
use Rattle.pol_texts.specs.NameTexts.{name_text}
use Rattle.pol_texts.specs.NumberNames.{behaviour_word, protocol_name, sid_name}
use Rattle.pol_texts.specs.NumberTexts.{keys_text, ports_text}
use Rattle.info_contexts.specs.SidLines.{sid_line}
use Rattle.diff_entries.specs.Entries.{Entry}
use Rattle.diff_entries.specs.declared.Part.{Part}
use Rattle.diff_entries.specs.declared.Label.TheVariants.{Unnamed, Context, Packet}
use Rattle.diff_parts.specs.EntryParts.{context_part}

-- a number as an element of a key: its four bytes, the highest first, so that keys compare it by its value
abbrev pub number_element : ℕ → List ℕ
number_element number = number / 16777216 ∷ (number / 65536) % 256 ∷ (number / 256) % 256 ∷ number % 256 ∷ []

-- the one part of most: the context
abbrev pub alone : Symbols → ContextRec → List Part
alone symbols context = context_part symbols Unnamed context ∷ []

-- ports: the protocol, and the least and greatest port
unfoldable pub port_key : PortRec → List (List ℕ)
port_key port = protocol_name port.protocol ∷ number_element port.low ∷ number_element port.high ∷ []

unfoldable pub port_head : PortRec → List ℕ
port_head port = codes "portcon " ++ protocol_name port.protocol ++ codes " " ++ ports_text port.low port.high

-- file systems: the word of the rule, and the name
unfoldable pub fsuse_key : FsUseRec → List (List ℕ)
fsuse_key entry = behaviour_word entry.behaviour ∷ entry.name ∷ []

unfoldable pub fsuse_head : FsUseRec → List ℕ
fsuse_head entry = behaviour_word entry.behaviour ++ codes " " ++ name_text entry.name

-- interfaces: the name; they have two contexts, the second that of the packets
abbrev pub netif_key : NamedRec → List (List ℕ)
netif_key interface = interface.name ∷ []

abbrev pub netif_head : NamedRec → List ℕ
netif_head interface = codes "netifcon " ++ name_text interface.name

abbrev pub netif_parts : Symbols → NamedRec → List Part
netif_parts symbols interface = context_part symbols Context interface.context ∷ context_part symbols Packet interface.second_context ∷ []

-- partition keys: the prefix, and the least and greatest key
unfoldable pub ibpkey_key : IbPkeyRec → List (List ℕ)
ibpkey_key keys = keys.prefix ∷ number_element keys.low ∷ number_element keys.high ∷ []

unfoldable pub ibpkey_head : IbPkeyRec → List ℕ
ibpkey_head keys = codes "ibpkeycon " ++ groups_text keys.prefix ++ codes " " ++ keys_text keys.low keys.high

-- devices at ports: the name, and the number of the port
unfoldable pub ibendport_key : IbEndPortRec → List (List ℕ)
ibendport_key port = port.name ∷ number_element port.port ∷ []

unfoldable pub ibendport_head : IbEndPortRec → List ℕ
ibendport_head port = codes "ibendportcon " ++ name_text port.name ++ codes " " ++ decimal port.port

-- nodes: how many bytes an address has, the address and the mask
unfoldable pub node_key : AddressRec 4 → List (List ℕ)
node_key node = number_element 4 ∷ node.address ∷ node.mask ∷ []

unfoldable pub node_head : AddressRec 4 → List ℕ
node_head node = codes "nodecon " ++ ipv4_text node.address ++ codes " " ++ ipv4_text node.mask

unfoldable pub node6_key : AddressRec 16 → List (List ℕ)
node6_key node = number_element 16 ∷ node.address ∷ node.mask ∷ []

unfoldable pub node6_head : AddressRec 16 → List ℕ
node6_head node = codes "nodecon " ++ groups_text node.address ++ codes " " ++ groups_text node.mask

-- initial SIDs: the name
unfoldable pub sid_entry : Symbols → SidRec → Entry
sid_entry symbols sid = record {
  key = sid_name sid.sid ∷ [];
  parts = alone symbols sid.context;
  statement = sid_line true (name_in symbols) sid;
  head = codes "sid " ++ sid_name sid.sid;
}

abbrev pub sid_entries : Symbols → List (Placed SidRec) → List Entry
sid_entries symbols sids = map (λ sid. sid_entry symbols sid.value) sids
