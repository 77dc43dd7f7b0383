-- The lines of the contexts of InfiniBand partition keys (SETools' ibpkeycon statements).
use Rattle.std.specs.Prelude.{ℕ, List, ◌++◌, map, codes}
use Rattle.pol_cursor.specs.References.{Named, Placed}
use Rattle.pol_symbols.specs.declared.symbols.Symbols.{Symbols}
use Rattle.pol_symbols.specs.PolicySymbols.{name_in}
use Rattle.pol_texts.specs.AddressTexts.{groups_text}
use Rattle.pol_texts.specs.NumberTexts.{keys_text}
use Rattle.pol_mls.specs.ContextText.{context_text}
use Rattle.pol_contexts.specs.declared.ibpkey_rec.IbPkeyRec.{IbPkeyRec}

-- a prefix and the keys under it
unfoldable pub prefixed_text : List ℕ → ℕ → ℕ → List ℕ
prefixed_text prefix low high = groups_text prefix ++ codes " " ++ keys_text low high

-- ibpkeycon PREFIX KEYS CONTEXT
unfoldable pub ibpkey_line : Named → IbPkeyRec → List ℕ
ibpkey_line named keys = codes "ibpkeycon " ++ prefixed_text keys.prefix keys.low keys.high ++ codes " " ++ context_text named keys.context

-- one for each entry, in file order
abbrev pub ibpkey_listing : Symbols → List (Placed IbPkeyRec) → List (List ℕ)
ibpkey_listing symbols entries = map (λ keys. ibpkey_line (name_in symbols) keys.value) entries
