-- The lines of initial SIDs (SETools' lists of them, and its sid statements).
use Rattle.std.specs.Prelude.{ℕ, Bool, true, false, Option, List, ◌++◌, map, codes}
use Rattle.pol_cursor.specs.References.{Named, Placed}
use Rattle.pol_symbols.specs.declared.symbols.Symbols.{Symbols}
use Rattle.pol_symbols.specs.PolicySymbols.{name_in}
use Rattle.pol_texts.specs.NumberNames.{sid_name}
use Rattle.pol_mls.specs.ContextText.{context_text}
use Rattle.pol_contexts.specs.declared.sid_rec.SidRec.{SidRec}
use Rattle.info_contexts.specs.NamedEntries.{of_name}

-- the name alone, or expanded, sid NAME CONTEXT
unfoldable pub sid_line : Bool → Named → SidRec → List ℕ
sid_line false named sid = sid_name sid.sid
sid_line true named sid = codes "sid " ++ sid_name sid.sid ++ codes " " ++ context_text named sid.context

-- one for each entry, in file order
abbrev pub sid_listing : Bool → Symbols → List (Placed SidRec) → List (List ℕ)
sid_listing expand symbols sids = map (λ sid. sid_line expand (name_in symbols) sid.value) sids

-- the lines of the SIDs that are printed with the given name
abbrev pub sid_listing_of : Bool → Symbols → Option (List ℕ) → List (Placed SidRec) → List (List ℕ)
sid_listing_of expand symbols name sids = sid_listing expand symbols (of_name (λ sid. sid_name sid.value.sid) name sids)
