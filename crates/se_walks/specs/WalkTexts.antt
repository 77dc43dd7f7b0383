-- The texts of edges and walks. They are this project's own.
use Rattle.std.specs.Prelude.{ℕ, ◌+◌, ◌-◌, Bool, List, ◌++◌, codes, decimal, length, slice_index, if◌then◌else◌}
use Rattle.std.specs.List.{flat_map, range_with_len}
use Rattle.pol_fields.specs.declared.TableKind.TheVariants.{Types}
use Rattle.pol_cursor.specs.References.{name_of}
use Rattle.pol_symbols.specs.PolicySymbols.{name_in}
use Rattle.pol_symbols.specs.declared.Symbols.{Symbols}

-- `A -> B`
unfoldable pub ends_text : Symbols → ℕ → ℕ → List ℕ
ends_text symbols from to = name_of (name_in symbols) Types from ++ codes " -> " ++ name_of (name_in symbols) Types to

-- A tool's texts: what an edge is called, the symbols that name its ends, and what stands behind these, where its further lines
-- have this indent.
pub record EdgeWords : Type 0 where
  pub word : List ℕ
  pub symbols : Symbols
  pub behind : List ℕ → ℕ → ℕ → List ℕ

-- `A -> B` and what stands behind it
unfoldable pub edge_text : EdgeWords → List ℕ → ℕ → ℕ → List ℕ
edge_text words indent from to = ends_text words.symbols from to ++ words.behind indent from to

-- `WORD N: ` and the edge
unfoldable pub edge_item : EdgeWords → ℕ → ℕ → ℕ → List ℕ
edge_item words number from to = words.word ++ codes " " ++ decimal number ++ codes ": " ++ edge_text words (codes "   ") from to

-- `WORD N: ` and the edge from a node to an end or, in the reverse, to the node; it is written forward
abbrev pub end_item : EdgeWords → ℕ → Bool → ℕ → ℕ → List ℕ
end_item words node reverse number end = if reverse then edge_item words number end node else edge_item words number node end

-- the edge of a step
abbrev pub step_edge : EdgeWords → ℕ → ℕ → List ℕ
step_edge words from to = edge_text words (codes "      ") from to

-- `   Step I: ` and the edge, for the step after so many
unfoldable pub step_text : EdgeWords → List ℕ → ℕ → List ℕ
step_text words walk before =
    codes "   Step " ++ decimal (before + 1) ++ codes ": " ++ step_edge words (slice_index walk before) (slice_index walk (before + 1))

-- `Path N: A -> B, steps K`
unfoldable pub heading_text : EdgeWords → ℕ → List ℕ → List ℕ
heading_text words number walk =
    codes "Path " ++ decimal number ++ codes ": " ++ ends_text words.symbols (slice_index walk 0) (slice_index walk (length walk - 1))
    ++ codes ", steps " ++ decimal (length walk - 1) ++ codes "\n"

-- and its steps
unfoldable pub walk_item : EdgeWords → ℕ → List ℕ → List ℕ
walk_item words number walk = heading_text words number walk ++ flat_map (step_text words walk) (range_with_len 0 (length walk - 1))
