-- The text that is left of the edges of a node.
use Rattle.std.specs.Prelude.{length}
use Rattle.std.specs.List.{concat}
use Rattle.se_items.specs.Pieces.{Left}
use Rattle.se_walks.specs.Numbered.{numbered}
use Rattle.se_walks.specs.WalkTexts.{EdgeWords, end_item}
use Rattle.se_walks.specs.declared.edge_items.EdgeItems.{EdgeItems}

abbrev pub edges_left : {T : Type 0} → (T → EdgeWords) → EdgeItems T → Left
edges_left words items = record {
  text = concat (numbered (end_item (words items.texts.now) items.node items.reverse) items.number items.ends.now);
  pieces = length items.ends.now;
}
