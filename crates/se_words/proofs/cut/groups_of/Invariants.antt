use Rattle.std.proofs.Common.{false, length, map}
use Rattle.se_words.specs.Options.{row_view}
use Rattle.se_words.specs.Word.{text_of}
use Rattle.se_words.proofs.Cuts.{Cutting}
use Rattle.se_words.proofs.cut.groups_of.Given as goal

abbrev pub invariant-groups : goal.invariant-groups
invariant-groups l =
    Cutting (map row_view l.rows) (record { closed = false; free = l.free }) (map text_of l.words) l.mode l.number l.rest l.groups.items

abbrev pub decreases-groups : goal.decreases-groups
decreases-groups l = length l.rest
