use Rattle.se_search.proofs.SingleRows.{page_is}
use Rattle.se_search.proofs.single_lines.SingleLines.new.Goals as goal

pub returns-clause-lines : goal.returns-clause-lines
returns-clause-lines c =
    page_is c.args.texts.now c.args.places c.args.window.from c.args.window.limit c.count_listed-all.result c.min-passed.result c.end_of.result c.count_listed-all.ensures c.min-passed.ensures c.end_of.ensures
