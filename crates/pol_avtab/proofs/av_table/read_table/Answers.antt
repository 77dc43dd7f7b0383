use Rattle.std.proofs.Common.{rules}
use Rattle.pol_avtab.proofs.EvenRules.{table_read}
use Rattle.pol_avtab.proofs.av_table.read_table.Goals as goal

pub returns-in-Some : goal.returns-in-Some
returns-in-Some c =
    let first = c.in_ok-n.ensures.exact in
    table_read c.args.version c.in_ok-n.n c.args.c.now.bytes c.args.c.now.place _ _ c.in-Some.table c.at-ahead.result c.read_even.new.c first.0 (search rules) (search rules) (c.in_ok-table.ensures c.args.version) c.in-Some.is
