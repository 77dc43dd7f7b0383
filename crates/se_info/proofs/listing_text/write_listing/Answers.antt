use Rattle.se_info.proofs.Lines.{listing-is}
use Rattle.se_info.proofs.listing_text.write_listing.Goals as goal

pub returns : goal.returns
returns g c =
    rw (← listing-is c.args.flat c.args.title.now (g.L.Lines.left c.args.lines) _ _ _ _ c.in_ok-buffer.ensures c.count.ensures c.in_ok-push_front.ensures c.indent_of.ensures) c.write_behind.ensures
