use Rattle.se_info.proofs.Lines.{pushes-next}
use Rattle.se_info.proofs.listing_text.push_next.Goals as goal

pub returns : goal.returns
returns g c =
    pushes-next _ _ _ _ _ _ _ _ c.requires c.in_ok-extend_from_slice.ensures.items c.in_ok-push_line.ensures c.in_ok-extend_from_slice-2.ensures.items
