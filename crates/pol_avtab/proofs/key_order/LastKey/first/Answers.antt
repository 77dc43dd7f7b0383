use Rattle.pol_avtab.proofs.KeyOrder.{rising_none}
use Rattle.pol_avtab.proofs.key_order.LastKey.first.Goals as goal

pub returns : goal.returns
returns c = rising_none _
