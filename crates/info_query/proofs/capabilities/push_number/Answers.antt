use Rattle.std.proofs.Common.{◌≡◌, List, ℕ, OnOk, codes, decimal, append_assoc, subst}
use Rattle.info_query.proofs.capabilities.push_number.Goals as goal

pub returns : goal.returns
returns c =
    subst (λ (text : List ℕ). OnOk c.push_numbered.result (c.push_numbered.new.buffer.items ≡ text))
    (append_assoc c.args.buffer.now.items (codes "capability_") (decimal c.args.number)) c.push_numbered.ensures
