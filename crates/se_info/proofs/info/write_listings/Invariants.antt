use Rattle.std.proofs.Common.{take}
use Rattle.se_info.specs.InfoAnswer.{wanted_text}
use Rattle.se_options.specs.InfoRequest.{wanted_view}
use Rattle.se_items.proofs.Wrotes.{Texts}
use Rattle.se_info.proofs.info.write_listings.Given as goal

abbrev pub invariant-loop-wanted : goal.invariant-loop-wanted
invariant-loop-wanted g l =
    Texts (λ wanted. wanted_text l.policy l.expand l.flat (wanted_view wanted)) (take l.wanted-index l.listings) (g.S.Sink.state l.initial.out) (g.S.Sink.state l.out)
