-- What a version cannot hold: the words of it in messages.
use Rattle.std.specs.Prelude.{ℕ, List, codes}
use Rattle.pol_unheld.specs.declared.unheld.Unheld.{Unheld}
use Rattle.pol_unheld.specs.declared.unheld.Unheld.TheVariants as unheld

abbrev pub unheld_word : Unheld → List ℕ
unheld_word unheld.Extended = codes "Extended"
unheld_word unheld.ConditionalExtended = codes "ConditionalExtended"
unheld_word unheld.Infiniband = codes "Infiniband"
unheld_word unheld.TooLong = codes "TooLong"
