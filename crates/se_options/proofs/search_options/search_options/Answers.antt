use Rattle.std.proofs.Common.{refl}
use Rattle.se_options.specs.SearchRequest.{search_options}
use Rattle.se_options.proofs.Parts.{first-rest}
use Rattle.se_options.proofs.search_options.search_options.Goals as goal

pub returns : goal.returns
unfolding search_options
returns c =
    first-rest c.switch.ensures (first-rest c.switch-2.ensures (first-rest c.switch-3.ensures (first-rest c.switch-4.ensures (
    first-rest c.switch-5.ensures (first-rest c.switch-6.ensures (first-rest c.switch-7.ensures (first-rest c.switch-8.ensures (
    first-rest c.switch-9.ensures (first-rest c.switch-10.ensures (first-rest c.switch-11.ensures (first-rest c.switch-12.ensures (
    first-rest c.switch-13.ensures (first-rest c.valued.ensures (first-rest c.valued-2.ensures (first-rest c.valued-3.ensures (
    first-rest c.valued-4.ensures (first-rest c.valued-5.ensures (first-rest c.valued-6.ensures (first-rest c.valued-7.ensures (
    first-rest c.switch-14.ensures (first-rest c.switch-15.ensures (first-rest c.switch-16.ensures (first-rest c.switch-17.ensures (
    first-rest c.switch-18.ensures (first-rest c.switch-19.ensures (first-rest c.switch-20.ensures (first-rest c.switch-21.ensures (
    first-rest c.switch-22.ensures (first-rest c.switch-23.ensures (first-rest c.switch-24.ensures (first-rest c.switch-25.ensures (first-rest (rw (← c.limit_kind.ensures) c.valued-8.ensures) (first-rest c.from_option.ensures refl)))))))))))))))))))))))))))))))))
