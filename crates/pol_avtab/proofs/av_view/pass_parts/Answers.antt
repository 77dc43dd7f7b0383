use Rattle.std.proofs.Common.{sym, ◌∙◌, option_map}
use Rattle.pol_avtab.proofs.AvReading.{av_read}
use Rattle.pol_avtab.proofs.av_view.pass_parts.Goals as goal

pub returns : goal.returns
returns c =
    let test = sym (rw (c.among.ensures, c.kind_of.ensures) at c.kind_cause.ensures) ∙ c.in_ok-refuse.ensures in
    let read = av_read c.args.version (option_map (λ keys. keys.now) c.args.earlier) c.args.c.now c.u16.new.self c.u16-2.new.self c.u16-3.new.self c.u16-4.new.self c.pass_part.new.c
    c.in_ok-source.source c.in_ok-target.target c.in_ok-class.class c.in_ok-specified.specified
    c.in_ok-source.ensures.exact c.in_ok-target.ensures.exact c.in_ok-class.ensures.exact c.in_ok-specified.ensures.exact test
    (rw c.is_extended.ensures at c.in_ok-pass_part.ensures.exact) (rw c.is_extended.ensures at c.in_ok-pass_part.ensures.next) c.in_ok-pass_part.ensures.long in
    record { exact = read.exact; next = read.ends; long = read.long }
