use Rattle.std.proofs.Common.{◌+◌, sym, ◌∙◌, arith}
use Rattle.pol_bitmap.proofs.BitLists.{has_bit-from_bits}
use Rattle.pol_convert.proofs.DeclaredSources.{has_is, none_beyond, some_source, no_source}
use Rattle.pol_convert.proofs.sources.declared_source.Goals as goal
use Rattle.pol_convert.proofs.sources.declared_source.Goals.{else-bit-lt4294967295-via-then-bit-lt4294967295+else-has, else-bit-lt4294967295-via-else-bit-lt4294967295}

pub returns-then-has : goal.returns-then-has
returns-then-has c = some_source c.args.declared.now c.args.bit (has_bit-from_bits c.args.declared.now (c.args.bit + 1) (c.has.ensures.0 c.if-has.true))

pub returns : goal.returns
returns c = elim c.else-bit-lt4294967295.branch [
  | else-bit-lt4294967295-via-then-bit-lt4294967295+else-has w ↦ no_source c.args.declared.now c.args.bit (sym (has_is w.has.result c.args.declared.now (c.args.bit + 1) w.has.ensures) ∙ w.if-has.false)
  | else-bit-lt4294967295-via-else-bit-lt4294967295 w ↦ no_source c.args.declared.now c.args.bit (none_beyond c.args.declared.now (c.args.bit + 1) c.requires (omega (arith, w.if-bit-lt4294967295.false)))
]
