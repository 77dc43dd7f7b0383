use Rattle.std.proofs.Common.{refl, ◌∙◌}
use Rattle.pol_bitmap.specs.Nodes.{bits_of}
use Rattle.info_symbols.proofs.Listed.{bit_found}
use Rattle.info_symbols.proofs.type_sets.is_permissive.Goals as goal

pub returns : goal.returns
returns c = bit_found c.has.result (bits_of c.permissive.result.now) c.args.value c.has.ensures ∙ rw c.permissive.ensures refl
