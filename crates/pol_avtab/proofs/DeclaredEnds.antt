-- Of an access vector whose ends are declared, only the default type may dangle.
use Rattle.std.proofs.Common.{◌≡◌, ◌+◌, true, refl}
use Rattle.std.specs.Prelude.{◌&&◌, is_some}
use Rattle.std.proofs.lemmas.Bool.{and_parts}
use Rattle.pol_fields.specs.declared.TableKind.TheVariants.{Types, Classes}
use Rattle.pol_cursor.specs.References.{Named, Placed, dangling_of}
use Rattle.pol_avtab.specs.declared.av_rec.AvRec.{AvRec}
use Rattle.pol_avtab.specs.AvRecord.{is_default, av_references, part_references}

pub ends_declared : (named : Named) (av : Placed AvRec) → (is_some (named Types av.value.source) && is_some (named Types av.value.target) && is_some (named Classes av.value.class)) ≡ true
    → dangling_of named (av_references av) ≡ dangling_of named (part_references (av.place + 8) (is_default av.value.specified) av.value.part)
ends_declared named av e =
    let all = and_parts _ (is_some (named Classes av.value.class)) e in
    let ends = and_parts (is_some (named Types av.value.source)) _ all.0 in
    rw (ends.0, ends.1, all.1) refl
