-- The references of a record, as the code has them.
use Rattle.std.specs.Prelude.{List, map}
use Rattle.pol_cursor.specs.References.{Reference}
use Rattle.pol_cursor.specs.declared.mention.Mention.{Mention}

abbrev pub reference_of : Mention → Reference
reference_of mention = record { place = mention.place; field = mention.field; table = mention.table; value = mention.value }

abbrev pub references_of : List Mention → List Reference
references_of mentions = map reference_of mentions
