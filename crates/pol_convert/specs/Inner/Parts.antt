-- What the transitions of a group have in common, as it is looked up.
use Rattle.pol_convert.specs.Grouped.{CommonPart}
use Rattle.pol_convert.specs.declared.rows.CommonKey.{CommonKey}

abbrev pub shown : CommonKey → CommonPart
shown key = record { name = key.name.now; target = key.target; class = key.class }
