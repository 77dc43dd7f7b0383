-- What records of the table of types declare.
use Rattle.std.specs.Prelude.{Bool, true, false, Option, Some}
use Rattle.pol_datums.specs.declared.Flavour.{Flavour}
use Rattle.pol_datums.specs.declared.Flavour.TheVariants.{Plain, Attribute}

-- a record declares a value of that flavour
abbrev pub is_flavour : Flavour → Option Flavour → Bool
is_flavour Plain (Some Plain) = true
is_flavour Attribute (Some Attribute) = true
is_flavour flavour other = false
