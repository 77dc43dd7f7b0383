use Rattle.pol_read.proofs.DeclaredTypes.{declared_type_has_flavour, declared_type_is_value}
use Rattle.pol_read.proofs.declared_law.declared_types_have_law.Goals as goal

pub returns-clause-flavour : goal.returns-clause-flavour
returns-clause-flavour c = declared_type_has_flavour

pub returns-clause-value : goal.returns-clause-value
returns-clause-value c = declared_type_is_value
