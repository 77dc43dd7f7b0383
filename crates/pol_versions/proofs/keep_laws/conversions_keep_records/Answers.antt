use Rattle.pol_versions.proofs.KeptLists.{conversion_has_version, conversion_keeps_records}
use Rattle.pol_versions.proofs.keep_laws.conversions_keep_records.Goals as goal

pub returns-clause-version : goal.returns-clause-version
returns-clause-version c = conversion_has_version

pub returns-clause-records : goal.returns-clause-records
returns-clause-records c = conversion_keeps_records
