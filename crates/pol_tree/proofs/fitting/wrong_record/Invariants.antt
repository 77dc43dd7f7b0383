use Rattle.std.proofs.Common.{◌≡◌, drop}
use Rattle.std.specs.List.{AllByRecursion}
use Rattle.pol_tree.specs.OptionalParts.{first_in}
use Rattle.pol_tree.specs.Inner.Fitting.{IsFitting}
use Rattle.pol_tree.proofs.fitting.wrong_record.Given as goal

-- none of the records before has a wrong part, and each of them was looked at
abbrev pub invariant-loop-record : goal.invariant-loop-record
invariant-loop-record g l =
    let shape = g.T.Fitting.shape l.version in
    let P = IsFitting shape (g.T.Fitting.fits l.version) g.T.Written.spelling in
    (first_in shape l.records ≡ first_in shape (drop l.record-index l.records)) × (AllByRecursion P (drop l.record-index l.records) → AllByRecursion P l.records)
