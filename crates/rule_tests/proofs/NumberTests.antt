-- Tests of numbers.
use Rattle.std.proofs.Common.{◌≡◌, refl}
use Rattle.pol_read.specs.declared.RulePart.{RulePart}
use Rattle.pol_read.specs.declared.RulePart.TheVariants as parts
use Rattle.rule_criteria.specs.declared.Criterion.{Criterion}
use Rattle.rule_tests.specs.declared.number_test.NumberTest.{NumberTest}
use Rattle.rule_tests.specs.AskedNumbers.{meets_numbers}
use Rattle.rule_tests.specs.PartTests.{numbers_test, IsNumberTest}

pub numbers_are : (criterion : Criterion) (test : NumberTest) (part : RulePart) → IsNumberTest criterion test → numbers_test test part ≡ meets_numbers criterion part
numbers_are criterion test (parts.Numbers numbers) is = rw (is.mode, is.spans) refl
numbers_are criterion test (parts.Perms mask) is = refl
numbers_are criterion test (parts.Default value) is = refl
numbers_are criterion test (parts.Range range) is = refl
numbers_are criterion test parts.Nothing is = refl
