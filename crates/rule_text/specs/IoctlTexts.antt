-- The text of ioctl numbers (this project's profile, after the numbers that sesearch of SETools prints).
use Rattle.std.specs.Prelude.{ℕ, ◌-◌, ◌/◌, ◌%◌, List, ◌++◌, length, map, codes, get_or, nat_le, if◌then◌else◌}
use Rattle.pol_mls.specs.MlsTexts.{runs_of}
use Rattle.pol_avtab.specs.XPerms.{Numbers, numbers_of}
use Rattle.pol_texts.specs.Hexadecimal.{hex_byte}
use Rattle.pol_texts.specs.SetTexts.{set_text}

-- a number of 16 bits: 0x and four lower hexadecimal digits
unfoldable pub number_text : ℕ → List ℕ
number_text number = codes "0x" ++ hex_byte (number / 256) ++ hex_byte (number % 256)

-- numbers that rise by one each: one is its text, and more are FIRST-LAST
unfoldable pub run_text : List ℕ → List ℕ
run_text run =
    if nat_le 2 (length run) then number_text (get_or run 0 0) ++ codes "-" ++ number_text (get_or run (length run - 1) 0)
    else number_text (get_or run 0 0)

-- rising numbers, as the set of the maximal runs of those that rise by one
unfoldable pub runs_text : List ℕ → List ℕ
runs_text numbers = set_text (map run_text (runs_of numbers))

-- the runs of the numbers that an extended rule holds
abbrev pub ioctl_text : Numbers → List ℕ
ioctl_text x = runs_text (numbers_of x)
