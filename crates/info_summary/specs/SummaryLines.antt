-- The lines of a summary.
use Rattle.std.specs.Prelude.{ℕ, List, ◌++◌, codes, decimal}
use Rattle.info_summary.specs.declared.entry.Value.{Value}
use Rattle.info_summary.specs.declared.entry.Value.TheVariants.{Number, Word}
use Rattle.info_summary.specs.declared.entry.Entry.{Entry}

-- WORDS: TEXT
unfoldable pub summary_line : List ℕ → List ℕ → List ℕ
summary_line words text = words ++ codes ": " ++ text

-- WORDS: N
abbrev pub count_line : List ℕ → ℕ → List ℕ
count_line words number = summary_line words (decimal number)

-- the text of a value of the code
abbrev pub value_text : Value → List ℕ
value_text (Number number) = decimal number
value_text (Word word) = word.now

-- the line of an entry of the code
abbrev pub entry_line : Entry → List ℕ
entry_line entry = summary_line entry.words.now (value_text entry.value)
