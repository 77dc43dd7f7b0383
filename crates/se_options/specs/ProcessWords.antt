-- The words that a process was started with, from the bytes in which Linux tells them (proc_pid_cmdline(5)): each word, the
-- program's name before all others, ends at a zero byte.
use Rattle.std.specs.Prelude.{ℕ, List, ◌-◌, ◌==◌, Bool, Option, length, take, drop, map}
use Rattle.std.specs.List.{slice_split}
use Rattle.se_words.specs.Word.{text_in}

abbrev pub is_zero : ℕ → Bool
is_zero byte = byte == 0

-- what ends at a zero byte: all parts between zero bytes but the last, at which no more come
abbrev pub ended : List ℕ → List (List ℕ)
ended bytes = take (length (slice_split is_zero bytes) - 1) (slice_split is_zero bytes)

-- the words after the program's name: each is a text where its bytes are UTF-8, and else none
unfoldable pub process_words : List ℕ → List (Option (List ℕ))
process_words bytes = map text_in (drop 1 (ended bytes))
