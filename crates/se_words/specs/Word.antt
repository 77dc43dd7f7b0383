-- A word of a command line: its text, or that it is none.
use Rattle.std.specs.Prelude.{ℕ, List, [], ◌∷◌, string_bytes, bytes_eq, ◌==◌, if◌then◌else◌, Bool, false, Option, Some, None}
use Rattle.std.specs.Str.{is_utf8}
use Rattle.se_words.specs.declared.words.Word.{Word}
use Rattle.se_words.specs.declared.words.Word.TheVariants.{Text, NotText}

-- the text of a word, if it is one
abbrev pub text_of : Word → Option (List ℕ)
text_of (Text text) = Some (string_bytes text)
text_of NotText = None

-- the text that some bytes are, if they are UTF-8
abbrev pub text_in : List ℕ → Option (List ℕ)
text_in bytes = if is_utf8 bytes then Some bytes else None

-- a word is this text
abbrev pub is_word : List ℕ → Option (List ℕ) → Bool
is_word text (Some word) = bytes_eq word text
is_word text None = false

-- the first byte is `-`, as that of an option is
abbrev pub begins_with_dash : List ℕ → Bool
begins_with_dash [] = false
begins_with_dash (byte ∷ bytes) = byte == 45
