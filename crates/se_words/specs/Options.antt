-- How the words after a tool's name are cut into groups by the tool's table of options. The rules are this project's profile
-- of getopt_long: a value stands behind the first `=` of a long option or is the next word, a short option stands alone, and
-- a value that is a word of its own does not begin with `-`.
use Rattle.std.specs.Prelude.{ℕ, ◌+◌, ◌-◌, ◌==◌, List, [], ◌∷◌, ◌++◌, length, codes, bytes_eq, Bool, true, false, not, ◌||◌, ◌&&◌, nat_lt, Option, Some, None, option_map, if◌then◌else◌, zero, suc}
use Rattle.std.specs.Option.{option_to_list}
use Rattle.std.specs.List.{position_or_len, before_first, after_first, starts_with}
use Rattle.std.specs.Prelude.{nat_eq}
use Rattle.se_words.specs.Word.{begins_with_dash}
use Rattle.se_words.specs.declared.rows.ValueKind.{ValueKind as ValueKindCode}
use Rattle.se_words.specs.declared.rows.ValueKind.TheVariants.{Text as TextCode, Number as NumberCode, CommaList as CommaListCode, CommaListUnless as CommaListUnlessCode, States as StatesCode}
use Rattle.se_words.specs.declared.rows.Takes.{Takes as TakesCode}
use Rattle.se_words.specs.declared.rows.Takes.TheVariants.{Nothing as NothingCode, OptionalName as OptionalNameCode, Value as ValueCode}
use Rattle.se_words.specs.declared.rows.OptionRow.{OptionRow}
use Rattle.se_words.specs.declared.rows.Spelling.{Spelling as SpellingCode}
use Rattle.se_words.specs.declared.rows.Spelling.TheVariants.{Other as OtherCode, Alone as AloneCode, Joined as JoinedCode}
use Rattle.se_words.specs.declared.cut.WordMode.{WordMode}
use Rattle.se_words.specs.declared.groups.Named.{Named as NamedCode}
use Rattle.se_words.specs.declared.groups.Group.{Group as GroupCode}
use Rattle.se_words.specs.declared.groups.Group.TheVariants.{Positional as PositionalCode, Given as GivenCode, Misfit as MisfitCode}
use Rattle.se_words.specs.declared.cut.Head.{Head as HeadCode}

-- What the value of an option has to be: any text; a number from a least to a most; a list that is parted by commas; such a list,
-- but any text where the option of that name is given; or such a list of states of booleans.
pub data ValueKind : Type 0 where
  Text : ValueKind
  Number : ℕ → ℕ → ValueKind
  CommaList : ValueKind
  CommaListUnless : List ℕ → ValueKind
  States : ValueKind

-- what an option takes: nothing, a name that may be left out, or a value
pub data Takes : Type 0 where
  Nothing : Takes
  OptionalName : Takes
  Value : ValueKind → Takes

-- A row of a table of options: its short form, if it has one besides its name, its name, and what it takes. The name is its long
-- form, with its dashes, or the short one of an option that has no other.
pub record Row : Type 0 where
  pub short : Option (List ℕ)
  pub name : List ℕ
  pub takes : Takes

-- an option that takes nothing
abbrev pub switch : Option (List ℕ) → List ℕ → Row
switch short name = record { short = short; name = name; takes = Nothing }

-- an option that may take a name
abbrev pub naming : Option (List ℕ) → List ℕ → Row
naming short name = record { short = short; name = name; takes = OptionalName }

-- an option that takes a value
abbrev pub valued : Option (List ℕ) → List ℕ → ValueKind → Row
valued short name kind = record { short = short; name = name; takes = Value kind }

-- a text, and the number of the word that has it
pub record Named : Type 0 where
  pub text : List ℕ
  pub word : ℕ

abbrev pub named : List ℕ → ℕ → Named
named text word = record { text = text; word = word }

-- A group of words: a positional word; the option of a row with its value, if it has one; or the word of that number, which does
-- not fit, or is wanted and not there.
pub data Group : Type 0 where
  Positional : Named → Group
  Given : Row → Option Named → Group
  Misfit : ℕ → Group

-- What stands first of the words that are left: its group, if it is not `--`, the number of further words that belong to it, and
-- how the words after them are read.
pub record Head : Type 0 where
  pub group : Option Group
  pub further : ℕ
  pub mode : WordMode

abbrev pub head : Group → ℕ → WordMode → Head
head group further mode = record { group = Some group; further = further; mode = mode }

-- how a word spells an option: not at all, alone, or joined to a value
pub data Spelling : Type 0 where
  Other : Spelling
  Alone : Spelling
  Joined : List ℕ → Spelling

-- a text is the short form, if there is one
abbrev pub is_short : Option (List ℕ) → List ℕ → Bool
is_short None text = false
is_short (Some short) text = bytes_eq text short

abbrev pub is_equals : ℕ → Bool
is_equals byte = byte == 61

-- a text is a long form and a value behind the first `=`
abbrev pub is_joined : List ℕ → List ℕ → Bool
is_joined name text = starts_with nat_eq name (codes "--") && nat_lt (position_or_len is_equals text) (length text) && bytes_eq (before_first is_equals text) name

-- how a text spells the option of a row
unfoldable pub spelling_of : Row → List ℕ → Spelling
spelling_of row text =
    if is_short row.short text || bytes_eq text row.name then Alone else (if is_joined row.name text then Joined (after_first is_equals text) else Other)

-- the text of a word, if it may be a value
abbrev pub value_of_word : Option (List ℕ) → Option (List ℕ)
value_of_word None = None
value_of_word (Some text) = if begins_with_dash text then None else Some text

-- word n is an option that may take a name, with the words after it: the next one, if that may be a value
abbrev pub naming_head : WordMode → ℕ → Row → List (Option (List ℕ)) → Head
naming_head mode n row [] = head (Given row None) 0 mode
naming_head mode n row (word ∷ words) = elim (value_of_word word) [
  | None ↦ head (Given row None) 0 mode
  | Some name ↦ head (Given row (Some (named name (n + 1)))) 1 mode
]

-- Word n is an option that takes a value, with the words after it. The next word is the value; where it may not be one, it does not
-- fit, and is used up.
abbrev pub valued_head : WordMode → ℕ → Row → List (Option (List ℕ)) → Head
valued_head mode n row [] = head (Misfit (n + 1)) 0 mode
valued_head mode n row (word ∷ words) = elim (value_of_word word) [
  | None ↦ head (Misfit (n + 1)) 1 mode
  | Some value ↦ head (Given row (Some (named value (n + 1)))) 1 mode
]

-- word n is the option of a row alone, with the words after it
abbrev pub alone_head : WordMode → ℕ → Row → Takes → List (Option (List ℕ)) → Head
alone_head mode n row Nothing words = head (Given row None) 0 mode
alone_head mode n row OptionalName words = naming_head mode n row words
alone_head mode n row (Value kind) words = valued_head mode n row words

-- word n is the option of a row joined to a value
abbrev pub joined_head : WordMode → ℕ → Row → Takes → List ℕ → Head
joined_head mode n row Nothing value = head (Misfit n) 0 mode
joined_head mode n row takes value = head (Given row (Some (named value n))) 0 mode

-- word n begins with `-`: it is the option of the first row that it spells
unfoldable pub option_head : List Row → WordMode → ℕ → List ℕ → List (Option (List ℕ)) → Head
option_head [] mode n text words = head (Misfit n) 0 mode
option_head (row ∷ rows) mode n text words = elim (spelling_of row text) [
  | Other ↦ option_head rows mode n text words
  | Alone ↦ alone_head mode n row row.takes words
  | Joined value ↦ joined_head mode n row row.takes value
]

-- word n is positional, if one more may come. The word `-` alone never is.
abbrev pub positional_head : WordMode → ℕ → List ℕ → Head
positional_head mode n text =
    if nat_lt 0 mode.free && not (bytes_eq text (codes "-"))
    then head (Positional (named text n)) 0 (record { closed = mode.closed; free = mode.free - 1 }) else head (Misfit n) 0 mode

-- what word n and the words after it begin with
unfoldable pub head_of : List Row → WordMode → ℕ → Option (List ℕ) → List (Option (List ℕ)) → Head
head_of rows mode n None words = head (Misfit n) 0 mode
head_of rows mode n (Some text) words =
    if mode.closed || not (begins_with_dash text) then positional_head mode n text
    else (if bytes_eq text (codes "--") then record { group = None; further = 0; mode = record { closed = true; free = mode.free } }
    else option_head rows mode n text words)

-- the groups of some words, of which the first has number n and so many belong to the group before them
unfoldable pub cut : List Row → WordMode → ℕ → ℕ → List (Option (List ℕ)) → List Group
cut rows mode taken n [] = []
cut rows mode (suc taken) n (word ∷ words) = cut rows mode taken (n + 1) words
cut rows mode zero n (word ∷ words) =
    let first = head_of rows mode n word words in option_to_list first.group ++ cut rows first.mode first.further (n + 1) words

-- the groups of the words after a tool's name, which is word 1, where so many positional words may come
abbrev pub groups_of : List Row → ℕ → List (Option (List ℕ)) → List Group
groups_of rows free words = cut rows (record { closed = false; free = free }) 0 2 words

-- what the code's values say
abbrev pub kind_view : ValueKindCode → ValueKind
kind_view TextCode = Text
kind_view (NumberCode least most) = Number least most
kind_view CommaListCode = CommaList
kind_view (CommaListUnlessCode option) = CommaListUnless option.now
kind_view StatesCode = States

abbrev pub takes_view : TakesCode → Takes
takes_view NothingCode = Nothing
takes_view OptionalNameCode = OptionalName
takes_view (ValueCode kind) = Value (kind_view kind)

abbrev pub row_view : OptionRow → Row
row_view row = record { short = option_map (λ short. short.now) row.short; name = row.name.now; takes = takes_view row.takes }

abbrev pub named_view : NamedCode → Named
named_view name = named name.text.now name.word

abbrev pub group_view : GroupCode → Group
group_view (PositionalCode name) = Positional (named_view name)
group_view (GivenCode row value) = Given (row_view row) (option_map named_view value)
group_view (MisfitCode n) = Misfit n

abbrev pub spelling_view : SpellingCode → Spelling
spelling_view OtherCode = Other
spelling_view AloneCode = Alone
spelling_view (JoinedCode value) = Joined value.now

abbrev pub head_view : HeadCode → Head
head_view first = record { group = option_map group_view first.group; further = first.further; mode = first.mode }
