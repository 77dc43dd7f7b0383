-- The words of a checklist: kinds of checks, the keys of each kind, and the causes to refuse a list. The kinds and most keys are those of
-- SETools' sechecker.
use Rattle.std.specs.Prelude.{ℕ, Bool, ◌==◌, ◌&&◌, not, nat_le, List, codes, Option, Some, None, if◌then◌else◌}
use Rattle.std.specs.Str.{bytes_eq}
use Rattle.check_list.specs.declared.check_kind.CheckKind.{CheckKind}
use Rattle.check_list.specs.declared.check_kind.CheckKind.TheVariants.{AssertTe, EmptyTypeattr, RoExecs}
use Rattle.check_list.specs.declared.check_key.CheckKey.{CheckKey}
use Rattle.check_list.specs.declared.check_key.CheckKey.TheVariants.{Source, Target, Class, Perms, ExemptSource, ExemptTarget, Attr, MissingOk, ExemptFile, ExemptWriteDomain, ExemptExecDomain}
use Rattle.check_list.specs.declared.list_fault.ListCause.{ListCause}
use Rattle.check_list.specs.declared.list_fault.ListCause.TheVariants as causes

abbrev pub kind_word : CheckKind → List ℕ
kind_word AssertTe = codes "assert_te"
kind_word EmptyTypeattr = codes "empty_typeattr"
kind_word RoExecs = codes "ro_execs"

abbrev pub kind_named : List ℕ → Option CheckKind
kind_named word =
    if bytes_eq word (codes "assert_te") then Some AssertTe else
    if bytes_eq word (codes "empty_typeattr") then Some EmptyTypeattr else
    if bytes_eq word (codes "ro_execs") then Some RoExecs else None

-- ---- keys

abbrev pub assert_key : List ℕ → Option CheckKey
assert_key word =
    if bytes_eq word (codes "source") then Some Source else
    if bytes_eq word (codes "target") then Some Target else
    if bytes_eq word (codes "class") then Some Class else
    if bytes_eq word (codes "perms") then Some Perms else
    if bytes_eq word (codes "exempt_source") then Some ExemptSource else
    if bytes_eq word (codes "exempt_target") then Some ExemptTarget else None

abbrev pub empty_key : List ℕ → Option CheckKey
empty_key word =
    if bytes_eq word (codes "attr") then Some Attr else
    if bytes_eq word (codes "missing_ok") then Some MissingOk else None

abbrev pub execs_key : List ℕ → Option CheckKey
execs_key word =
    if bytes_eq word (codes "exempt_file") then Some ExemptFile else
    if bytes_eq word (codes "exempt_write_domain") then Some ExemptWriteDomain else
    if bytes_eq word (codes "exempt_exec_domain") then Some ExemptExecDomain else None

-- the key of a word, if that kind of check has it
abbrev pub key_named : CheckKind → List ℕ → Option CheckKey
key_named AssertTe word = assert_key word
key_named EmptyTypeattr word = empty_key word
key_named RoExecs word = execs_key word

-- keys by numbers, to compare them
abbrev pub key_number : CheckKey → ℕ
key_number Source = 0
key_number Target = 1
key_number Class = 2
key_number Perms = 3
key_number ExemptSource = 4
key_number ExemptTarget = 5
key_number Attr = 6
key_number MissingOk = 7
key_number ExemptFile = 8
key_number ExemptWriteDomain = 9
key_number ExemptExecDomain = 10

-- ---- names and causes

-- a byte of a check's name is printable, and neither a space nor a closing bracket, which is 93
abbrev pub is_name_byte : ℕ → Bool
is_name_byte byte = (nat_le 0x21 byte && nat_le byte 0x7E) && not (byte == 93)

abbrev pub cause_word : ListCause → List ℕ
cause_word causes.BadLine = codes "BadLine"
cause_word causes.NoCheck = codes "NoCheck"
cause_word causes.Missing = codes "Missing"
cause_word causes.DuplicateName = codes "DuplicateName"
cause_word causes.BadType = codes "BadType"
cause_word causes.BadKey = codes "BadKey"
cause_word causes.BadValue = codes "BadValue"
cause_word causes.UnknownName = codes "UnknownName"
