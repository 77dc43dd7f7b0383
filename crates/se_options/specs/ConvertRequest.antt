-- What seconvert is asked. Its option is that of the manual page seconvert(1) of SETools, and the policy comes out where others write it
-- to a file.
use Rattle.std.specs.Prelude.{ℕ, List, [], ◌∷◌, codes, Option, Some, None}
use Rattle.se_words.specs.Options.{Row, ValueKind, Named, Group, Number, valued, named_view}
use Rattle.se_words.specs.Given.{first_positional, given_number}
use Rattle.se_options.specs.declared.convert_request.ConvertRequest.{ConvertRequest}

-- the versions that a policy can have, 28 to 34
abbrev pub version_kind : ValueKind
version_kind = Number 28 34

-- the option that gives one
abbrev pub version_option : Row
version_option = valued None (codes "-c") version_kind

-- the options of seconvert
unfoldable pub convert_options : List Row
convert_options = version_option ∷ []

-- the version that is asked for
abbrev pub version_in : List Group → Option ℕ
version_in groups = given_number 28 34 version_option.name groups

-- what seconvert is asked: the policy of that name, at a version
pub record ConvertAsks : Type 0 where
  pub policy : Named
  pub version : ℕ

-- that, if the words name a policy and give a version
abbrev pub convert_by : Option Named → Option ℕ → Option ConvertAsks
convert_by (Some policy) (Some version) = Some (record { policy = policy; version = version })
convert_by policy version = None

-- what groups of words ask of seconvert, if they do both
abbrev pub convert_in : List Group → Option ConvertAsks
convert_in groups = convert_by (first_positional groups) (version_in groups)

-- what a request of the code says
abbrev pub convert_view : ConvertRequest → ConvertAsks
convert_view asks = record { policy = named_view asks.policy; version = asks.version }
