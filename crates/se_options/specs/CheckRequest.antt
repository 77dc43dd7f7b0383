-- What sechecker is asked: its two positional words. It has no options.
use Rattle.std.specs.Prelude.{List, ◌∷◌, Option, Some, None}
use Rattle.se_words.specs.Options.{Named, Group, named_view}
use Rattle.se_words.specs.Given.{positionals}
use Rattle.se_options.specs.declared.check_request.CheckRequest.{CheckRequest}

-- what sechecker is asked: of the policy of that name, the checks of the list of that name
pub record CheckAsks : Type 0 where
  pub policy : Named
  pub list : Named

-- that, if the positional words name both
abbrev pub check_by : List Named → Option CheckAsks
check_by (policy ∷ list ∷ names) = Some (record { policy = policy; list = list })
check_by names = None

-- what groups of words ask of sechecker, if they do
abbrev pub check_in : List Group → Option CheckAsks
check_in groups = check_by (positionals groups)

-- what a request of the code says
abbrev pub check_view : CheckRequest → CheckAsks
check_view asks = record { policy = named_view asks.policy; list = named_view asks.list }
