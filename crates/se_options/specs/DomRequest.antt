-- What sedta is asked. Its options are those of the manual page sedta(1) of SETools, with `--bool-state` and `--from`, which are this project's own.
use Rattle.std.specs.Prelude.{ℕ, List, [], ◌∷◌, codes, map, option_map, Bool, true, Option, Some, None}
use Rattle.se_words.specs.Options.{Row, Named, Group, valued, named_view}
use Rattle.se_words.specs.Given.{given_value, is_given, positionals}
use Rattle.se_words.specs.States.{State, given_states, state_view}
use Rattle.se_options.specs.Window.{limit_kind, from_option, limit_in, from_in}
use Rattle.se_options.specs.WalkOptions.{policy_option, source_option, target_option, shortest_option, all_option, reverse_option, states_option, all_in, options_agree}
use Rattle.se_options.specs.declared.dom_request.DomRequest.{DomRequest}

-- the option that limits how many transitions or walks are listed
abbrev pub limit_trans_option : Row
limit_trans_option = valued (Some (codes "-l")) (codes "--limit_trans") limit_kind

-- the options of sedta
unfoldable pub dom_options : List Row
dom_options = policy_option ∷ source_option ∷ target_option ∷ shortest_option ∷ all_option ∷ reverse_option ∷ states_option ∷ limit_trans_option ∷ from_option ∷ []

-- what sedta is asked: of the policy of that name, the transitions of a source, or walks of transitions to a target, all shortest ones or
-- all of at most so many steps that have no type twice, around excluded types; where booleans are stated, by the rules that count then
pub record DomAsks : Type 0 where
  pub policy : Named
  pub source : Named
  pub target : Option Named
  pub shortest : Bool
  pub all : Option ℕ
  pub reverse : Bool
  pub excluded : List Named
  pub states : Option (List State)
  pub from : ℕ
  pub limit : Option ℕ

-- that, of a policy and a source
abbrev pub dom_asks : Named → Named → List Group → DomAsks
dom_asks policy source groups = record {
  policy = policy;
  source = source;
  target = given_value target_option.name groups;
  shortest = is_given shortest_option.name groups;
  all = all_in groups;
  reverse = is_given reverse_option.name groups;
  excluded = positionals groups;
  states = given_states states_option.name groups;
  from = from_in groups;
  limit = limit_in limit_trans_option.name groups;
}

-- that, if the words name both, and their options agree
abbrev pub dom_by : Option Named → Option Named → Bool → List Group → Option DomAsks
dom_by (Some policy) (Some source) true groups = Some (dom_asks policy source groups)
dom_by policy source agree groups = None

-- what groups of words ask of sedta, if they name a policy and a source, and their options agree
abbrev pub dom_in : List Group → Option DomAsks
dom_in groups = dom_by (given_value policy_option.name groups) (given_value source_option.name groups) (options_agree groups) groups

-- what a request of the code says
abbrev pub dom_view : DomRequest → DomAsks
dom_view asks = record {
  policy = named_view asks.policy;
  source = named_view asks.source;
  target = option_map named_view asks.target;
  shortest = asks.shortest;
  all = asks.all;
  reverse = asks.reverse;
  excluded = map named_view asks.excluded.items;
  states = option_map (λ states. map state_view states.items) asks.states;
  from = asks.from;
  limit = asks.limit;
}
