-- What seinfoflow is asked. Its options are those of the manual page seinfoflow(1) of SETools, with `--bool-state` and `--from`, which are
-- this project's own.
use Rattle.std.specs.Prelude.{ℕ, List, [], ◌∷◌, codes, map, option_map, unwrap_or, Bool, true, Option, Some, None}
use Rattle.se_words.specs.Options.{Row, ValueKind, Named, Group, Text, Number, valued, named_view}
use Rattle.se_words.specs.Given.{given_number, given_value, is_given, positionals}
use Rattle.se_words.specs.States.{State, given_states, state_view}
use Rattle.se_options.specs.Window.{limit_kind, from_option, limit_in, from_in}
use Rattle.se_options.specs.WalkOptions.{policy_option, source_option, target_option, shortest_option, all_option, reverse_option, states_option, all_in, options_agree}
use Rattle.se_options.specs.declared.flow_request.FlowRequest.{FlowRequest}

-- the option that names the permission map
abbrev pub map_option : Row
map_option = valued (Some (codes "-m")) (codes "--map") Text

-- a weight is from 1 to 10
abbrev pub weight_kind : ValueKind
weight_kind = Number 1 10

-- the option that gives the least weight of a flow
abbrev pub weight_option : Row
weight_option = valued (Some (codes "-w")) (codes "--min_weight") weight_kind

-- the option that limits how many flows or walks are listed
abbrev pub limit_flows_option : Row
limit_flows_option = valued (Some (codes "-l")) (codes "--limit_flows") limit_kind

-- the options of seinfoflow
unfoldable pub flow_options : List Row
flow_options =
    policy_option ∷ map_option ∷ source_option ∷ target_option ∷ shortest_option ∷ all_option ∷ weight_option ∷ reverse_option ∷ states_option ∷ limit_flows_option ∷ from_option ∷ []

-- the least weight of a flow that is listed: 3, unless one is given
abbrev pub least_in : List Group → ℕ
least_in groups = unwrap_or (given_number 1 10 weight_option.name groups) 3

-- what seinfoflow is asked: of the policy of that name, under the map of that name, the flows of a source of at least a weight, or walks
-- of such flows to a target, all shortest ones or all of at most so many steps that have no type twice, around excluded types; where
-- booleans are stated, by the rules that count then
pub record FlowAsks : Type 0 where
  pub policy : Named
  pub map_file : Named
  pub source : Named
  pub target : Option Named
  pub shortest : Bool
  pub all : Option ℕ
  pub least : ℕ
  pub reverse : Bool
  pub excluded : List Named
  pub states : Option (List State)
  pub from : ℕ
  pub limit : Option ℕ

-- that, of a policy, a map and a source
abbrev pub flow_asks : Named → Named → Named → List Group → FlowAsks
flow_asks policy map_file source groups = record {
  policy = policy;
  map_file = map_file;
  source = source;
  target = given_value target_option.name groups;
  shortest = is_given shortest_option.name groups;
  all = all_in groups;
  least = least_in groups;
  reverse = is_given reverse_option.name groups;
  excluded = positionals groups;
  states = given_states states_option.name groups;
  from = from_in groups;
  limit = limit_in limit_flows_option.name groups;
}

-- that, if the words name all three, and their options agree
abbrev pub flow_by : Option Named → Option Named → Option Named → Bool → List Group → Option FlowAsks
flow_by (Some policy) (Some map_file) (Some source) true groups = Some (flow_asks policy map_file source groups)
flow_by policy map_file source agree groups = None

-- what groups of words ask of seinfoflow, if they name a policy, a map and a source, and their options agree
abbrev pub flow_in : List Group → Option FlowAsks
flow_in groups =
    flow_by (given_value policy_option.name groups) (given_value map_option.name groups) (given_value source_option.name groups) (options_agree groups) groups

-- what a request of the code says
abbrev pub flow_view : FlowRequest → FlowAsks
flow_view asks = record {
  policy = named_view asks.policy;
  map_file = named_view asks.map;
  source = named_view asks.source;
  target = option_map named_view asks.target;
  shortest = asks.shortest;
  all = asks.all;
  least = asks.least;
  reverse = asks.reverse;
  excluded = map named_view asks.excluded.items;
  states = option_map (λ states. map state_view states.items) asks.states;
  from = asks.from;
  limit = asks.limit;
}
