-- `--from` and `-l` behind the other words ask for just these items.
use Rattle.std.proofs.Common.{◌≡◌, ◌+◌, ◌++◌, ◌∷◌, [], ℕ, List, length, Bool, true, false, true≢false, Option, Some, None, Result, Ok, Err, option_map, sym, ◌∙◌, ap, subst, refl, arith}
use Rattle.std.specs.Prelude.{bytes_eq, codes, cond, is_some, ◌&&◌, ◌||◌}
use Rattle.std.specs.List.{All}
use Rattle.std.specs.Option.{ok_or, option_flatten, option_or, option_to_list}
use Rattle.std.proofs.lemmas.List.{append-nil, length-append}
use Rattle.std.proofs.lemmas.List.Elements.{All-tail, filter_map-append}
use Rattle.se_items.specs.Paging.{most_items}
use Rattle.se_words.specs.Word.{begins_with_dash, is_word}
use Rattle.se_words.specs.Options.{Row, Named, Group, Given, Head, ValueKind, Number, Value, alone_head, cut, groups_of, head, head_of, named, option_head, spelling_of, valued_head, value_of_word}
use Rattle.se_words.specs.Given.{first_positional, given_value, last_value, positional_in, positionals}
use Rattle.se_words.specs.Misfits.{first_misfit, misfit_among, misfit_in}
use Rattle.se_words.specs.Values.{number_within}
use Rattle.se_words.specs.declared.cut.WordMode.{WordMode}
use Rattle.se_options.specs.Asked.{asked_by, asked_of}
use Rattle.se_options.specs.Window.{from_in, from_option, from_words, limit_in, limit_kind, page_words}
use Rattle.se_options.specs.InfoRequest.{info_in, info_options}
use Rattle.se_options.specs.SearchRequest.{SearchAsks, asks_for_rules, limit_option, modes_agree, search_asks, search_by, search_in, search_options}
use Rattle.se_options.specs.DomRequest.{DomAsks, dom_asks, dom_by, dom_in, dom_options, limit_trans_option}
use Rattle.se_options.specs.FlowRequest.{FlowAsks, flow_asks, flow_by, flow_in, flow_options, limit_flows_option, map_option}
use Rattle.se_options.specs.ConvertRequest.{convert_in, convert_options}
use Rattle.se_options.specs.CheckRequest.{check_in}
use Rattle.se_options.specs.MakeRequest.{MakeAsks, make_asked}
use Rattle.se_options.specs.WalkOptions.{options_agree, policy_option, source_option}
use Rattle.se_options.specs.Request.{Asks, About, Make, Question, Info, Search, Dom, Flow, Convert, Check, comes_by_pages, limit_of, of_tool, paged, request_of}
use Rattle.se_options.proofs.LaterWords.{among_append, apart, freer, mode_behind}
use Rattle.se_options.proofs.LaterGroups.{among_more, last_append, number_plain, positional_kept}

-- ---- the groups of a page

-- `--from` with its value, which is word n
abbrev from_group : List ℕ → ℕ → Group
from_group text n = Given from_option (Some (named text n))

-- an option that limits, with its value
abbrev limit_group : Row → List ℕ → ℕ → Group
limit_group row most n = Given row (Some (named most n))

-- the option is one of a page
abbrev is_limit : List ℕ → Bool
is_limit option = bytes_eq (codes "-l") option || bytes_eq (codes "--limit_trans") option || bytes_eq (codes "--limit_flows") option

abbrev is_of_page : List ℕ → Bool
is_of_page option = bytes_eq (codes "--from") option || is_limit option

-- what is none of them is no option that limits
record IsNoLimit (option : List ℕ) : Type 0 where
  short : bytes_eq (codes "-l") option ≡ false
  of_transitions : bytes_eq (codes "--limit_trans") option ≡ false
  of_flows : bytes_eq (codes "--limit_flows") option ≡ false

no_limit : (option : List ℕ) → is_of_page option ≡ false → IsNoLimit option
no_limit option other = by (bytes_eq (codes "--from") option) (bytes_eq (codes "-l") option) (bytes_eq (codes "--limit_trans") option) (bytes_eq (codes "--limit_flows") option) refl refl refl other
  where
    by : (from short transitions flows : Bool) → bytes_eq (codes "-l") option ≡ short → bytes_eq (codes "--limit_trans") option ≡ transitions → bytes_eq (codes "--limit_flows") option ≡ flows
        → (from || (short || transitions || flows)) ≡ false → IsNoLimit option
    by true short transitions flows a b c other = absurd (true≢false other)
    by false true transitions flows a b c other = absurd (true≢false other)
    by false false true flows a b c other = absurd (true≢false other)
    by false false false true a b c other = absurd (true≢false other)
    by false false false false a b c other = record { short = a; of_transitions = b; of_flows = c }

-- groups behind others give no option but those of a page, and nothing positional
record AddPage (groups : List Group) : Type 0 where
  others : (option : List ℕ) → is_of_page option ≡ false → last_value option groups ≡ None
  positional : first_positional groups ≡ None
  none_positional : positionals groups ≡ []

module _ (text : List ℕ) (n : ℕ) where
  from_adds : AddPage (from_group text n ∷ [])
  unfolding last_value first_positional
  from_adds = record {
    others = λ option other. by (bytes_eq (codes "--from") option) (is_limit option) other;
    positional = refl;
    none_positional = refl;
  }
    where
      by : (a rest : Bool) → (a || rest) ≡ false → cond a (Some (Some (named text n))) None ≡ None
      by true rest other = absurd (true≢false other)
      by false rest other = refl

  module _ (most : List ℕ) (m : ℕ) where
    page_adds : (row : Row) → ((option : List ℕ) → is_of_page option ≡ false → bytes_eq row.name option ≡ false) → AddPage (from_group text n ∷ limit_group row most m ∷ [])
    unfolding last_value first_positional
    page_adds row limits = record {
      others = λ option other. rw (limits option other) (by (bytes_eq (codes "--from") option) (is_limit option) other);
      positional = refl;
      none_positional = refl;
    }
      where
        by : (a rest : Bool) → (a || rest) ≡ false → cond a (Some (Some (named text n))) None ≡ None
        by true rest other = absurd (true≢false other)
        by false rest other = refl

-- ---- what groups ask, with those of a page behind them

abbrev search_page : ℕ → Option ℕ → SearchAsks → SearchAsks
search_page from limit asks = record asks { from = from; limit = limit }

abbrev dom_page : ℕ → Option ℕ → DomAsks → DomAsks
dom_page from limit asks = record asks { from = from; limit = limit }

abbrev flow_page : ℕ → Option ℕ → FlowAsks → FlowAsks
flow_page from limit asks = record asks { from = from; limit = limit }

module _ (groups page : List Group) (adds : AddPage page) (from : ℕ) (limit : Option ℕ) (from_is : from_in (groups ++ page) ≡ from) where
  same : (option : List ℕ) → is_of_page option ≡ false → last_value option (groups ++ page) ≡ last_value option groups
  same option other = last_append option groups page ∙ ap (λ last. option_or last (last_value option groups)) (adds.others option other)

  excluded : positionals (groups ++ page) ≡ positionals groups
  excluded = filter_map-append positional_in groups page ∙ ap (λ names. positionals groups ++ names) adds.none_positional ∙ append-nil (positionals groups)

  first_same : first_positional (groups ++ page) ≡ first_positional groups
  first_same = positional_kept groups page adds.positional

  module _ (limit_is : limit_in limit_option.name (groups ++ page) ≡ limit) where
    search_asks_more : (policy : Named) → search_asks policy (groups ++ page) ≡ record (search_asks policy groups) { from = from; limit = limit }
    search_asks_more policy = rw (
      same (codes "-A") refl,
      same (codes "--allow") refl,
      same (codes "--auditallow") refl,
      same (codes "--dontaudit") refl,
      same (codes "--allowxperm") refl,
      same (codes "--auditallowxperm") refl,
      same (codes "--dontauditxperm") refl,
      same (codes "--type_trans") refl,
      same (codes "--type_change") refl,
      same (codes "--type_member") refl,
      same (codes "--role_allow") refl,
      same (codes "--role_trans") refl,
      same (codes "--range_trans") refl,
      same (codes "--source") refl,
      same (codes "--target") refl,
      same (codes "--class") refl,
      same (codes "--perms") refl,
      same (codes "--xperms") refl,
      same (codes "--default") refl,
      same (codes "--bool") refl,
      same (codes "-ds") refl,
      same (codes "-dt") refl,
      same (codes "-rs") refl,
      same (codes "-rt") refl,
      same (codes "-rc") refl,
      same (codes "-rd") refl,
      same (codes "-rb") refl,
      same (codes "-ep") refl,
      same (codes "-ex") refl,
      same (codes "-eb") refl,
      same (codes "-Sp") refl,
      same (codes "--singles") refl,
      from_is,
      limit_is,
    ) refl

    search_agree : (asks_for_rules (groups ++ page) && modes_agree (groups ++ page)) ≡ (asks_for_rules groups && modes_agree groups)
    search_agree = rw (
      same (codes "-A") refl,
      same (codes "--allow") refl,
      same (codes "--auditallow") refl,
      same (codes "--dontaudit") refl,
      same (codes "--allowxperm") refl,
      same (codes "--auditallowxperm") refl,
      same (codes "--dontauditxperm") refl,
      same (codes "--type_trans") refl,
      same (codes "--type_change") refl,
      same (codes "--type_member") refl,
      same (codes "--role_allow") refl,
      same (codes "--role_trans") refl,
      same (codes "--range_trans") refl,
      same (codes "-ep") refl,
      same (codes "-Sp") refl,
      same (codes "-eb") refl,
      same (codes "-rb") refl,
    ) refl

    search_more : search_in (groups ++ page) ≡ option_map (search_page from limit) (search_in groups)
    search_more =
        ap (λ policy. search_by policy (asks_for_rules (groups ++ page) && modes_agree (groups ++ page)) (groups ++ page)) first_same
        ∙ ap (λ (agree : Bool). search_by (first_positional groups) agree (groups ++ page)) search_agree
        ∙ by (first_positional groups) (asks_for_rules groups && modes_agree groups)
      where
        by : (policy : Option Named) (agree : Bool) → search_by policy agree (groups ++ page) ≡ option_map (search_page from limit) (search_by policy agree groups)
        by None agree = refl
        by (Some policy) false = refl
        by (Some policy) true = ap Some (search_asks_more policy)

  module _ (limit_is : limit_in limit_trans_option.name (groups ++ page) ≡ limit) where
    dom_asks_more : (policy source : Named) → dom_asks policy source (groups ++ page) ≡ record (dom_asks policy source groups) { from = from; limit = limit }
    dom_asks_more policy source = rw (same (codes "--target") refl, same (codes "--shortest_path") refl, same (codes "-A") refl, same (codes "--reverse") refl, same (codes "--bool-state") refl, excluded, from_is, limit_is) refl

    dom_more : dom_in (groups ++ page) ≡ option_map (dom_page from limit) (dom_in groups)
    dom_more =
        rw (same (codes "--policy") refl, same (codes "--source") refl, same (codes "--target") refl, same (codes "--shortest_path") refl, same (codes "-A") refl, same (codes "--reverse") refl)
        (by (option_flatten (last_value (codes "--policy") groups)) (option_flatten (last_value (codes "--source") groups)) (options_agree groups))
      where
        by : (policy source : Option Named) (agree : Bool) → dom_by policy source agree (groups ++ page) ≡ option_map (dom_page from limit) (dom_by policy source agree groups)
        by None source agree = refl
        by (Some policy) None agree = refl
        by (Some policy) (Some source) false = refl
        by (Some policy) (Some source) true = ap Some (dom_asks_more policy source)

  module _ (limit_is : limit_in limit_flows_option.name (groups ++ page) ≡ limit) where
    flow_asks_more : (policy map_file source : Named) → flow_asks policy map_file source (groups ++ page) ≡ record (flow_asks policy map_file source groups) { from = from; limit = limit }
    flow_asks_more policy map_file source = rw (same (codes "--target") refl, same (codes "--shortest_path") refl, same (codes "-A") refl, same (codes "--min_weight") refl, same (codes "--reverse") refl, same (codes "--bool-state") refl, excluded, from_is, limit_is) refl

    flow_more : flow_in (groups ++ page) ≡ option_map (flow_page from limit) (flow_in groups)
    flow_more =
        rw (same (codes "--policy") refl, same (codes "--map") refl, same (codes "--source") refl, same (codes "--target") refl, same (codes "--shortest_path") refl, same (codes "-A") refl, same (codes "--reverse") refl)
        (by (option_flatten (last_value (codes "--policy") groups)) (option_flatten (last_value (codes "--map") groups)) (option_flatten (last_value (codes "--source") groups)) (options_agree groups))
      where
        by : (policy map_file source : Option Named) (agree : Bool) → flow_by policy map_file source agree (groups ++ page) ≡ option_map (flow_page from limit) (flow_by policy map_file source agree groups)
        by None map_file source agree = refl
        by (Some policy) None source agree = refl
        by (Some policy) (Some map_file) None agree = refl
        by (Some policy) (Some map_file) (Some source) false = refl
        by (Some policy) (Some map_file) (Some source) true = ap Some (flow_asks_more policy map_file source)

-- ---- what words ask, with those of a page behind them

abbrev is_ok : {A : Type 0} → Result A ℕ → Bool
is_ok (Ok asks) = true
is_ok (Err n) = false

abbrev of_result : {A : Type 0} → Result A ℕ → Option A
of_result (Ok asks) = Some asks
of_result (Err n) = None

-- what is asked is asked by groups that all fit
asked_parts : {A : Type 0} (misfit : Option ℕ) (found : Option A) (n : ℕ) (asks : A) → ◌≡◌ {A = Result A ℕ} (elim misfit [ Some m ↦ Err m | None ↦ ok_or found n ]) (Ok asks) → (misfit ≡ None) × (found ≡ Some asks)
asked_parts (Some m) found n asks is = absurd (true≢false (sym (ap is_ok is)))
asked_parts None None n asks is = absurd (true≢false (sym (ap is_ok is)))
asked_parts None (Some found) n asks is = (refl, ap of_result is)

-- and groups that all fit ask it
asked_whole : {A : Type 0} (misfit : Option ℕ) (found : Option A) (n : ℕ) (asks : A) → misfit ≡ None → found ≡ Some asks → ◌≡◌ {A = Result A ℕ} (elim misfit [ Some m ↦ Err m | None ↦ ok_or found n ]) (Ok asks)
asked_whole (Some m) found n asks none is = absurd (true≢false (ap is_some none))
asked_whole None None n asks none is = absurd (true≢false (sym (ap is_some is)))
asked_whole None (Some found) n asks none is = ap (λ o. ok_or o n) is

-- a mode in which `--` did not come
abbrev opened : ℕ → WordMode
opened free = record { closed = false; free = free }

module _ (rows : List Row) where
  -- a word that spells an option, and a value behind it
  option_cut : (free n : ℕ) (row : Row) (kind : ValueKind) (spelling value : List ℕ) (words : List (Option (List ℕ)))
      → begins_with_dash spelling ≡ true → bytes_eq spelling (codes "--") ≡ false → option_head rows (opened free) n spelling (Some value ∷ words) ≡ alone_head (opened free) n row (Value kind) (Some value ∷ words)
      → begins_with_dash value ≡ false → cut rows (opened free) 0 n (Some spelling ∷ Some value ∷ words) ≡ Given row (Some (named value (n + 1))) ∷ cut rows (opened free) 0 (n + 1 + 1) words
  unfolding cut head_of
  option_cut free n row kind spelling value words dash other spelled plain =
      let next : alone_head (opened free) n row (Value kind) (Some value ∷ words) ≡ head (Given row (Some (named value (n + 1)))) 1 (opened free) = rw (plain, alone_head, valued_head, value_of_word) refl in
      let first : head_of rows (opened free) n (Some spelling) (Some value ∷ words) ≡ head (Given row (Some (named value (n + 1)))) 1 (opened free) = rw (dash, other) (spelled ∙ next) in
      ap (λ (h : Head). option_to_list h.group ++ cut rows h.mode h.further (n + 1) (Some value ∷ words)) first

-- how a table spells the options of a page
record Spells (rows : List Row) (limit_row : Row) : Type 0 where
  from_spelled : (mode : WordMode) (n : ℕ) (words : List (Option (List ℕ))) → option_head rows mode n (codes "--from") words ≡ alone_head mode n from_option (Value (Number 0 most_items)) words
  limit_spelled : (mode : WordMode) (n : ℕ) (words : List (Option (List ℕ))) → option_head rows mode n (codes "-l") words ≡ alone_head mode n limit_row (Value limit_kind) words

search_spells : Spells search_options limit_option
unfolding option_head spelling_of search_options
search_spells = record { from_spelled = λ mode n words. refl; limit_spelled = λ mode n words. refl }

dom_spells : Spells dom_options limit_trans_option
unfolding option_head spelling_of dom_options
dom_spells = record { from_spelled = λ mode n words. refl; limit_spelled = λ mode n words. refl }

flow_spells : Spells flow_options limit_flows_option
unfolding option_head spelling_of flow_options
flow_spells = record { from_spelled = λ mode n words. refl; limit_spelled = λ mode n words. refl }

module _ (rows : List Row) (limit_row : Row) (spells : Spells rows limit_row) (text : List ℕ) (plain : begins_with_dash text ≡ false) where
  from_cut : (free n : ℕ) (words : List (Option (List ℕ))) → cut rows (opened free) 0 n (Some (codes "--from") ∷ Some text ∷ words) ≡ from_group text (n + 1) ∷ cut rows (opened free) 0 (n + 1 + 1) words
  from_cut free n words = option_cut rows free n from_option (Number 0 most_items) (codes "--from") text words refl refl (spells.from_spelled (opened free) n (Some text ∷ words)) plain

  is_opened : (mode : WordMode) → mode.closed ≡ false → opened mode.free ≡ mode
  is_opened mode is_open = ap (λ (closed : Bool). record { closed = closed; free = mode.free }) (sym is_open)

  from_cuts : (mode : WordMode) (n : ℕ) → mode.closed ≡ false → cut rows mode 0 n (from_words text) ≡ from_group text (n + 1) ∷ []
  unfolding cut
  from_cuts mode n is_open = subst (λ (m : WordMode). cut rows m 0 n (from_words text) ≡ from_group text (n + 1) ∷ []) (is_opened mode is_open) (from_cut mode.free n [])

  page_cuts : (most : List ℕ) → begins_with_dash most ≡ false → (mode : WordMode) (n : ℕ) → mode.closed ≡ false
      → cut rows mode 0 n (page_words text most) ≡ from_group text (n + 1) ∷ limit_group limit_row most (n + 1 + 1 + 1) ∷ []
  unfolding cut
  page_cuts most limit_plain mode n is_open =
      subst (λ (m : WordMode). cut rows m 0 n (page_words text most) ≡ from_group text (n + 1) ∷ limit_group limit_row most (n + 1 + 1 + 1) ∷ []) (is_opened mode is_open)
      (from_cut mode.free n (Some (codes "-l") ∷ Some most ∷ [])
      ∙ ap (λ (groups : List Group). from_group text (n + 1) ∷ groups)
      (option_cut rows mode.free (n + 1 + 1) limit_row limit_kind (codes "-l") most [] refl refl (spells.limit_spelled (opened mode.free) (n + 1 + 1) (Some most ∷ [])) limit_plain))

number_fits : (groups : List Group) (row : Row) (least most : ℕ) (text : List ℕ) (n number : ℕ) → row.takes ≡ Value (Number least most) → number_within least most text ≡ Some number → misfit_in groups (Given row (Some (named text n))) ≡ None
number_fits groups row least most text n number takes is = rw (takes, is) refl

-- words behind others, whose groups are known, and what they change in what is asked
record Later (rows : List Row) (A : Type 0) (asks_in : List Group → Option A) (dash : List ℕ) (others : List (Option (List ℕ))) (page : A → A) : Type 0 where
  is_dash : begins_with_dash dash ≡ true
  groups_at : ℕ → List Group
  are_cut : (mode : WordMode) (n : ℕ) → mode.closed ≡ false → cut rows mode 0 n (Some dash ∷ others) ≡ groups_at n
  fit : (groups : List Group) (n : ℕ) → misfit_among groups (groups_at n) ≡ None
  asked : (groups : List Group) (n : ℕ) (asks : A) → asks_in groups ≡ Some asks → asks_in (groups ++ groups_at n) ≡ Some (page asks)

module _ (rows : List Row) (A : Type 0) (asks_in : List Group → Option A) (dash : List ℕ) (others : List (Option (List ℕ))) (page : A → A) (later : Later rows A asks_in dash others page) (free k : ℕ) where
  asked_later : (words : List (Option (List ℕ))) (asks : A) → All (λ word. is_word (codes "--") word ≡ false) words → asked_by rows free asks_in words ≡ Ok asks
      → asked_by rows (free + k) asks_in (words ++ Some dash ∷ others) ≡ Ok (page asks)
  asked_later words asks ends is =
      let groups = groups_of rows free words in
      let parts = asked_parts (first_misfit groups) (asks_in groups) (length words + 1 + 1) asks is in
      let start : WordMode = record { closed = false; free = free } in
      let both = apart groups rows k dash others later.is_dash words start 0 2 refl (omega arith) ends parts.0 in
      let added = later.groups_at (2 + length words) in
      let longer : groups_of rows (free + k) (words ++ Some dash ∷ others) ≡ groups ++ added =
      both.apart ∙ ap (λ (gs : List Group). groups ++ gs) (later.are_cut (freer k (mode_behind rows start 0 2 words)) (2 + length words) both.stays) in
      let fit : first_misfit (groups ++ added) ≡ None =
      among_append (groups ++ added) groups added ∙ rw (among_more groups added groups parts.0, later.fit (groups ++ added) (2 + length words)) refl in
      let count = length (words ++ Some dash ∷ others) + 1 in
      ap (λ (gs : List Group). asked_of asks_in count gs) longer
      ∙ asked_whole (first_misfit (groups ++ added)) (asks_in (groups ++ added)) (count + 1) (page asks) fit (later.asked groups (2 + length words) asks parts.1)

-- ---- tool by tool

search_limit : (groups : List Group) (asks : SearchAsks) → search_in groups ≡ Some asks → asks.limit ≡ limit_in limit_option.name groups
search_limit groups asks = by (first_positional groups) (asks_for_rules groups && modes_agree groups)
  where
    limit_from : Option SearchAsks → Option ℕ
    limit_from (Some asks) = asks.limit
    limit_from None = None

    by : (policy : Option Named) (agree : Bool) → search_by policy agree groups ≡ Some asks → asks.limit ≡ limit_in limit_option.name groups
    by None agree is = absurd (true≢false (sym (ap is_some is)))
    by (Some policy) false is = absurd (true≢false (sym (ap is_some is)))
    by (Some policy) true is = sym (ap limit_from is)

dom_limit : (groups : List Group) (asks : DomAsks) → dom_in groups ≡ Some asks → asks.limit ≡ limit_in limit_trans_option.name groups
dom_limit groups asks = by (given_value policy_option.name groups) (given_value source_option.name groups) (options_agree groups)
  where
    limit_from : Option DomAsks → Option ℕ
    limit_from (Some asks) = asks.limit
    limit_from None = None

    by : (policy source : Option Named) (agree : Bool) → dom_by policy source agree groups ≡ Some asks → asks.limit ≡ limit_in limit_trans_option.name groups
    by None source agree is = absurd (true≢false (sym (ap is_some is)))
    by (Some policy) None agree is = absurd (true≢false (sym (ap is_some is)))
    by (Some policy) (Some source) false is = absurd (true≢false (sym (ap is_some is)))
    by (Some policy) (Some source) true is = sym (ap limit_from is)

flow_limit : (groups : List Group) (asks : FlowAsks) → flow_in groups ≡ Some asks → asks.limit ≡ limit_in limit_flows_option.name groups
flow_limit groups asks = by (given_value policy_option.name groups) (given_value map_option.name groups) (given_value source_option.name groups) (options_agree groups)
  where
    limit_from : Option FlowAsks → Option ℕ
    limit_from (Some asks) = asks.limit
    limit_from None = None

    by : (policy map_file source : Option Named) (agree : Bool) → flow_by policy map_file source agree groups ≡ Some asks → asks.limit ≡ limit_in limit_flows_option.name groups
    by None map_file source agree is = absurd (true≢false (sym (ap is_some is)))
    by (Some policy) None source agree is = absurd (true≢false (sym (ap is_some is)))
    by (Some policy) (Some map_file) None agree is = absurd (true≢false (sym (ap is_some is)))
    by (Some policy) (Some map_file) (Some source) false is = absurd (true≢false (sym (ap is_some is)))
    by (Some policy) (Some map_file) (Some source) true is = sym (ap limit_from is)

-- a limit that stays, and one that is set
abbrev kept : Option ℕ → Option ℕ
kept limit = limit

abbrev set_to : ℕ → Option ℕ → Option ℕ
set_to limit before = Some limit

-- ---- the words of all tools

-- which tool is asked, and what
abbrev by_name : Bool → Bool → Bool → Bool → Result Asks ℕ → Result Asks ℕ → Result Asks ℕ → Result Asks ℕ → Result Asks ℕ → Result Asks ℕ
by_name a b c d info search dom flow whole = cond a info (cond b search (cond c dom (cond d flow whole)))

-- what the other tools are asked
abbrev by_other : Bool → Bool → Bool → Result Asks ℕ → Result Asks ℕ → Result Asks ℕ → Result Asks ℕ
by_other e f g convert check make = cond e convert (cond f check (cond g make (Err 1)))

abbrev question_of : Question → Result Asks ℕ → Question
question_of other (Ok (About question)) = question
question_of other (Ok (Make asks)) = other
question_of other (Err n) = other

abbrev is_about : Result Asks ℕ → Bool
is_about (Ok (About question)) = true
is_about (Ok (Make asks)) = false
is_about (Err n) = false

module _ (dash : List ℕ) (others : List (Option (List ℕ))) (from : ℕ) (limits : Option ℕ → Option ℕ)
    (search_later : Later search_options SearchAsks search_in dash others (λ asks. search_page from (limits asks.limit) asks))
    (dom_later : Later dom_options DomAsks dom_in dash others (λ asks. dom_page from (limits asks.limit) asks))
    (flow_later : Later flow_options FlowAsks flow_in dash others (λ asks. flow_page from (limits asks.limit) asks)) where
  by_tool : {A : Type 0} (tool : A → Question) (page : A → A) (before after : Result A ℕ) (question : Question) → ((asks : A) → paged from (limits (limit_of (tool asks))) (tool asks) ≡ tool (page asks))
      → ((asks : A) → before ≡ Ok asks → after ≡ Ok (page asks)) → of_tool (λ asks. About (tool asks)) before ≡ Ok (About question)
      → of_tool (λ asks. About (tool asks)) after ≡ Ok (About (paged from (limits (limit_of question)) question))
  by_tool tool page (Ok asks) after question pages later is =
      let same : tool asks ≡ question = ap (question_of question) is in
      rw (later asks refl, ← same) (ap (λ (q : Question). Ok (About q)) (sym (pages asks)))
  by_tool tool page (Err n) after question pages later is = absurd (true≢false (sym (ap is_about is)))

  request_later : (words : List (Option (List ℕ))) (question : Question) → All (λ word. is_word (codes "--") word ≡ false) words → request_of words ≡ Ok (About question) → comes_by_pages question ≡ true
      → request_of (words ++ Some dash ∷ others) ≡ Ok (About (paged from (limits (limit_of question)) question))
  request_later [] question ends is pages = absurd (true≢false (sym (ap is_about is)))
  request_later (tool ∷ words) question ends is pages =
      by (is_word (codes "seinfo") tool) (is_word (codes "sesearch") tool) (is_word (codes "sedta") tool) (is_word (codes "seinfoflow") tool) is
    where
      more : List (Option (List ℕ))
      more = words ++ Some dash ∷ others

      rest : All (λ word. is_word (codes "--") word ≡ false) words
      rest = All-tail (λ word. is_word (codes "--") word ≡ false) tool words ends

      wider : length more ≡ length words + length (Some dash ∷ others)
      wider = length-append words (Some dash ∷ others)

      others_of : Bool → Bool → Bool → List (Option (List ℕ)) → Result Asks ℕ
      others_of e f g ws = by_other e f g (of_tool (λ asks. About (Convert asks)) (asked_by convert_options 1 convert_in ws)) (of_tool (λ asks. About (Check asks)) (asked_by [] 2 check_in ws)) (of_tool (λ asks. Make asks) (make_asked ws))

      other : List (Option (List ℕ)) → Result Asks ℕ
      other ws = others_of (is_word (codes "seconvert") tool) (is_word (codes "sechecker") tool) (is_word (codes "make") tool) ws

      all : Bool → Bool → Bool → Bool → List (Option (List ℕ)) → Result Asks ℕ
      all a b c d ws = by_name a b c d (of_tool (λ asks. About (Info asks)) (asked_by info_options 1 info_in ws)) (of_tool (λ asks. About (Search asks)) (asked_by search_options 1 search_in ws))
          (of_tool (λ asks. About (Dom asks)) (asked_by dom_options (length ws) dom_in ws)) (of_tool (λ asks. About (Flow asks)) (asked_by flow_options (length ws) flow_in ws)) (other ws)

      -- a tool that lists nothing by pages is not asked
      not_whole : {A : Type 0} (tool : A → Question) → ((asks : A) → comes_by_pages (tool asks) ≡ false) → (before : Result A ℕ) → of_tool (λ asks. About (tool asks)) before ≡ Ok (About question) → ⊥
      not_whole tool whole (Ok asks) is = true≢false (sym pages ∙ ap comes_by_pages (sym (ap (question_of question) is)) ∙ whole asks)
      not_whole tool whole (Err n) is = true≢false (sym (ap is_about is))

      not_make : (before : Result MakeAsks ℕ) → of_tool (λ asks. Make asks) before ≡ Ok (About question) → ⊥
      not_make (Ok asks) is = true≢false (sym (ap is_about is))
      not_make (Err n) is = true≢false (sym (ap is_about is))

      not_other : (e f g : Bool) → others_of e f g words ≡ Ok (About question) → ⊥
      not_other true f g is = not_whole (λ asks. Convert asks) (λ asks. refl) (asked_by convert_options 1 convert_in words) is
      not_other false true g is = not_whole (λ asks. Check asks) (λ asks. refl) (asked_by [] 2 check_in words) is
      not_other false false true is = not_make (make_asked words) is
      not_other false false false is = true≢false (sym (ap is_about is))

      by : (a b c d : Bool) → all a b c d words ≡ Ok (About question) → all a b c d more ≡ Ok (About (paged from (limits (limit_of question)) question))
      by true b c d is = absurd (not_whole (λ asks. Info asks) (λ asks. refl) (asked_by info_options 1 info_in words) is)
      by false true c d is = by_tool (λ asks. Search asks) (λ asks. search_page from (limits asks.limit) asks) (asked_by search_options 1 search_in words) (asked_by search_options 1 search_in more) question (λ asks. refl)
          (λ asks. asked_later search_options SearchAsks search_in dash others (λ asks. search_page from (limits asks.limit) asks) search_later 1 0 words asks rest) is
      by false false true d is = by_tool (λ asks. Dom asks) (λ asks. dom_page from (limits asks.limit) asks) (asked_by dom_options (length words) dom_in words) (asked_by dom_options (length more) dom_in more) question (λ asks. refl)
          (λ asks asked. subst (λ (free : ℕ). asked_by dom_options free dom_in more ≡ Ok (dom_page from (limits asks.limit) asks)) (sym wider) (asked_later dom_options DomAsks dom_in dash others (λ asks. dom_page from (limits asks.limit) asks) dom_later (length words) (length (Some dash ∷ others)) words asks rest asked)) is
      by false false false true is = by_tool (λ asks. Flow asks) (λ asks. flow_page from (limits asks.limit) asks) (asked_by flow_options (length words) flow_in words) (asked_by flow_options (length more) flow_in more) question (λ asks. refl)
          (λ asks asked. subst (λ (free : ℕ). asked_by flow_options free flow_in more ≡ Ok (flow_page from (limits asks.limit) asks)) (sym wider) (asked_later flow_options FlowAsks flow_in dash others (λ asks. flow_page from (limits asks.limit) asks) flow_later (length words) (length (Some dash ∷ others)) words asks rest asked)) is
      by false false false false is = absurd (not_other (is_word (codes "seconvert") tool) (is_word (codes "sechecker") tool) (is_word (codes "make") tool) is)

-- ---- `--from`, and `--from` with `-l`

module _ (text : List ℕ) (from : ℕ) (from_is : number_within 0 most_items text ≡ Some from) where
  plain : begins_with_dash text ≡ false
  plain = number_plain 0 most_items text from from_is

  from_of : (groups : List Group) (n : ℕ) → from_in (groups ++ from_group text n ∷ []) ≡ from
  unfolding last_value
  from_of groups n = rw (last_append (codes "--from") groups (from_group text n ∷ []), from_is) refl

  fits_from : (groups : List Group) (n : ℕ) → misfit_among groups (from_group text (n + 1) ∷ []) ≡ None
  unfolding misfit_among
  fits_from groups n = rw (number_fits groups from_option 0 most_items text (n + 1) from refl from_is) refl

  limit_of_from : (row : Row) (groups : List Group) (n : ℕ) → bytes_eq (codes "--from") row.name ≡ false → limit_in row.name (groups ++ from_group text n ∷ []) ≡ limit_in row.name groups
  unfolding last_value
  limit_of_from row groups n other = rw (last_append row.name groups (from_group text n ∷ []), other) refl

  search_from : Later search_options SearchAsks search_in (codes "--from") (Some text ∷ []) (λ asks. search_page from (kept asks.limit) asks)
  search_from = record {
    is_dash = refl;
    groups_at = λ n. from_group text (n + 1) ∷ [];
    are_cut = from_cuts search_options limit_option search_spells text plain;
    fit = fits_from;
    asked = λ groups n asks is.
        let more = search_more groups (from_group text (n + 1) ∷ []) (from_adds text (n + 1)) from (limit_in limit_option.name groups) (from_of groups (n + 1)) (limit_of_from limit_option groups (n + 1) refl) in
        rw (is, ← search_limit groups asks is) at more;
  }

  dom_from : Later dom_options DomAsks dom_in (codes "--from") (Some text ∷ []) (λ asks. dom_page from (kept asks.limit) asks)
  dom_from = record {
    is_dash = refl;
    groups_at = λ n. from_group text (n + 1) ∷ [];
    are_cut = from_cuts dom_options limit_trans_option dom_spells text plain;
    fit = fits_from;
    asked = λ groups n asks is.
        let more = dom_more groups (from_group text (n + 1) ∷ []) (from_adds text (n + 1)) from (limit_in limit_trans_option.name groups) (from_of groups (n + 1)) (limit_of_from limit_trans_option groups (n + 1) refl) in
        rw (is, ← dom_limit groups asks is) at more;
  }

  flow_from : Later flow_options FlowAsks flow_in (codes "--from") (Some text ∷ []) (λ asks. flow_page from (kept asks.limit) asks)
  flow_from = record {
    is_dash = refl;
    groups_at = λ n. from_group text (n + 1) ∷ [];
    are_cut = from_cuts flow_options limit_flows_option flow_spells text plain;
    fit = fits_from;
    asked = λ groups n asks is.
        let more = flow_more groups (from_group text (n + 1) ∷ []) (from_adds text (n + 1)) from (limit_in limit_flows_option.name groups) (from_of groups (n + 1)) (limit_of_from limit_flows_option groups (n + 1) refl) in
        rw (is, ← flow_limit groups asks is) at more;
  }

  module _ (most : List ℕ) (limit : ℕ) (limit_is : number_within 1 most_items most ≡ Some limit) where
    limit_plain : begins_with_dash most ≡ false
    limit_plain = number_plain 1 most_items most limit limit_is

    module _ (row : Row) (takes : row.takes ≡ Value limit_kind) where
      abbrev page_at : ℕ → List Group
      page_at n = from_group text (n + 1) ∷ limit_group row most (n + 1 + 1 + 1) ∷ []

      fits_page : (groups : List Group) (n : ℕ) → misfit_among groups (page_at n) ≡ None
      unfolding misfit_among
      fits_page groups n =
          rw (number_fits groups from_option 0 most_items text (n + 1) from refl from_is, number_fits groups row 1 most_items most (n + 1 + 1 + 1) limit takes limit_is) refl

      from_of_page : (groups : List Group) (n : ℕ) → bytes_eq row.name (codes "--from") ≡ false → from_in (groups ++ page_at n) ≡ from
      unfolding last_value
      from_of_page groups n other = rw (last_append (codes "--from") groups (page_at n), other, from_is) refl

      limit_of_page : (groups : List Group) (n : ℕ) → bytes_eq row.name row.name ≡ true → limit_in row.name (groups ++ page_at n) ≡ Some limit
      unfolding last_value
      limit_of_page groups n itself = rw (last_append row.name groups (page_at n), itself, limit_is) refl

    search_page_later : Later search_options SearchAsks search_in (codes "--from") (Some text ∷ Some (codes "-l") ∷ Some most ∷ []) (λ asks. search_page from (set_to limit asks.limit) asks)
    search_page_later = record {
      is_dash = refl;
      groups_at = page_at limit_option refl;
      are_cut = page_cuts search_options limit_option search_spells text plain most limit_plain;
      fit = fits_page limit_option refl;
      asked = λ groups n asks is.
          let adds = page_adds text (n + 1) most (n + 1 + 1 + 1) limit_option (λ option other. (no_limit option other).short) in
          let more = search_more groups (page_at limit_option refl n) adds from (Some limit) (from_of_page limit_option refl groups n refl) (limit_of_page limit_option refl groups n refl) in
          rw is at more;
    }

    dom_page_later : Later dom_options DomAsks dom_in (codes "--from") (Some text ∷ Some (codes "-l") ∷ Some most ∷ []) (λ asks. dom_page from (set_to limit asks.limit) asks)
    dom_page_later = record {
      is_dash = refl;
      groups_at = page_at limit_trans_option refl;
      are_cut = page_cuts dom_options limit_trans_option dom_spells text plain most limit_plain;
      fit = fits_page limit_trans_option refl;
      asked = λ groups n asks is.
          let adds = page_adds text (n + 1) most (n + 1 + 1 + 1) limit_trans_option (λ option other. (no_limit option other).of_transitions) in
          let more = dom_more groups (page_at limit_trans_option refl n) adds from (Some limit) (from_of_page limit_trans_option refl groups n refl) (limit_of_page limit_trans_option refl groups n refl) in
          rw is at more;
    }

    flow_page_later : Later flow_options FlowAsks flow_in (codes "--from") (Some text ∷ Some (codes "-l") ∷ Some most ∷ []) (λ asks. flow_page from (set_to limit asks.limit) asks)
    flow_page_later = record {
      is_dash = refl;
      groups_at = page_at limit_flows_option refl;
      are_cut = page_cuts flow_options limit_flows_option flow_spells text plain most limit_plain;
      fit = fits_page limit_flows_option refl;
      asked = λ groups n asks is.
          let adds = page_adds text (n + 1) most (n + 1 + 1 + 1) limit_flows_option (λ option other. (no_limit option other).of_flows) in
          let more = flow_more groups (page_at limit_flows_option refl n) adds from (Some limit) (from_of_page limit_flows_option refl groups n refl) (limit_of_page limit_flows_option refl groups n refl) in
          rw is at more;
    }

-- ---- the law

pub from_behind : (words : List (Option (List ℕ))) (question : Question) (text : List ℕ) (from : ℕ) → All (λ word. is_word (codes "--") word ≡ false) words
    → request_of words ≡ Ok (About question) → comes_by_pages question ≡ true → number_within 0 most_items text ≡ Some from
    → request_of (words ++ from_words text) ≡ Ok (About (paged from (limit_of question) question))
from_behind words question text from ends asked pages from_is =
    request_later (codes "--from") (Some text ∷ []) from kept (search_from text from from_is) (dom_from text from from_is) (flow_from text from from_is) words question ends asked pages

pub page_behind : (words : List (Option (List ℕ))) (question : Question) (text most : List ℕ) (from limit : ℕ) → All (λ word. is_word (codes "--") word ≡ false) words
    → request_of words ≡ Ok (About question) → comes_by_pages question ≡ true → number_within 0 most_items text ≡ Some from → number_within 1 most_items most ≡ Some limit
    → request_of (words ++ page_words text most) ≡ Ok (About (paged from (Some limit) question))
page_behind words question text most from limit ends asked pages from_is limit_is =
    request_later (codes "--from") (Some text ∷ Some (codes "-l") ∷ Some most ∷ []) from (set_to limit)
    (search_page_later text from from_is most limit limit_is) (dom_page_later text from from_is most limit limit_is) (flow_page_later text from from_is most limit limit_is) words question ends asked pages
