-- What the words of a command line ask for.
use Rattle.std.specs.Prelude.{ℕ, List, [], ◌∷◌, codes, length, Bool, true, false, Option, None, Result, Ok, Err, if◌then◌else◌}
use Rattle.se_words.specs.Word.{is_word}
use Rattle.se_words.specs.Options.{Named}
use Rattle.se_options.specs.Asked.{Says, asked_by}
use Rattle.se_options.specs.InfoRequest.{InfoAsks, info_options, info_in, info_view}
use Rattle.se_options.specs.SearchRequest.{SearchAsks, search_options, search_in, search_view}
use Rattle.se_options.specs.DomRequest.{DomAsks, dom_options, dom_in, dom_view}
use Rattle.se_options.specs.FlowRequest.{FlowAsks, flow_options, flow_in, flow_view}
use Rattle.se_options.specs.ConvertRequest.{ConvertAsks, convert_options, convert_in, convert_view}
use Rattle.se_options.specs.CheckRequest.{CheckAsks, check_in, check_view}
use Rattle.se_options.specs.MakeRequest.{MakeAsks, make_asked, make_view}
use Rattle.se_options.specs.declared.request.Request.{Request}
use Rattle.se_options.specs.declared.request.Request.TheVariants.{Info as InfoCode, Search as SearchCode, Dom as DomCode, Flow as FlowCode, Convert as ConvertCode, Check as CheckCode, Make as MakeCode}
use Rattle.se_options.specs.declared.question.Question.{Question as QuestionCode}
use Rattle.se_options.specs.declared.question.Question.TheVariants as asked
use Rattle.se_options.specs.declared.words_error.WordsError.{WordsError}

-- what is asked about a policy, and of which tool: seinfo, sesearch, sedta, seinfoflow, seconvert or sechecker
pub data Question : Type 0 where
  Info : InfoAsks → Question
  Search : SearchAsks → Question
  Dom : DomAsks → Question
  Flow : FlowAsks → Question
  Convert : ConvertAsks → Question
  Check : CheckAsks → Question

-- the name of the policy
abbrev pub policy_of : Question → Named
policy_of (Info asks) = asks.policy
policy_of (Search asks) = asks.policy
policy_of (Dom asks) = asks.policy
policy_of (Flow asks) = asks.policy
policy_of (Convert asks) = asks.policy
policy_of (Check asks) = asks.policy

-- it asks for items, of which some may be listed and then those after them; what seinfo, seconvert and sechecker write comes whole
abbrev pub comes_by_pages : Question → Bool
comes_by_pages (Info asks) = false
comes_by_pages (Search asks) = true
comes_by_pages (Dom asks) = true
comes_by_pages (Flow asks) = true
comes_by_pages (Convert asks) = false
comes_by_pages (Check asks) = false

-- how many items it asks for, if it says so
abbrev pub limit_of : Question → Option ℕ
limit_of (Info asks) = None
limit_of (Search asks) = asks.limit
limit_of (Dom asks) = asks.limit
limit_of (Flow asks) = asks.limit
limit_of (Convert asks) = None
limit_of (Check asks) = None

-- the question for the items after the first so many, and at most so many of them
abbrev pub paged : ℕ → Option ℕ → Question → Question
paged from limit (Info asks) = Info asks
paged from limit (Search asks) = Search (record asks { from = from; limit = limit })
paged from limit (Dom asks) = Dom (record asks { from = from; limit = limit })
paged from limit (Flow asks) = Flow (record asks { from = from; limit = limit })
paged from limit (Convert asks) = Convert asks
paged from limit (Check asks) = Check asks

-- what is asked: something about a policy, or a policy of make
pub data Asks : Type 0 where
  About : Question → Asks
  Make : MakeAsks → Asks

-- what is asked of one of them
abbrev pub of_tool : {A : Type 0} → (A → Asks) → Result A ℕ → Result Asks ℕ
of_tool tool (Ok asks) = Ok (tool asks)
of_tool tool (Err n) = Err n

-- What the words ask, or the number of the first that does not fit. The first word is the tool's name. The policy of seinfo, of
-- sesearch and of seconvert is their one positional word; those of sedta and seinfoflow, of which any number may come, are excluded
-- types. The two of sechecker are the policy and the list. That of make is the number of types.
abbrev pub request_of : List (Option (List ℕ)) → Result Asks ℕ
request_of [] = Err 1
request_of (tool ∷ words) =
    if is_word (codes "seinfo") tool then of_tool (λ asks. About (Info asks)) (asked_by info_options 1 info_in words)
    else (if is_word (codes "sesearch") tool then of_tool (λ asks. About (Search asks)) (asked_by search_options 1 search_in words)
    else (if is_word (codes "sedta") tool then of_tool (λ asks. About (Dom asks)) (asked_by dom_options (length words) dom_in words)
    else (if is_word (codes "seinfoflow") tool then of_tool (λ asks. About (Flow asks)) (asked_by flow_options (length words) flow_in words)
    else (if is_word (codes "seconvert") tool then of_tool (λ asks. About (Convert asks)) (asked_by convert_options 1 convert_in words)
    else (if is_word (codes "sechecker") tool then of_tool (λ asks. About (Check asks)) (asked_by [] 2 check_in words)
    else (if is_word (codes "make") tool then of_tool (λ asks. Make asks) (make_asked words)
    else Err 1))))))

-- what a request of the code says
abbrev pub request_view : Request → Asks
request_view (InfoCode asks) = About (Info (info_view asks))
request_view (SearchCode asks) = About (Search (search_view asks))
request_view (DomCode asks) = About (Dom (dom_view asks))
request_view (FlowCode asks) = About (Flow (flow_view asks))
request_view (ConvertCode asks) = About (Convert (convert_view asks))
request_view (CheckCode asks) = About (Check (check_view asks))
request_view (MakeCode asks) = Make (make_view asks)

-- what a question of the code asks
abbrev pub question_view : QuestionCode → Question
question_view (asked.Info asks) = Info (info_view asks.now)
question_view (asked.Search asks) = Search (search_view asks.now)
question_view (asked.Dom asks) = Dom (dom_view asks.now)
question_view (asked.Flow asks) = Flow (flow_view asks.now)
question_view (asked.Convert asks) = Convert (convert_view asks.now)
question_view (asked.Check asks) = Check (check_view asks.now)

-- A result of the code says what the words ask, unless it is out of memory.
abbrev pub Understands : Result Request WordsError → Result Asks ℕ → Type 0
Understands result asks = Says request_view result asks
