-- The answer of seinfo about a policy that was accepted.
use Rattle.std.specs.Prelude.{ℕ, List, [], ◌∷◌, flat_map, Bool, true, false, is_some, option_map, unwrap_or, Option, None}
use Rattle.pol_file.specs.declared.Parts.{Parts}
use Rattle.info_lines.specs.Titles.{title_of}
use Rattle.info_query.specs.Listings.{lines_of}
use Rattle.info_summary.specs.Summary.{summary_lines}
use Rattle.se_info.specs.ListingText.{line_text, listing_text}
use Rattle.se_status.specs.Conclusion.{Answer, text_unless}
use Rattle.se_status.specs.LeastWord.{least_number}
use Rattle.se_words.specs.Options.{Named}
use Rattle.se_options.specs.InfoRequest.{InfoAsks, Wanted}

-- the lines that are wanted, unless their name is unknown
abbrev pub wanted_lines : Parts → Bool → Wanted → Option (List (List ℕ))
wanted_lines policy expand wanted = lines_of policy expand wanted.listing (option_map (λ name. name.text) wanted.name)

-- the text of a listing that is wanted
abbrev pub wanted_text : Parts → Bool → Bool → Wanted → List ℕ
wanted_text policy expand flat wanted = listing_text flat (title_of wanted.listing) (unwrap_or (wanted_lines policy expand wanted) [])

-- the text of what is asked: that of the listings that are wanted, or where there are none, the lines of the summary
abbrev pub info_text : Parts → InfoAsks → List Wanted → List ℕ
info_text policy asks [] = flat_map (line_text []) (summary_lines policy)
info_text policy asks (wanted ∷ others) = flat_map (wanted_text policy asks.expand asks.flat) (wanted ∷ others)

-- the number of the word with the name, where that is unknown
abbrev pub unknown_unless : Bool → Option Named → Option ℕ
unknown_unless true name = None
unknown_unless false name = option_map (λ name. name.word) name

unfoldable pub unknown_in : Parts → Bool → Wanted → Option ℕ
unknown_in policy expand wanted = unknown_unless (is_some (wanted_lines policy expand wanted)) wanted.name

-- the least number of a word with a name that is unknown
abbrev pub first_unknown : Parts → Bool → List Wanted → Option ℕ
first_unknown policy expand listings = least_number (unknown_in policy expand) listings

-- the text of what is asked, unless a name of it is unknown
unfoldable pub info_answer : InfoAsks → Parts → Answer
info_answer asks policy = text_unless (first_unknown policy asks.expand asks.listings) (info_text policy asks asks.listings)
