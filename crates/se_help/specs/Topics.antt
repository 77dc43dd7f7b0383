-- What the words of a command line ask of the program itself.
use Rattle.std.specs.Prelude.{ℕ, List, [], ◌∷◌, codes, ◌||◌, Option, Some, None, if◌then◌else◌}
use Rattle.se_words.specs.Word.{is_word}
use Rattle.se_help.specs.declared.topic.Topic.{Topic}
use Rattle.se_help.specs.declared.topic.Topic.TheVariants.{All, Info, Search, Dom, Flow, Convert, Check, Make, Version}

-- the topic that a word asks for, where that one is how it is used
abbrev pub asked_by : Topic → Option (List ℕ) → Option Topic
asked_by usage word =
    if is_word (codes "--help") word || is_word (codes "-h") word then Some usage
    else (if is_word (codes "--version") word then Some Version else None)

-- The topic that the words ask for, if they do: a word for it stands alone, or behind a tool's name, and no other word is there.
abbrev pub topic_in : List (Option (List ℕ)) → Option Topic
topic_in [] = None
topic_in (word ∷ []) = asked_by All word
topic_in (tool ∷ word ∷ []) =
    if is_word (codes "seinfo") tool then asked_by Info word
    else (if is_word (codes "sesearch") tool then asked_by Search word
    else (if is_word (codes "sedta") tool then asked_by Dom word
    else (if is_word (codes "seinfoflow") tool then asked_by Flow word
    else (if is_word (codes "seconvert") tool then asked_by Convert word
    else (if is_word (codes "sechecker") tool then asked_by Check word
    else (if is_word (codes "make") tool then asked_by Make word
    else None))))))
topic_in (first ∷ second ∷ third ∷ words) = None
