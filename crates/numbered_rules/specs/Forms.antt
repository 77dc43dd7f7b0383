-- Rules whose sets are those of a pool.
use Rattle.std.specs.Prelude.{ℕ, ◌<◌, Bool, ◌&&◌, ◌==◌, List, [], map, length, slice_index_or}
use Rattle.std.specs.List.{All}
use Rattle.pol_bitmap.specs.declared.Node.{Node}
use Rattle.pol_bitmap.specs.Nodes.{bits_of}
use Rattle.numbered_rules.specs.declared.key.SingleKey.{SingleKey}
use Rattle.numbered_rules.specs.declared.form.RuleForm.{RuleForm}
use Rattle.numbered_rules.specs.NumberedRules.{NumberedRule}

-- the numbers of the set of a number
abbrev pub bits_at : List (List Node) → ℕ → List ℕ
bits_at sets n = bits_of (slice_index_or sets n [])

-- the rule that a form stands for
abbrev pub rule_of : List (List Node) → RuleForm → NumberedRule
rule_of sets form = record {
  sources = bits_at sets form.sources;
  targets = bits_at sets form.targets;
  class = form.class;
  name = form.name;
  condition = form.condition;
  given = bits_at sets form.given;
}

abbrev pub rules_of : List (List Node) → List RuleForm → List NumberedRule
rules_of sets forms = map (rule_of sets) forms

-- a form's numbers are those of sets
abbrev pub HasSets : List (List Node) → RuleForm → Type 0
HasSets sets form = (form.sources < length sets) × (form.targets < length sets) × (form.given < length sets)

abbrev pub HaveSets : List (List Node) → List RuleForm → Type 0
HaveSets sets forms = All (HasSets sets) forms

-- a form has the class, the file name and the condition of a key
abbrev pub is_form_of : SingleKey → RuleForm → Bool
is_form_of key form = (form.class == key.class) && ((form.name == key.name) && (form.condition == key.condition))

-- the key of a form between a source and a target
abbrev pub form_key : ℕ → ℕ → RuleForm → SingleKey
form_key source target form = record { source = source; target = target; class = form.class; name = form.name; condition = form.condition }
