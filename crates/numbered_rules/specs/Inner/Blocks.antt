-- Forms that have targets of one block of 64 numbers.
use Rattle.std.specs.Prelude.{◌≡◌, ◌/◌, ℕ, List}
use Rattle.std.specs.List.{filter}
use Rattle.pol_bitmap.specs.declared.Node.{Node}
use Rattle.numbered_rules.specs.declared.form.RuleForm.{RuleForm}
use Rattle.numbered_rules.specs.declared.block.Block.{Block}
use Rattle.numbered_rules.specs.Forms.{HaveSets, bits_at}
use Rattle.numbered_rules.specs.NumberedRules.{has}

-- the forms that have a target
abbrev pub forms_at : List (List Node) → ℕ → List RuleForm → List RuleForm
forms_at sets target forms = filter (λ form. has (bits_at sets form.targets) target) forms

-- Among these forms are all those of others that have a target of the block.
abbrev pub AreOfBlock : List (List Node) → ℕ → List RuleForm → List RuleForm → Type 0
AreOfBlock sets number all found = (target : ℕ) → target / 64 ≡ number → forms_at sets target found ≡ forms_at sets target all

-- a block has the forms of two lists that have targets of it
pub record IsBlockOf (sets : List (List Node)) (first second : List RuleForm) (block : Block) : Type 0 where
  pub first_sets : HaveSets sets block.first.items
  pub second_sets : HaveSets sets block.second.items
  pub first_forms : AreOfBlock sets block.number first block.first.items
  pub second_forms : AreOfBlock sets block.number second block.second.items
