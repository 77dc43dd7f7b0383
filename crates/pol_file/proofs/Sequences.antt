-- Parts that are read one behind the other, where one of them is refused or there is no memory for it.
use Rattle.std.proofs.Common.{◌≡◌, ℕ, List, ◌∙◌, ap, sym}
use Rattle.pol_cursor.specs.declared.ReadError.{ReadError}
use Rattle.pol_cursor.specs.declared.ReadError.TheVariants as errors
use Rattle.pol_fields.specs.declared.fields.TheConstants.{END_END}
use Rattle.pol_cursor.specs.Outcome.{Outcome, Position, Got, Reader, and_then, done, Fails, ◌>>=◌}
use Rattle.pol_cursor.specs.Parts.{end_at}
use Rattle.pol_cursor.proofs.Lists.{Gave}
use Rattle.pol_symbols.specs.PolicySymbols.{symbols_at}
use Rattle.pol_symbols.specs.declared.Symbols.{Symbols}
use Rattle.pol_file.specs.declared.parts.Front.{Front}
use Rattle.pol_file.specs.declared.parts.RuleLists.{RuleLists}
use Rattle.pol_file.specs.declared.parts.LabelLists.{LabelLists}
use Rattle.pol_file.specs.declared.parts.Parts.{Parts}
use Rattle.pol_file.specs.PolicyParts.{front_at, rule_lists_at, label_lists_at, policy_at}

fails_then : {A B : Type 0} (e : ReadError) (o : Outcome A) (f : A → ℕ → Outcome B) → Fails e o → Fails e (and_then o f)
fails_then errors.Memory o f h = tt
fails_then (errors.Fault fault) o f h = ap (λ o. and_then o f) h

-- it is the first
pub fails_first : {A B : Type 0} (first : Reader A) (rest : A → Reader B) (now : Position) (e : ReadError) → Fails e (first now.bytes now.place) → Fails e ((first >>= rest) now.bytes now.place)
fails_first first rest now e h = fails_then e (first now.bytes now.place) (λ x next. rest x now.bytes next) h

-- it is one behind the first
pub fails_later : {A B : Type 0} (first : Reader A) (rest : A → Reader B) (old mid : Position) (x : A) (e : ReadError) → (first old.bytes old.place ≡ Got x mid.place) × (mid.bytes ≡ old.bytes) → Fails e (rest x mid.bytes mid.place)
    → Fails e ((first >>= rest) old.bytes old.place)
fails_later {A} {B} first rest old mid x e read h =
    let whole : (first >>= rest) old.bytes old.place ≡ rest x mid.bytes mid.place =
    ap (λ (o : Outcome A). and_then o (λ x next. rest x old.bytes next)) read.0 ∙ ap (λ (b : List ℕ). rest x b mid.place) (sym read.1) in
    rw whole h

-- ---- those of a policy

-- what is read behind its labels, its rules, its symbols and its front
abbrev Behind_labels : Front → Symbols → RuleLists → LabelLists → Reader Parts
Behind_labels front symbols rules labels = end_at END_END >>= λ ended. done (record { front = front; symbols = symbols; rules = rules; labels = labels })

abbrev Behind_rules : Front → Symbols → RuleLists → Reader Parts
Behind_rules front symbols rules = label_lists_at front.header.version symbols.types.nprim >>= Behind_labels front symbols rules

abbrev Behind_symbols : Front → Symbols → Reader Parts
Behind_symbols front symbols = rule_lists_at front.header.version >>= Behind_rules front symbols

abbrev Behind_front : Front → Reader Parts
Behind_front front = symbols_at front.header.version >>= Behind_symbols front

module _ (front : Front) (symbols : Symbols) (e : ReadError) (p0 p1 p2 : Position) (has_front : Gave front_at front p0 p1) (has_symbols : Gave (symbols_at front.header.version) symbols p1 p2) where
  in_lists : Fails e (Behind_symbols front symbols p2.bytes p2.place) → Fails e (policy_at p0.bytes p0.place)
  unfolding policy_at
  in_lists h = fails_later front_at Behind_front p0 p1 front e has_front (fails_later (symbols_at front.header.version) (Behind_symbols front) p1 p2 symbols e has_symbols h)

  pub fails_in_rules : Fails e (rule_lists_at front.header.version p2.bytes p2.place) → Fails e (policy_at p0.bytes p0.place)
  fails_in_rules h = in_lists (fails_first (rule_lists_at front.header.version) (Behind_rules front symbols) p2 e h)

  module _ (rules : RuleLists) (p3 : Position) (has_rules : Gave (rule_lists_at front.header.version) rules p2 p3) where
    in_later_lists : Fails e (Behind_rules front symbols rules p3.bytes p3.place) → Fails e (policy_at p0.bytes p0.place)
    in_later_lists h = in_lists (fails_later (rule_lists_at front.header.version) (Behind_rules front symbols) p2 p3 rules e has_rules h)

    pub fails_in_labels : Fails e (label_lists_at front.header.version symbols.types.nprim p3.bytes p3.place) → Fails e (policy_at p0.bytes p0.place)
    fails_in_labels h = in_later_lists (fails_first (label_lists_at front.header.version symbols.types.nprim) (Behind_labels front symbols rules) p3 e h)

    pub fails_at_end : (labels : LabelLists) (p4 : Position) → Gave (label_lists_at front.header.version symbols.types.nprim) labels p3 p4 → Fails e (end_at END_END p4.bytes p4.place) → Fails e (policy_at p0.bytes p0.place)
    fails_at_end labels p4 has_labels h =
        in_later_lists (fails_later (label_lists_at front.header.version symbols.types.nprim) (Behind_labels front symbols rules) p3 p4 labels e has_labels
        (fails_first (end_at END_END) (λ ended. done (record { front = front; symbols = symbols; rules = rules; labels = labels })) p4 e h))
