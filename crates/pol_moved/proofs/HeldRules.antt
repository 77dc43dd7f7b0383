-- Rules that were read at a version are read at each version that has room for them.
use Rattle.std.proofs.Common.{inl, inr, ◌⊎◌, ◌≡◌, ℕ, ◌+◌, ◌≤◌, Bool, true, false, ◌||◌, Option, Some, None, List, [], ◌∷◌, ◌++◌, length, refl, sym, ap, subst, ◌∙◌, append_assoc, if◌then◌else◌, arith}
use Rattle.std.specs.Prelude.{◌&&◌, ◌==◌, nat_le, option_map}
use Rattle.std.specs.List.{flat_map, AllByRecursion}
use Rattle.std.proofs.lemmas.Bool.{and_parts, and_from, le-leb, or_cases, or_right, eqb-true}
use Rattle.std.proofs.lemmas.List.{append-nil}
use Rattle.pol_fields.specs.declared.Field.{Field}
use Rattle.pol_fields.specs.declared.Cause.{Cause}
use Rattle.pol_fields.specs.declared.fields.TheConstants.{AV_SOURCE, AV_TARGET, AV_CLASS, AV_SPECIFIED, AV_XKIND, AV_DRIVER, AV_BITS, AV_DATA, AVTAB_NEL, CONDLIST_COUNT, CONDNODE_NTRUE, CONDNODE_NFALSE}
use Rattle.pol_cursor.specs.Outcome.{Got}
use Rattle.pol_cursor.specs.Parts.{number, counted, records_at, CountedFits, spell_counted}
use Rattle.pol_cursor.specs.Spelling.{bytes_of}
use Rattle.pol_cursor.specs.Laws.{IsReadAgain}
use Rattle.pol_cursor.proofs.Laws.{Again-number, Again-number_if, Again-string-of, counted_records_again}
use Rattle.pol_expr.specs.ConditionRecord.{spell_condition}
use Rattle.pol_expr.proofs.ConditionLaws.{condition_again}
use Rattle.pol_avtab.specs.declared.AvKey.{AvKey}
use Rattle.pol_avtab.specs.declared.AvRec.{AvRec}
use Rattle.pol_avtab.specs.declared.AvPart.{AvPart}
use Rattle.pol_avtab.specs.declared.AvPart.TheVariants.{Data, Extended}
use Rattle.pol_avtab.specs.AvKeys.{kind_of, has_key}
use Rattle.pol_avtab.specs.AvRecord.{is_extended, is_kind, standing_test, kind_test, specified_test, extended_at, data_at, part_at, av_at, spell_part, spell_av, PartFits, AvFits}
use Rattle.pol_avtab.specs.AvTables.{Earlier, rule_at, after_rule, no_rules, rules_at, plain_table_at}
use Rattle.pol_avtab.proofs.AvLaws.{av_again}
use Rattle.pol_avtab.proofs.AvReading.{extended_unmarked}
use Rattle.pol_conditionals.specs.declared.CondNodeRec.{CondNodeRec}
use Rattle.pol_conditionals.specs.CondNodeRecord.{conditional_rules_at, condnode_at, spell_condnode, CondNodeFits}
use Rattle.pol_conditionals.specs.CondNodeList.{plain_conditionals_at}
use Rattle.pol_conditionals.proofs.CondNodeLaws.{condnode_again}
use Rattle.pol_moved.proofs.Granted.{GrantsOf, granted-got, grants-done, grants-then, grants-as, grants-number, grants-number_if, grants-counted}
use Rattle.pol_moved.proofs.Moves.{moves-number_if, moves-string}
use Rattle.pol_moved.proofs.MovesRules.{moves-condition}
use Rattle.pol_moved.proofs.Stood.{Stood, stood-as, stood-last, stood-part, stood-checked, stood-whole, stood-list_of, stood-records, each-under, grants-each, grants-moved}

-- ---- the conditions on what a rule specifies

-- a rule is no extended one, or the version has room for these
abbrev pub IsHeld : ℕ → ℕ → ℕ → Type 0
IsHeld least version specified = (is_extended specified ≡ false) ⊎ (least ≤ version)

or-more : (a p q : Bool) → (p ≡ true → q ≡ true) → (a || p) ≡ true → (a || q) ≡ true
or-more true p q h e = refl
or-more false p q h e = h e

-- an extended kind is one
extended-kinds : (kind : ℕ) → (kind == 0x100 || kind == 0x200 || kind == 0x400) ≡ true → is_extended kind ≡ true
extended-kinds kind e = elim (or_cases (kind == 0x100 || kind == 0x200) (kind == 0x400) e) [
  | inl others ↦ elim (or_cases (kind == 0x100) (kind == 0x200) others) [
    | inl one ↦ rw (eqb-true kind 0x100 one) refl
    | inr two ↦ rw (eqb-true kind 0x200 two) refl
  ]
  | inr three ↦ rw (eqb-true kind 0x400 three) refl
]

room : (old version kind : ℕ) → IsHeld 30 version kind → (nat_le 30 old && (kind == 0x100 || kind == 0x200 || kind == 0x400)) ≡ true → (nat_le 30 version && (kind == 0x100 || kind == 0x200 || kind == 0x400)) ≡ true
room old version kind (inl plain) e = absurd (let extended = extended-kinds kind (and_parts (nat_le 30 old) _ e).1 in cc)
room old version kind (inr most) e = and_from (nat_le 30 version) _ (le-leb 30 version most) (and_parts (nat_le 30 old) _ e).1

kind-held : (old version kind : ℕ) → IsHeld 30 version kind → is_kind old kind ≡ true → is_kind version kind ≡ true
kind-held old version kind held = or-more _ _ _ (room old version kind held)

-- the least version that has room for an extended rule, by where it stands: in the table or under a condition
abbrev pub least_version : {K : Type 0} → Option K → ℕ
least_version (Some keys) = 30
least_version None = 34

standing-held : (old version : ℕ) (earlier : Option Bool) (key : AvKey) → IsHeld (least_version earlier) version key.specified → standing_test old earlier key ≡ None → standing_test version earlier key ≡ None
standing-held old version (Some has) key held e = e
standing-held old version None key (inl plain) e = rw (plain, or_right (nat_le 34 version) true refl) refl
standing-held old version None key (inr most) e = rw (le-leb 34 version most) refl

held-later : {K : Type 0} (earlier : Option K) (version specified : ℕ) → IsHeld (least_version earlier) version specified → IsHeld 30 version specified
held-later (Some keys) version specified held = held
held-later None version specified (inl plain) = inl plain
held-later None version specified (inr most) = inr (omega (arith, most))

none-if : (b : Bool) (o : Option Cause) (c : Cause) → (if b then o else Some c) ≡ None → (b ≡ true) × (o ≡ None)
none-if true o c e = (refl, e)
none-if false o c e = absurd cc

kind_test-held : (old version : ℕ) (earlier : Option Bool) (key : AvKey) → IsHeld (least_version earlier) version key.specified → kind_test old earlier key ≡ None → kind_test version earlier key ≡ None
kind_test-held old version earlier key held e =
    let parts = none-if (is_kind old key.specified) (standing_test old earlier key) _ e in
    rw (kind-held old version key.specified (held-later earlier version key.specified held) parts.0) (standing-held old version earlier key held parts.1)

held-seen : (earlier : Option (List AvKey)) (key : AvKey) (version : ℕ) → IsHeld (least_version earlier) version key.specified → IsHeld (least_version (option_map (λ keys. has_key keys key) earlier)) version key.specified
held-seen (Some keys) key version held = held
held-seen None key version held = held

-- with the mark or without it
held-unmarked : (least version specified : ℕ) → IsHeld least version specified → IsHeld least version (kind_of specified)
held-unmarked least version specified (inl plain) = inl (extended_unmarked specified ∙ plain)
held-unmarked least version specified (inr most) = inr most

-- ---- one rule

part-granted : (extended : Bool) (part : AvPart) → PartFits extended part → Stood (part_at extended) part (spell_part part) → GrantsOf (part_at extended) part (spell_part part)
unfolding part_at extended_at data_at
part-granted true (Extended xkind driver bits) fits stood =
    let driver_text = bytes_of 1 driver ++ bits in
    let there = stood-as {t = bytes_of 1 xkind ++ driver_text} stood (simp append_assoc) in
    let xkind_there = stood-part _ driver_text (Again-number_if AV_XKIND 1 xkind _ fits.1) there in
    let driver_there = stood-part _ bits (Again-number AV_DRIVER 1 driver fits.2) xkind_there.others in
    let bits_there = stood-part _ [] (Again-string-of AV_BITS 32 bits fits.3) (stood-last driver_there.others) in
    grants-as
    (grants-then _ (grants-moved (moves-number_if AV_XKIND 1 _) (Again-number_if AV_XKIND 1 xkind _ fits.1) xkind_there.first)
    (grants-then _ (grants-number AV_DRIVER 1 driver fits.2)
    (grants-then _ (grants-moved (moves-string AV_BITS 32) (Again-string-of AV_BITS 32 bits fits.3) bits_there.first)
    (grants-done (Extended xkind driver bits) refl))))
    (simp (append_assoc, append-nil))
part-granted true (Data mask) fits stood = absurd (let e = fits.0 in cc)
part-granted false (Extended xkind driver bits) fits stood = absurd (let e = fits.0 in cc)
part-granted false (Data mask) fits stood = grants-as (grants-then _ (grants-number AV_DATA 4 mask fits.1) (grants-done (Data mask) refl)) (simp append-nil)

-- a rule fits and is held
pub record HeldFits (least version : ℕ) (av : AvRec) : Type 0 where
  pub fits : AvFits av
  pub held : IsHeld least version av.specified

av-granted : (old version : ℕ) (earlier : Option (List AvKey)) (av : AvRec) → HeldFits (least_version earlier) version av → Stood (av_at old earlier) av (spell_av av) → GrantsOf (av_at version earlier) av (spell_av av)
unfolding av_at
av-granted old version earlier av h stood =
    let fits = h.fits in
    let specified_text = bytes_of 2 av.specified ++ spell_part av.part in
    let class_text = bytes_of 2 av.class ++ specified_text in
    let target_text = bytes_of 2 av.target ++ class_text in
    let there = stood-as {t = bytes_of 2 av.source ++ target_text} stood (simp append_assoc) in
    let source = stood-part _ target_text (Again-number AV_SOURCE 2 av.source fits.source) there in
    let target = stood-part _ class_text (Again-number AV_TARGET 2 av.target fits.target) source.others in
    let class = stood-part _ specified_text (Again-number AV_CLASS 2 av.class fits.class) target.others in
    let specified = stood-part _ (spell_part av.part) (Again-number_if AV_SPECIFIED 2 av.specified _ fits.specified) class.others in
    let part = stood-whole (part_at (is_extended av.specified)) _ specified.others in
    let same : part.part ≡ av.part = ap (λ (av : AvRec). av.part) part.made in
    let part_there : Stood (part_at (is_extended av.specified)) av.part (spell_part av.part) = subst (λ (p : AvPart). Stood (part_at (is_extended av.specified)) p (spell_part av.part)) same part.stood in
    let key_with : ℕ → AvKey = λ specified. record { source = av.source; target = av.target; class = av.class; specified = kind_of specified } in
    let key = key_with av.specified in
    let held = held-seen earlier key version (held-unmarked (least_version earlier) version av.specified h.held) in
    let meets : specified_test version earlier key ≡ None = kind_test-held old version (option_map (λ keys. has_key keys key) earlier) key held (stood-checked AV_SPECIFIED (number AV_SPECIFIED 2) (λ specified. specified_test old earlier (key_with specified)) specified.first) in
    grants-as
    (grants-then _ (grants-number AV_SOURCE 2 av.source fits.source)
    (grants-then _ (grants-number AV_TARGET 2 av.target fits.target)
    (grants-then _ (grants-number AV_CLASS 2 av.class fits.class)
    (grants-then _ (grants-number_if AV_SPECIFIED 2 av.specified _ fits.specified meets)
    (grants-then _ (part-granted (is_extended av.specified) av.part fits.part part_there)
    (grants-done av refl))))))
    (simp (append_assoc, append-nil))

-- ---- the table

-- contexts of the same keys
record HasSameKeys (old version : ℕ) (context under : Earlier) : Type 0 where
  was : context.version ≡ old
  is : under.version ≡ version
  keys : context.keys ≡ under.keys

rule-granted : (old version : ℕ) (context under : Earlier) (av : AvRec) → HasSameKeys old version context under → HeldFits 30 version av → Stood (rule_at context) av (spell_av av) → GrantsOf (rule_at under) av (spell_av av)
rule-granted old version context under av same h stood =
    let there : Stood (av_at context.version (Some under.keys)) av (spell_av av) = subst (λ (keys : List AvKey). Stood (av_at context.version (Some keys)) av (spell_av av)) same.keys stood in
    let held : HeldFits 30 under.version av = subst (λ (v : ℕ). HeldFits 30 v av) (sym same.is) h in
    av-granted context.version under.version (Some under.keys) av held there

pub rule_table-granted : (old version : ℕ) (rules : List AvRec) → CountedFits AvFits rules → AllByRecursion (HeldFits 30 version) rules → Stood (plain_table_at old) rules (spell_counted spell_av rules)
    → GrantsOf (plain_table_at version) rules (spell_counted spell_av rules)
unfolding plain_table_at rules_at
rule_table-granted old version rules fits held stood =
    let count = stood-part (rules_at old) (flat_map spell_av rules) (Again-number AVTAB_NEL 4 (length rules) fits.count) stood in
    let each = stood-list_of (λ left context. rule_at context) after_rule spell_av (HeldFits 30 version) (λ left context x h. av_again context.version _ x h.fits) rules (no_rules old) held count.others in
    let start : HasSameKeys old version (no_rules old) (no_rules version) = record { was = refl; is = refl; keys = refl } in
    let granted = each-under (λ left context x. HeldFits 30 version x × Stood (rule_at context) x (spell_av x)) after_rule (λ left under x. GrantsOf (rule_at under) x (spell_av x)) after_rule (HasSameKeys old version)
    (λ left context under x same h. rule-granted old version context under x same h.0 h.1)
    (λ context under x same. record { was = same.was; is = same.is; keys = ap (λ (keys : List AvKey). (after_rule (record { version = old; keys = keys }) x).keys) same.keys })
    rules (no_rules old) (no_rules version) start each
    in
    grants-counted AVTAB_NEL (rules_at version) spell_av rules fits.count (grants-each (λ left context. rule_at context) after_rule spell_av rules (no_rules version) granted)

each-held : (version : ℕ) (rules : List AvRec) → AllByRecursion AvFits rules → AllByRecursion (λ av. IsHeld 30 version av.specified) rules → AllByRecursion (HeldFits 30 version) rules
each-held version [] fits held = tt
each-held version (r ∷ rs) fits held = (record { fits = fits.0; held = held.0 }, each-held version rs fits.1 held.1)

-- wherever its bytes stand
pub rules-read : (old version : ℕ) (rules : List AvRec) (before after front back : List ℕ) → CountedFits AvFits rules → AllByRecursion (λ av. IsHeld 30 version av.specified) rules
    → plain_table_at old (before ++ (spell_counted spell_av rules ++ after)) (length before) ≡ Got rules (length before + length (spell_counted spell_av rules))
    → plain_table_at version (front ++ (spell_counted spell_av rules ++ back)) (length front) ≡ Got rules (length front + length (spell_counted spell_av rules))
rules-read old version rules before after front back fits held got =
    granted-got (rule_table-granted old version rules fits (each-held version rules fits.items held) (record { before = before; after = after; got = got })) front back

-- ---- conditional nodes

-- so many rules under a condition
conditional-granted : (old version : ℕ) (rules : List AvRec) → AllByRecursion (HeldFits 34 version) rules → Stood (conditional_rules_at old (length rules)) rules (flat_map spell_av rules)
    → GrantsOf (conditional_rules_at version (length rules)) rules (flat_map spell_av rules)
unfolding records_at
conditional-granted old version rules held stood =
    let each = stood-records (av_at old None) spell_av (HeldFits 34 version) (λ x h. av_again old None x h.fits) rules held stood in
    let granted = each-under {S = Unit {0}} {T = Unit {0}} (λ left context x. HeldFits 34 version x × Stood (av_at old None) x (spell_av x)) (λ context x. context) (λ left under x. GrantsOf (av_at version None) x (spell_av x)) (λ under x. under) (λ context under. Unit {0})
    (λ left context under x same h. av-granted old version None x h.0 h.1) (λ context under x same. tt) rules tt tt tt each
    in
    grants-each {S = Unit {0}} (λ left context. av_at version None) (λ context x. context) spell_av rules tt granted

-- a node fits, and each of its rules is held
pub record HeldNode (version : ℕ) (node : CondNodeRec) : Type 0 where
  pub fits : CondNodeFits node
  pub true_rules : AllByRecursion (HeldFits 34 version) node.true_rules
  pub false_rules : AllByRecursion (HeldFits 34 version) node.false_rules

rules-again : (version : ℕ) (d : Field) → IsReadAgain (counted d (conditional_rules_at version)) (spell_counted spell_av) (CountedFits AvFits)
rules-again version d = counted_records_again d (av_at version None) spell_av AvFits (av_again version None)

-- the rules of a branch, behind their count
branch-granted : (old version : ℕ) (d : Field) (rules : List AvRec) → CountedFits AvFits rules → AllByRecursion (HeldFits 34 version) rules → Stood (counted d (conditional_rules_at old)) rules (spell_counted spell_av rules)
    → GrantsOf (counted d (conditional_rules_at version)) rules (spell_counted spell_av rules)
branch-granted old version d rules fits held stood =
    let count = stood-part (conditional_rules_at old) (flat_map spell_av rules) (Again-number d 4 (length rules) fits.count) stood in
    grants-counted d (conditional_rules_at version) spell_av rules fits.count (conditional-granted old version rules held count.others)

node-granted : (old version : ℕ) (node : CondNodeRec) → HeldNode version node → Stood (condnode_at old) node (spell_condnode node) → GrantsOf (condnode_at version) node (spell_condnode node)
unfolding condnode_at
node-granted old version node h stood =
    let fits = h.fits in
    let false_text = spell_counted spell_av node.false_rules in
    let true_text = spell_counted spell_av node.true_rules ++ false_text in
    let there = stood-as {t = spell_condition node.condition ++ true_text} stood (simp append_assoc) in
    let condition = stood-part _ true_text (condition_again node.condition fits.condition) there in
    let true_rules = stood-part _ false_text (rules-again old CONDNODE_NTRUE node.true_rules fits.true_rules) condition.others in
    let false_rules = stood-part _ [] (rules-again old CONDNODE_NFALSE node.false_rules fits.false_rules) (stood-last true_rules.others) in
    grants-as
    (grants-then _ (grants-moved moves-condition (condition_again node.condition fits.condition) condition.first)
    (grants-then _ (branch-granted old version CONDNODE_NTRUE node.true_rules fits.true_rules h.true_rules true_rules.first)
    (grants-then _ (branch-granted old version CONDNODE_NFALSE node.false_rules fits.false_rules h.false_rules false_rules.first)
    (grants-done node refl))))
    (simp (append_assoc, append-nil))

pub conditionals-granted : (old version : ℕ) (nodes : List CondNodeRec) → CountedFits CondNodeFits nodes → AllByRecursion (HeldNode version) nodes → Stood (plain_conditionals_at old) nodes (spell_counted spell_condnode nodes)
    → GrantsOf (plain_conditionals_at version) nodes (spell_counted spell_condnode nodes)
unfolding plain_conditionals_at records_at
conditionals-granted old version nodes fits held stood =
    let count = stood-part (records_at (condnode_at old)) (flat_map spell_condnode nodes) (Again-number CONDLIST_COUNT 4 (length nodes) fits.count) stood in
    let each = stood-records (condnode_at old) spell_condnode (HeldNode version) (λ x h. condnode_again old x h.fits) nodes held count.others in
    let granted = each-under {S = Unit {0}} {T = Unit {0}} (λ left context x. HeldNode version x × Stood (condnode_at old) x (spell_condnode x)) (λ context x. context) (λ left under x. GrantsOf (condnode_at version) x (spell_condnode x)) (λ under x. under) (λ context under. Unit {0})
    (λ left context under x same h. node-granted old version x h.0 h.1) (λ context under x same. tt) nodes tt tt tt each
    in
    grants-counted CONDLIST_COUNT (records_at (condnode_at version)) spell_condnode nodes fits.count (grants-each {S = Unit {0}} (λ left context. condnode_at version) (λ context x. context) spell_condnode nodes tt granted)
