-- Values that are read have no wrong optional part: for parts, and for lists.
use Rattle.std.proofs.Common.{◌≡◌, ℕ, Bool, true, false, Option, Some, None, List, [], ◌∷◌, All, IfSome, is_some, if◌then◌else◌, refl}
use Rattle.std.proofs.lemmas.List.Elements.{All-head, All-tail}
use Rattle.pol_fields.specs.declared.Field.{Field}
use Rattle.pol_cursor.specs.Outcome.{Reader}
use Rattle.pol_cursor.specs.Parts.{list_of, optional, records_at, counted, number}
use Rattle.pol_cursor.specs.References.{Placed, placed, values_of}
use Rattle.pol_cursor.specs.Contexts.{records_after}
use Rattle.pol_symtab.specs.Inner.Freshness.{Gives}
use Rattle.pol_symtab.proofs.FreshRecords.{Gives-part, Gives-done}
use Rattle.pol_file.proofs.ReadValues.{gives-others, gives-weaker, gives-placed, gives-list_of}
use Rattle.pol_tree.specs.OptionalParts.{shape_of_part, first_in}
use Rattle.pol_tree.proofs.Wrongs.{none-first, none-last}

-- no value that is read has a wrong part
abbrev pub IsShaped : {A : Type 0} → Reader A → (A → Option Field) → Type 0
IsShaped r shape = Gives r (λ x. shape x ≡ None)

-- a part that is there where it has to be
pub part_shaped : {A : Type 0} (there : Bool) (part : Option A) (field : Field) → is_some part ≡ there → shape_of_part there part field ≡ None
part_shaped true (Some x) field e = refl
part_shaped true None field e = absurd cc
part_shaped false (Some x) field e = absurd cc
part_shaped false None field e = refl

-- one reader or another
pub gives-either : {A : Type 0} {r s : Reader A} (P : Bool → A → Type 0) (b : Bool) → Gives r (P true) → Gives s (P false) → Gives (if b then r else s) (P b)
gives-either P true h k = h
gives-either P false h k = k

-- a part that is there or not, and a part of it
pub gives-optional : {A : Type 0} {r : Reader A} {P : A → Type 0} (there : Bool) → Gives r P → Gives (optional there r) (λ part. (is_some part ≡ there) × IfSome part P)
unfolding optional
gives-optional true gives = Gives-part gives λ x has. Gives-done _ (Some x) (refl, has)
gives-optional false gives = Gives-done _ None (refl, tt)

-- lists whose items are read under what the ones before them made of a context
all_shaped : {A : Type 0} (shape : A → Option Field) (xs : List A) → All (λ x. shape x ≡ None) xs → first_in shape xs ≡ None
all_shaped shape [] all = none-last
all_shaped shape (x ∷ xs) all = none-first _ _ (All-head (λ x. shape x ≡ None) x xs all) (all_shaped shape xs (All-tail (λ x. shape x ≡ None) x xs all))

pub shaped-list_of : {S A : Type 0} (item : ℕ → S → Reader A) (step : S → A → S) (shape : A → Option Field) → ((left : ℕ) (context : S) → IsShaped (item left context) shape) → (n : ℕ) (context : S) → IsShaped (list_of item step n context) (first_in shape)
shaped-list_of item step shape each n context =
    gives-weaker (gives-list_of item step (λ context. Unit {0}) (λ x. shape x ≡ None) (λ left context known. each left context) (λ context x known. tt) n context tt)
    (λ xs are. all_shaped shape xs are.each)

-- records that are read alone
pub shaped-records_at : {A : Type 0} (record_at : Reader A) (shape : A → Option Field) → IsShaped record_at shape → (n : ℕ) → IsShaped (records_at record_at n) (first_in shape)
unfolding records_at
shaped-records_at record_at shape each n = shaped-list_of (λ left context. record_at) (λ context x. context) shape (λ left context. each) n tt

-- lists of records behind their count
pub shaped-counted : {A : Type 0} {record_at : Reader A} {shape : A → Option Field} (d : Field) → IsShaped record_at shape → IsShaped (counted d (records_at record_at)) (first_in shape)
shaped-counted {A} {record_at} {shape} d each = gives-others (number d 4) λ n. shaped-records_at record_at shape each n

-- records with their places, which are seen without them
all_shaped-placed : {A : Type 0} (shape : A → Option Field) (records : List (Placed A)) → All (λ (r : Placed A). shape r.value ≡ None) records → first_in shape (values_of records) ≡ None
all_shaped-placed shape [] all = none-last
all_shaped-placed {A} shape (r ∷ rs) all =
    none-first _ _ (All-head (λ (r : Placed A). shape r.value ≡ None) r rs all) (all_shaped-placed shape rs (All-tail (λ (r : Placed A). shape r.value ≡ None) r rs all))

-- no record of a list that is read has a wrong part
abbrev pub AreShaped : {A : Type 0} → Reader (List (Placed A)) → (A → Option Field) → Type 0
AreShaped r shape = IsShaped r (λ records. first_in shape (values_of records))

shaped-placed_of : {S A : Type 0} (item : ℕ → S → Reader (Placed A)) (step : S → Placed A → S) (shape : A → Option Field) → ((left : ℕ) (context : S) → Gives (item left context) (λ r. shape r.value ≡ None)) → (n : ℕ) (context : S)
    → AreShaped (list_of item step n context) shape
shaped-placed_of item step shape each n context =
    gives-weaker (gives-list_of item step (λ context. Unit {0}) (λ r. shape r.value ≡ None) (λ left context known. each left context) (λ context r known. tt) n context tt)
    (λ records are. all_shaped-placed shape records are.each)

shaped-placed : {A : Type 0} {record_at : Reader A} {shape : A → Option Field} → IsShaped record_at shape → (n : ℕ) → AreShaped (records_at (placed record_at) n) shape
unfolding records_at
shaped-placed {A} {record_at} {shape} each n = shaped-placed_of (λ left context. placed record_at) (λ context r. context) shape (λ left context. gives-placed each) n tt

-- records that are read alone, behind their count
pub shaped-placed_list : {A : Type 0} {record_at : Reader A} {shape : A → Option Field} (d : Field) → IsShaped record_at shape → AreShaped (counted d (records_at (placed record_at))) shape
shaped-placed_list d each = gives-others (number d 4) λ n. shaped-placed each n

-- records that are read under what the ones before them made of a context
pub shaped-records_after : {S A : Type 0} (record_at : S → Reader A) (after : S → A → S) (shape : A → Option Field) → ((context : S) → IsShaped (record_at context) shape) → (n : ℕ) (context : S) → AreShaped (records_after record_at after n context) shape
unfolding records_after
shaped-records_after record_at after shape each n context = shaped-placed_of (λ left context. placed (record_at context)) (λ context r. after context r.value) shape (λ left context. gives-placed (each context)) n context
