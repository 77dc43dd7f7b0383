-- A table is its head, and its records under what the head starts.
use Rattle.std.proofs.Common.{◌≡◌, ℕ, List, ◌∙◌, ap, sym, refl, [], ◌∷◌}
use Rattle.pol_cursor.specs.Outcome.{Outcome, Position, Got, Reader, and_then}
use Rattle.pol_cursor.specs.References.{Placed}
use Rattle.pol_cursor.specs.Contexts.{context_after}
use Rattle.pol_symtab.specs.declared.table_head.TableHead.{TableHead}
use Rattle.pol_symtab.specs.SymbolTables.{table_head_at, table_records_at, table_at}
use Rattle.pol_classes.specs.declared.class_kind.ClassContext.{ClassContext}
use Rattle.pol_classes.specs.declared.class_rec.ClassRec.{ClassRec}
use Rattle.pol_classes.specs.ClassTables.{after_class}

pub table_from_records : {S A : Type 0} (record_at : S → Reader A) (after : S → A → S) (start : ℕ → S) (head : TableHead) (old mid : Position) → table_head_at old.bytes old.place ≡ Got head mid.place → mid.bytes ≡ old.bytes
    → table_at record_at after start old.bytes old.place ≡ table_records_at record_at after head.nprim head.nel (start head.nprim) mid.bytes mid.place
unfolding table_at
table_from_records record_at after start head old mid e same =
    ap (λ (o : Outcome TableHead). and_then o (λ h next. table_records_at record_at after h.nprim h.nel (start h.nprim) old.bytes next)) e
    ∙ ap (λ (b : List ℕ). table_records_at record_at after head.nprim head.nel (start head.nprim) b mid.place) (sym same)

-- no class changes the commons
pub commons_stay : (context : ClassContext) (classes : List (Placed ClassRec)) → (context_after after_class context classes).commons ≡ context.commons
unfolding context_after
commons_stay context [] = refl
commons_stay context (class ∷ classes) = commons_stay (after_class context class.value) classes
