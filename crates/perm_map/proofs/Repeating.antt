-- Reading entries so many times.
use Rattle.std.proofs.Common.{◌≡◌, ℕ, zero, suc, ◌+◌, ◌<◌, List, [], ◌∷◌, ◌++◌, Ok, Err, refl, sym, ap, ◌∙◌, arith, append_assoc, append-nil, length}
use Rattle.std.specs.List.{fold}
use Rattle.std.proofs.lemmas.List.Sums.{fold-append}
use Rattle.perm_map.specs.declared.map_fault.MapFault.{MapFault}
use Rattle.perm_map.specs.declared.map_fault.MapCause.TheVariants.{Extra}
use Rattle.text_rows.specs.TextLines.{Rest, Row, lines_of, rows_from}
use Rattle.perm_map.specs.MapFields.{ClassLine, PermissionLine, class_in, count_in, permission_in}
use Rattle.perm_map.specs.PermissionMap.{Entry, Reading, Weights, and_then, class_at, classes_at, ended, entry_of, fault_at, map_of, next_line, permission_at, times, weights_of}
use Rattle.perm_map.specs.Inner.MapReading.{ReadsAll, with_entries, with_entry}
use Rattle.perm_map.proofs.Gaining.{gained_all}

-- entries that were read before others
abbrev pub put_before : List Entry → Reading (List Entry) → Reading (List Entry)
put_before entries reading = and_then reading (λ others rest. Ok (entries ++ others, rest))

-- So many of a number of readings are done, and a map has gained their entries.
pub record Done (read : List Row → Reading (List Entry)) (count i : ℕ) (old new : Rest) (before after : List Entry) : Type 0 where
  pub entries : List Entry
  pub left : ℕ
  pub all : i + left ≡ count
  pub reads : times count read old.rows ≡ put_before entries (times left read new.rows)
  pub past : new.past ≡ old.past
  pub gains : weights_of after ≡ with_entries (weights_of before) entries

put_before_nil : (reading : Reading (List Entry)) → reading ≡ put_before [] reading
put_before_nil (Ok got) = refl
put_before_nil (Err fault) = refl

put_before_twice : (xs ys : List Entry) (reading : Reading (List Entry)) → put_before xs (put_before ys reading) ≡ put_before (xs ++ ys) reading
put_before_twice xs ys (Ok got) = ap (λ (entries : List Entry). let r : Reading (List Entry) = Ok (entries, got.1) in r) (sym (append_assoc xs ys got.0))
put_before_twice xs ys (Err fault) = refl

pub done_none : (read : List Row → Reading (List Entry)) (count : ℕ) (old : Rest) (before : List Entry) → Done read count 0 old old before before
done_none read count old before = record {
  entries = [];
  left = count;
  all = omega arith;
  reads = put_before_nil (times count read old.rows);
  past = refl;
  gains = refl;
}

-- one more, whose entries were read
one_more : {read : List Row → Reading (List Entry)} {count i : ℕ} {old mid new : Rest} {before between after : List Entry} → (done : Done read count i old mid before between) → (left : ℕ) → done.left ≡ suc left → (entries : List Entry) → read mid.rows ≡ Ok (entries, new.rows) → new.past ≡ mid.past → weights_of after ≡ with_entries (weights_of between) entries → Done read count (i + 1) old new before after
one_more {read} {count} {i} {old} {mid} {new} {before} {between} {after} done left is entries read_is past gains =
    let there : times (suc left) read mid.rows ≡ put_before entries (times left read new.rows) = ap (λ (r : Reading (List Entry)). and_then r (λ first rest. and_then (times left read rest) (λ others last. Ok (first ++ others, last)))) read_is in
    let split : fold with_entry (weights_of before) (done.entries ++ entries) ≡ fold with_entry (fold with_entry (weights_of before) done.entries) entries = fold-append with_entry (weights_of before) done.entries entries in
    record {
      entries = done.entries ++ entries;
      left = left;
      all = omega (arith, done.all, is);
      reads = done.reads ∙ ap (λ (n : ℕ). put_before done.entries (times n read mid.rows)) is ∙ ap (put_before done.entries) there ∙ put_before_twice done.entries entries (times left read new.rows);
      past = past ∙ done.past;
      gains = gains ∙ ap (λ (w : Weights). fold with_entry w entries) done.gains ∙ sym split;
    }

-- a call that reads once more
pub done_more : (read : ℕ → List Row → Reading (List Entry)) (count i : ℕ) (old mid new : Rest) (before between after : List Entry) → Done (read old.past) count i old mid before between → i < count → ReadsAll (read mid.past) mid new between after → Done (read old.past) count (i + 1) old new before after
done_more read count i old mid new before between after done lt reads = by done.left refl
  where
    here : read old.past mid.rows ≡ Ok (reads.0, new.rows)
    here = ap (λ (past : ℕ). read past mid.rows) (sym done.past) ∙ reads.1

    by : (left : ℕ) → done.left ≡ left → Done (read old.past) count (i + 1) old new before after
    by zero is = absurd (omega (arith, done.all, is))
    by (suc left) is = one_more done left is reads.0 here reads.2 reads.3

-- a call that fails
fault_at_last : (read : List Row → Reading (List Entry)) (left : ℕ) (rows : List Row) (fault : MapFault) → read rows ≡ Err fault → times (suc left) read rows ≡ Err fault
fault_at_last read left rows fault is = ap (λ (r : Reading (List Entry)). and_then r (λ first rest. and_then (times left read rest) (λ others last. Ok (first ++ others, last)))) is

pub done_fails : (read : ℕ → List Row → Reading (List Entry)) (count i : ℕ) (old mid : Rest) (before between : List Entry) (fault : MapFault) → Done (read old.past) count i old mid before between → i < count → read mid.past mid.rows ≡ Err fault → times count (read old.past) old.rows ≡ Err fault
done_fails read count i old mid before between fault done lt reads = by done.left refl
  where
    here : read old.past mid.rows ≡ Err fault
    here = ap (λ (past : ℕ). read past mid.rows) (sym done.past) ∙ reads

    by : (left : ℕ) → done.left ≡ left → times count (read old.past) old.rows ≡ Err fault
    by zero is = absurd (omega (arith, done.all, is))
    by (suc left) is =
        done.reads ∙ ap (λ (n : ℕ). put_before done.entries (times n (read old.past) mid.rows)) is
        ∙ ap (put_before done.entries) (fault_at_last (read old.past) left mid.rows fault here)

-- all of them
pub done_all : (read : List Row → Reading (List Entry)) (count : ℕ) (old new : Rest) (before after : List Entry) → Done read count count old new before after → ReadsAll (times count read) old new before after
done_all read count old new before after done = by done.left refl
  where
    by : (left : ℕ) → done.left ≡ left → ReadsAll (times count read) old new before after
    by zero is =
        let reads : times count read old.rows ≡ Ok (done.entries ++ [], new.rows) = done.reads ∙ ap (λ (n : ℕ). put_before done.entries (times n read new.rows)) is in
        (done.entries, reads ∙ ap (λ (entries : List Entry). let r : Reading (List Entry) = Ok (entries, new.rows) in r) (append-nil done.entries), done.past, done.gains)
    by (suc left) is = absurd (omega (arith, done.all, is))

-- ---- the kinds of lines

pub permission_read : (old mid : Rest) (class : List ℕ) (line : PermissionLine) (before after : List Entry) → next_line permission_in old.past old.rows ≡ Ok (line, mid.rows) → mid.past ≡ old.past → weights_of after ≡ with_entry (weights_of before) (entry_of class line) → ReadsAll (permission_at old.past class) old mid before after
permission_read old mid class line before after is past gains =
    (entry_of class line ∷ [], ap (λ (r : Reading PermissionLine). and_then r (λ line rest. Ok (entry_of class line ∷ [], rest))) is, past, gains)

pub class_read : (old mid new : Rest) (line : ClassLine) (before after : List Entry) → next_line class_in old.past old.rows ≡ Ok (line, mid.rows) → mid.past ≡ old.past → ReadsAll (times line.count (permission_at mid.past line.name)) mid new before after → ReadsAll (class_at old.past) old new before after
class_read old mid new line before after is past reads =
    let there : class_at old.past old.rows ≡ times line.count (permission_at old.past line.name) mid.rows = ap (λ (r : Reading ClassLine). and_then r (λ class rest. times class.count (permission_at old.past class.name) rest)) is in
    (reads.0, there ∙ ap (λ (n : ℕ). times line.count (permission_at n line.name) mid.rows) (sym past) ∙ reads.1, reads.2 ∙ past, reads.3)

pub class_fails : (old mid : Rest) (line : ClassLine) (fault : MapFault) → next_line class_in old.past old.rows ≡ Ok (line, mid.rows) → mid.past ≡ old.past → times line.count (permission_at mid.past line.name) mid.rows ≡ Err fault → class_at old.past old.rows ≡ Err fault
class_fails old mid line fault is past fails =
    let there : class_at old.past old.rows ≡ times line.count (permission_at old.past line.name) mid.rows = ap (λ (r : Reading ClassLine). and_then r (λ class rest. times class.count (permission_at old.past class.name) rest)) is in
    there ∙ ap (λ (n : ℕ). times line.count (permission_at n line.name) mid.rows) (sym past) ∙ fails

pub classes_read : (old mid new : Rest) (count : ℕ) (before after : List Entry) → next_line count_in old.past old.rows ≡ Ok (count, mid.rows) → mid.past ≡ old.past → ReadsAll (times count (class_at mid.past)) mid new before after → ReadsAll (classes_at old.past) old new before after
classes_read old mid new count before after is past reads =
    let there : classes_at old.past old.rows ≡ times count (class_at old.past) mid.rows = ap (λ (r : Reading ℕ). and_then r (λ count rest. times count (class_at old.past) rest)) is in
    (reads.0, there ∙ ap (λ (n : ℕ). times count (class_at n) mid.rows) (sym past) ∙ reads.1, reads.2 ∙ past, reads.3)

pub classes_fail : (old mid : Rest) (count : ℕ) (fault : MapFault) → next_line count_in old.past old.rows ≡ Ok (count, mid.rows) → mid.past ≡ old.past → times count (class_at mid.past) mid.rows ≡ Err fault → classes_at old.past old.rows ≡ Err fault
classes_fail old mid count fault is past fails =
    let there : classes_at old.past old.rows ≡ times count (class_at old.past) mid.rows = ap (λ (r : Reading ℕ). and_then r (λ count rest. times count (class_at old.past) rest)) is in
    there ∙ ap (λ (n : ℕ). times count (class_at n) mid.rows) (sym past) ∙ fails

-- ---- the whole map

abbrev start_of : List ℕ → Rest
start_of bytes = record { rows = rows_from 1 (lines_of bytes); past = length (lines_of bytes) + 1 }

pub map_read : (bytes : List ℕ) (start rest : Rest) (none kept : List Entry) → start ≡ start_of bytes → none ≡ [] → ReadsAll (classes_at start.past) start rest none kept → rest.rows ≡ [] → (entries : List Entry) × (map_of bytes ≡ Ok entries) × (weights_of kept ≡ weights_of entries)
map_read bytes start rest none kept is empty reads end =
    let whole : classes_at start.past start.rows ≡ Ok (reads.0, []) = reads.1 ∙ ap (λ (rows : List Row). let r : Reading (List Entry) = Ok (reads.0, rows) in r) end in (
      reads.0,
      ap (λ (s : Rest). ended (classes_at s.past s.rows)) (sym is) ∙ ap ended whole,
      reads.3 ∙ ap (λ (old : List Entry). with_entries (weights_of old) reads.0) empty ∙ gained_all reads.0,
    )

pub map_extra : (bytes : List ℕ) (start rest : Rest) (none kept : List Entry) (row : Row) (rows : List Row) → start ≡ start_of bytes → ReadsAll (classes_at start.past) start rest none kept → rest.rows ≡ row ∷ rows → map_of bytes ≡ Err (fault_at row.number Extra)
map_extra bytes start rest none kept row rows is reads end =
    let whole : classes_at start.past start.rows ≡ Ok (reads.0, row ∷ rows) = reads.1 ∙ ap (λ (rows : List Row). let r : Reading (List Entry) = Ok (reads.0, rows) in r) end in
    ap (λ (s : Rest). ended (classes_at s.past s.rows)) (sym is) ∙ ap ended whole
