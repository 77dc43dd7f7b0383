use Rattle.std.proofs.Common.{arith, ◌≡◌, ◌<◌, ◌∙◌, Some, drop, length, slice_get, refl, sym, ap}
use Rattle.std.proofs.lemmas.Option.{slice_get_read}
use Rattle.se_outside.specs.declared.mem_slot.MemFile.{MemFile}
use Rattle.se_outside.specs.MemSlot.{left_of}
use Rattle.se_outside.proofs.SlotLemmas.{open-placed, left-open, left-after}
use Rattle.se_outside.proofs.mem_slot.MemSlot.read.Goals as goal

pub bounds-files-index : goal.bounds-files-index
bounds-files-index c = open-placed _ _ _ _ c.in-Open.is c.requires.placed

pub offset_bounds-files-index : goal.offset_bounds-files-index
offset_bounds-files-index c =
    let lt : c.in-Open.index < length c.args.files.now = open-placed _ _ _ _ c.in-Open.is c.requires.placed in
    omega (arith, lt)

pub returns-clause-amount : goal.returns-clause-amount
returns-clause-amount c =
    let f = c.index-files-index.result in
    let lt : c.in-Open.index < length c.args.files.now = open-placed _ _ _ _ c.in-Open.is c.requires.placed in
    let there : slice_get c.args.files.now c.in-Open.index ≡ Some f = slice_get_read c.args.files.now _ c.in-Open.index f refl lt c.index-files-index.is in
    let bytes : c.deref.result.now ≡ f.bytes.items = c.deref.ensures.value ∙ ap (λ (g : MemFile). g.bytes.items) (sym c.index-files-index.is) in
    rw (left-open _ _ _ _ f c.in-Open.is there, ← bytes) c.copy_some-taken.ensures.amount

pub returns-clause-reads : goal.returns-clause-reads
returns-clause-reads c =
    let f = c.index-files-index.result in
    let lt : c.in-Open.index < length c.args.files.now = open-placed _ _ _ _ c.in-Open.is c.requires.placed in
    let there : slice_get c.args.files.now c.in-Open.index ≡ Some f = slice_get_read c.args.files.now _ c.in-Open.index f refl lt c.index-files-index.is in
    let bytes : c.deref.result.now ≡ f.bytes.items = c.deref.ensures.value ∙ ap (λ (g : MemFile). g.bytes.items) (sym c.index-files-index.is) in
    let left : left_of c.args.files.now c.args.self.now.place ≡ Some (drop c.in-Open.at f.bytes.items) = left-open _ _ _ _ f c.in-Open.is there in
    record {
      asked = rw c.in-Open.is refl;
      named = rw c.in-Open.is refl;
      turned = c.saturating_add-self.ensures;
      later = omega arith;
      failed = tt;
      still = refl;
      bound = c.copy_some-taken.ensures.fits;
      bytes = rw (left, ← bytes) (left-after c.args.files.now c.in-Open.index _ _ f _ there bytes, c.copy_some-taken.ensures.front, c.copy_some-taken.ensures.within, c.copy_some-taken.ensures.end);
    }
