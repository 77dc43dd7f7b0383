-- The two laws of genfs: of a path, and of a file system with its paths.
use Rattle.std.proofs.Common.{append_assoc}
use Rattle.std.proofs.lemmas.List.{append-nil}
use Rattle.pol_fields.specs.declared.fields.TheConstants.{GENFS_LEN, GENFS_FSTYPE, GENFS_NPATHS, GENFS_PATHLEN, GENFS_PATH, GENFS_CLASS}
use Rattle.pol_cursor.specs.Parts.{counted, records_at, spell_counted, CountedFits}
use Rattle.pol_cursor.specs.Laws.{IsReadAgain, IsReadFromSpelling}
use Rattle.pol_cursor.proofs.Laws.{Reads-done, Reads-part, Reads-number, Again-done, Again-part, Again-as, Again-number, counted_records_spelled, counted_records_again}
use Rattle.pol_cursor.proofs.NameLaws.{name_spelled, name_again}
use Rattle.pol_genfs.specs.GenfsRecord.{path_at, spell_path, PathFits, genfs_at, spell_genfs, GenfsFits}
use Rattle.pol_mls.proofs.ContextLaws.{context_spelled, context_again}

pub path_spelled : IsReadFromSpelling path_at spell_path PathFits
unfolding path_at
path_spelled =
    Reads-part (name_spelled GENFS_PATHLEN GENFS_PATH) λ path path-fits.
    Reads-part (Reads-number GENFS_CLASS 4) λ class class-fits.
    Reads-part context_spelled λ context context-fits.
    Reads-done _ (record { path = path; class = class; context = context }) (record {
      same = simp (append_assoc, append-nil);
      fitting = record { path = path-fits; class = class-fits; context = context-fits };
    })

pub path_again : IsReadAgain path_at spell_path PathFits
unfolding path_at
path_again entry fits =
    Again-as
    (Again-part _ (name_again GENFS_PATHLEN GENFS_PATH entry.path fits.path)
    (Again-part _ (Again-number GENFS_CLASS 4 entry.class fits.class)
    (Again-part _ (context_again entry.context fits.context)
    (Again-done entry))))
    (simp (append_assoc, append-nil))

paths_spelled : IsReadFromSpelling (counted GENFS_NPATHS (records_at path_at)) (spell_counted spell_path) (CountedFits PathFits)
paths_spelled = counted_records_spelled GENFS_NPATHS path_at spell_path PathFits path_spelled

paths_again : IsReadAgain (counted GENFS_NPATHS (records_at path_at)) (spell_counted spell_path) (CountedFits PathFits)
paths_again = counted_records_again GENFS_NPATHS path_at spell_path PathFits path_again

pub genfs_spelled : IsReadFromSpelling genfs_at spell_genfs GenfsFits
unfolding genfs_at
genfs_spelled =
    Reads-part (name_spelled GENFS_LEN GENFS_FSTYPE) λ fstype fstype-fits.
    Reads-part paths_spelled λ paths paths-fits.
    Reads-done _ (record { fstype = fstype; paths = paths }) (record {
      same = simp (append_assoc, append-nil);
      fitting = record { fstype = fstype-fits; paths = paths-fits };
    })

pub genfs_again : IsReadAgain genfs_at spell_genfs GenfsFits
unfolding genfs_at
genfs_again entry fits =
    Again-as
    (Again-part _ (name_again GENFS_LEN GENFS_FSTYPE entry.fstype fits.fstype)
    (Again-part _ (paths_again entry.paths fits.paths)
    (Again-done entry)))
    (simp (append_assoc, append-nil))
