-- The two laws of transitions and role allows.
use Rattle.std.proofs.Common.{None, append_assoc}
use Rattle.std.proofs.lemmas.List.{append-nil}
use Rattle.pol_fields.specs.declared.fields.TheConstants.{ROLETRANS_ROLE, ROLETRANS_TYPE, ROLETRANS_NEWROLE, ROLETRANS_CLASS, ROLEALLOW_ROLE, ROLEALLOW_NEWROLE, NAMETRANS_LEN, NAMETRANS_NAME, NAMETRANS_SOURCE, NAMETRANS_TARGET, NAMETRANS_CLASS, NAMETRANS_DEFAULT, NAMEGROUP_LEN, NAMEGROUP_NAME, NAMEGROUP_TARGET, NAMEGROUP_CLASS, NAMEGROUP_NDATUM, NAMEGROUP_DEFAULT, RANGETRANS_SOURCE, RANGETRANS_TARGET, RANGETRANS_CLASS}
use Rattle.pol_cursor.specs.Laws.{IsReadAgain, IsReadFromSpelling}
use Rattle.pol_cursor.proofs.Laws.{Reads-done, Reads-part, Reads-number, Again-done, Again-part, Again-as, Again-number, counted_records_spelled, counted_records_again}
use Rattle.pol_bitmap.proofs.Laws.{bitmap_spelled, bitmap_again}
use Rattle.pol_mls.proofs.MlsLaws.{range_spelled, range_again}
use Rattle.pol_trans.specs.RoleAllowRecord.{role_allow_at, spell_role_allow, RoleAllowFits}
use Rattle.pol_trans.specs.RoleTransRecord.{role_trans_at, spell_role_trans, RoleTransFits}
use Rattle.pol_cursor.proofs.NameLaws.{name_spelled, name_again}
use Rattle.pol_trans.specs.NameTransRecord.{name_trans_at, spell_name_trans, NameTransFits}
use Rattle.pol_trans.specs.NameGroupRecord.{name_datum_at, spell_name_datum, NameDatumFits, name_group_at, spell_name_group, NameGroupFits}
use Rattle.pol_trans.specs.RangeTransRecord.{range_trans_at, spell_range_trans, RangeTransFits}

-- ---- role allows

pub role_allow_spelled : IsReadFromSpelling role_allow_at spell_role_allow RoleAllowFits
unfolding role_allow_at
role_allow_spelled =
    Reads-part (Reads-number ROLEALLOW_ROLE 4) λ role role-fits.
    Reads-part (Reads-number ROLEALLOW_NEWROLE 4) λ newrole newrole-fits.
    Reads-done _ (record { role = role; newrole = newrole }) (record {
      same = simp append-nil;
      fitting = record { role = role-fits; newrole = newrole-fits };
    })

pub role_allow_again : IsReadAgain role_allow_at spell_role_allow RoleAllowFits
unfolding role_allow_at
role_allow_again allow fits =
    Again-as
    (Again-part _ (Again-number ROLEALLOW_ROLE 4 allow.role fits.role)
    (Again-part _ (Again-number ROLEALLOW_NEWROLE 4 allow.newrole fits.newrole)
    (Again-done allow)))
    (simp append-nil)

-- ---- role transitions

pub role_trans_spelled : IsReadFromSpelling role_trans_at spell_role_trans RoleTransFits
unfolding role_trans_at
role_trans_spelled =
    Reads-part (Reads-number ROLETRANS_ROLE 4) λ role role-fits.
    Reads-part (Reads-number ROLETRANS_TYPE 4) λ type_value type_value-fits.
    Reads-part (Reads-number ROLETRANS_NEWROLE 4) λ newrole newrole-fits.
    Reads-part (Reads-number ROLETRANS_CLASS 4) λ class class-fits.
    Reads-done _ (record { role = role; type_value = type_value; newrole = newrole; class = class }) (record {
      same = simp (append_assoc, append-nil);
      fitting = record { role = role-fits; type_value = type_value-fits; newrole = newrole-fits; class = class-fits };
    })

pub role_trans_again : IsReadAgain role_trans_at spell_role_trans RoleTransFits
unfolding role_trans_at
role_trans_again trans fits =
    Again-as
    (Again-part _ (Again-number ROLETRANS_ROLE 4 trans.role fits.role)
    (Again-part _ (Again-number ROLETRANS_TYPE 4 trans.type_value fits.type_value)
    (Again-part _ (Again-number ROLETRANS_NEWROLE 4 trans.newrole fits.newrole)
    (Again-part _ (Again-number ROLETRANS_CLASS 4 trans.class fits.class)
    (Again-done trans)))))
    (simp (append_assoc, append-nil))

-- ---- file-name transitions

pub name_trans_spelled : IsReadFromSpelling name_trans_at spell_name_trans NameTransFits
unfolding name_trans_at
name_trans_spelled =
    Reads-part (name_spelled NAMETRANS_LEN NAMETRANS_NAME) λ name name-fits.
    Reads-part (Reads-number NAMETRANS_SOURCE 4) λ source source-fits.
    Reads-part (Reads-number NAMETRANS_TARGET 4) λ target target-fits.
    Reads-part (Reads-number NAMETRANS_CLASS 4) λ class class-fits.
    Reads-part (Reads-number NAMETRANS_DEFAULT 4) λ default default-fits.
    Reads-done _ (record { name = name; source = source; target = target; class = class; default = default }) (record {
      same = simp (append_assoc, append-nil);
      fitting = record { len = name-fits; source = source-fits; target = target-fits; class = class-fits; default = default-fits };
    })

pub name_trans_again : IsReadAgain name_trans_at spell_name_trans NameTransFits
unfolding name_trans_at
name_trans_again trans fits =
    Again-as
    (Again-part _ (name_again NAMETRANS_LEN NAMETRANS_NAME trans.name fits.len)
    (Again-part _ (Again-number NAMETRANS_SOURCE 4 trans.source fits.source)
    (Again-part _ (Again-number NAMETRANS_TARGET 4 trans.target fits.target)
    (Again-part _ (Again-number NAMETRANS_CLASS 4 trans.class fits.class)
    (Again-part _ (Again-number NAMETRANS_DEFAULT 4 trans.default fits.default)
    (Again-done trans))))))
    (simp (append_assoc, append-nil))

-- ---- range transitions

pub range_trans_spelled : IsReadFromSpelling range_trans_at spell_range_trans RangeTransFits
unfolding range_trans_at
range_trans_spelled =
    Reads-part (Reads-number RANGETRANS_SOURCE 4) λ source source-fits.
    Reads-part (Reads-number RANGETRANS_TARGET 4) λ target target-fits.
    Reads-part (Reads-number RANGETRANS_CLASS 4) λ class class-fits.
    Reads-part range_spelled λ range range-fits.
    Reads-done _ (record { source = source; target = target; class = class; range = range }) (record {
      same = simp (append_assoc, append-nil);
      fitting = record { source = source-fits; target = target-fits; class = class-fits; range = range-fits };
    })

pub range_trans_again : IsReadAgain range_trans_at spell_range_trans RangeTransFits
unfolding range_trans_at
range_trans_again trans fits =
    Again-as
    (Again-part _ (Again-number RANGETRANS_SOURCE 4 trans.source fits.source)
    (Again-part _ (Again-number RANGETRANS_TARGET 4 trans.target fits.target)
    (Again-part _ (Again-number RANGETRANS_CLASS 4 trans.class fits.class)
    (Again-part _ (range_again trans.range fits.range)
    (Again-done trans)))))
    (simp (append_assoc, append-nil))

-- ---- groups of file-name transitions

name_datum_spelled : IsReadFromSpelling name_datum_at spell_name_datum NameDatumFits
unfolding name_datum_at
name_datum_spelled =
    Reads-part (bitmap_spelled None) λ sources sources-fits.
    Reads-part (Reads-number NAMEGROUP_DEFAULT 4) λ default default-fits.
    Reads-done _ (record { sources = sources; default = default }) (record {
      same = simp (append_assoc, append-nil);
      fitting = record { sources = sources-fits; default = default-fits };
    })

name_datum_again : IsReadAgain name_datum_at spell_name_datum NameDatumFits
unfolding name_datum_at
name_datum_again datum fits =
    Again-as
    (Again-part _ (bitmap_again None datum.sources fits.sources)
    (Again-part _ (Again-number NAMEGROUP_DEFAULT 4 datum.default fits.default)
    (Again-done datum)))
    (simp (append_assoc, append-nil))

pub name_group_spelled : IsReadFromSpelling name_group_at spell_name_group NameGroupFits
unfolding name_group_at
name_group_spelled =
    Reads-part (name_spelled NAMEGROUP_LEN NAMEGROUP_NAME) λ name name-fits.
    Reads-part (Reads-number NAMEGROUP_TARGET 4) λ target target-fits.
    Reads-part (Reads-number NAMEGROUP_CLASS 4) λ class class-fits.
    Reads-part (counted_records_spelled NAMEGROUP_NDATUM name_datum_at spell_name_datum NameDatumFits name_datum_spelled) λ datums datums-fits.
    Reads-done _ (record { name = name; target = target; class = class; datums = datums }) (record {
      same = simp (append_assoc, append-nil);
      fitting = record { len = name-fits; target = target-fits; class = class-fits; datums = datums-fits };
    })

pub name_group_again : IsReadAgain name_group_at spell_name_group NameGroupFits
unfolding name_group_at
name_group_again group fits =
    Again-as
    (Again-part _ (name_again NAMEGROUP_LEN NAMEGROUP_NAME group.name fits.len)
    (Again-part _ (Again-number NAMEGROUP_TARGET 4 group.target fits.target)
    (Again-part _ (Again-number NAMEGROUP_CLASS 4 group.class fits.class)
    (Again-part _ (counted_records_again NAMEGROUP_NDATUM name_datum_at spell_name_datum NameDatumFits name_datum_again group.datums fits.datums)
    (Again-done group)))))
    (simp (append_assoc, append-nil))
